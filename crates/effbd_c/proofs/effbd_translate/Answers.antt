use mathlib.Core.Path.{◌∙◌, ap}
use Rattle.effbd.specs.Answers.{packed}
use Rattle.effbd_c.proofs.effbd_translate.Goals as goal

pub returns : goal.returns
returns c = record { value = c.pack_answer.ensures ∙ ap packed c.translate.ensures.result_value; area_after = c.translate.ensures.area_after }
