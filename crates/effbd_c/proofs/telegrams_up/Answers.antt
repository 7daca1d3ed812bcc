use mathlib.Core.Path.{◌∙◌, ap}
use Rattle.effbd.specs.Answers.{packed}
use Rattle.effbd_c.proofs.telegrams_up.Goals as goal

pub returns : goal.returns
returns c = record { value = c.pack_answer.ensures ∙ ap packed c.telegrams_up.ensures.result_value; area_after = c.telegrams_up.ensures.area_after }
