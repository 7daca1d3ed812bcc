use Rattle.effbd.specs.Answers.{packed}
use mathlib.Core.Path.{◌∙◌, ap}
use Rattle.effbd_c.proofs.log_starts.Goals as goal

pub returns : goal.returns
returns c = record { value = c.pack_answer.ensures ∙ ap packed c.log_starts.ensures.result_value; at_after = c.log_starts.ensures.at_after }
