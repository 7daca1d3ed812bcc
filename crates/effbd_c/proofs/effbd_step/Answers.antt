use mathlib.Core.Path.{◌∙◌, ap}
use Rattle.effbd.specs.Answers.{packed}
use Rattle.effbd_c.proofs.effbd_step.Goals as goal

pub returns : goal.returns
returns c = record { value = c.pack_answer.ensures ∙ ap packed c.step.ensures.result_value; state_after = c.step.ensures.state_after }
