use mathlib.Core.Path.{◌∙◌, ap}
use Rattle.effbd.specs.Answers.{packed}
use Rattle.effbd_c.proofs.follower_take.Goals as goal

pub returns : goal.returns
returns c = record { value = c.pack_answer.ensures ∙ ap packed c.take.ensures.result_value; state_after = c.take.ensures.state_after }
