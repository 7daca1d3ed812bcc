use mathlib.Core.Path.{◌∙◌, ap}
use Rattle.effbd.specs.Answers.{packed}
use Rattle.effbd_c.proofs.effbd_transition.Goals as goal

pub returns : goal.returns
returns c = c.pack_answer.ensures ∙ ap packed c.transition.ensures
