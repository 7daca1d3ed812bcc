use mathlib.Core.Path.{◌∙◌, ap}
use Rattle.effbd.specs.Answers.{packed}
use Rattle.effbd_c.proofs.tpn_read.Goals as goal

pub returns : goal.returns
returns c = c.pack_answer.ensures ∙ ap packed c.read.ensures
