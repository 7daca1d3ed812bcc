use Rattle.logs.proofs.PartWords.{part-word}
use Rattle.effbd.specs.Records.{word}
use native.Mathlib.Omega.{arith}
use mathlib.Core.Path.{◌≡◌, ◌∙◌, ap}
use Prim.Native.Nat.{◌+◌, ◌-◌, ◌*◌, ◌<◌}
use Rattle.logs.proofs.setpoint_at.Goals as goal

pub returns-then-end-log : goal.returns-then-end-log
returns-then-end-log c = let at = 4 * c.args.index in let long : 1 < at + 4 - at = omega arith in let longer : 3 < at + 4 - at = omega arith in (c.word.ensures ∙ (part-word c.args.log.now at (at + 4 - at) 0 long ∙ ap (word c.args.log.now) (let z : at + 0 ≡ at = omega arith in z)), c.word-then-end-log.ensures ∙ part-word c.args.log.now at (at + 4 - at) 2 longer)
