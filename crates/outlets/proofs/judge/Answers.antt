use Rattle.std.proofs.Common.{arith}
use Rattle.outlets.proofs.Passes.{boxes-matched}
use Rattle.outlets.proofs.judge.Goals as goal

pub returns : goal.returns
returns c = let s = c.loop-opened in boxes-matched c.args.table.now c.args.rows (λ o l. s.invariant o (omega arith))
