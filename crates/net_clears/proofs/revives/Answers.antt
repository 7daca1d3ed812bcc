use Rattle.std.proofs.Common.{arith}
use Rattle.net_records.proofs.Writing.{span-start, span-again, span-done}
use Rattle.net_clears.proofs.revives.Goals as goal

pub loop-row-init : goal.loop-row-init
loop-row-init c = (omega arith, span-start _ _ _)

pub loop-row-preserved : goal.loop-row-preserved
loop-row-preserved c = let l = c.loop-row in
    (omega arith, span-again _ _ _ l.auto.row l.invariant.1 c.revive.ensures)

pub returns : goal.returns
returns c = let l = c.loop-row in
    span-done _ _ _ _ c.loop-row-test.false l.invariant.0 l.invariant.1
