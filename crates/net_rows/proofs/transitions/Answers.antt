use Rattle.std.proofs.Common.{arith}
use Rattle.net_records.proofs.Writing.{runs-start, again, runs-done}
use Rattle.net_rows.proofs.transitions.Goals as goal

pub loop-row-init : goal.loop-row-init
loop-row-init c = runs-start _ _

pub loop-row-preserved : goal.loop-row-preserved
loop-row-preserved c = again _ _ c.loop-row.invariant c.row_transitions.ensures

pub returns : goal.returns
returns c = runs-done _ _ _ (omega arith) c.loop-row.invariant
