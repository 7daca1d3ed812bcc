use Rattle.std.proofs.Common.{arith}
use Rattle.net_records.proofs.Writing.{runs-start, again, runs-done}
use Rattle.net_marks.proofs.of_rows.Goals as goal

pub loop-row-init : goal.loop-row-init
loop-row-init c = runs-start _ _

pub loop-row-preserved : goal.loop-row-preserved
loop-row-preserved c = again _ _ c.loop-row.invariant c.row_marks.ensures

pub returns : goal.returns
returns c = rw (← c.entered_row-first.ensures) (runs-done _ _ _ (omega arith) c.loop-row.invariant)
