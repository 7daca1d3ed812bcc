use Rattle.std.proofs.Common.{arith}
use Rattle.net_rows.specs.Rows.{branch_arcs}
use Rattle.net_rows.proofs.ConstructWalks.{behind, walk_start, walk-again, walk-done}
use Rattle.net_rows.proofs.branch_arcs.Goals as goal

pub loop-row-init : goal.loop-row-init
loop-row-init c = walk_start _ _ _ _ _

pub loop-row-smaller : goal.loop-row-smaller
loop-row-smaller c = omega (arith, c.behind-row.ensures, (behind c.args.table.now c.cell-closed.result c.loop-row.row c.loop-row-test.true).on)

pub loop-row-preserved : goal.loop-row-preserved
loop-row-preserved c = rw c.behind-row.ensures (walk-again _ _ _ _ c.loop-row-test.true c.loop-row.invariant c.branch_arc.ensures)

pub returns : goal.returns
unfolding branch_arcs
returns c = rw (← c.cell-closed.ensures) (walk-done _ _ _ _ c.loop-row-test.false c.loop-row.invariant)
