use Rattle.std.proofs.Common.{arith}
use Rattle.net_records.proofs.Writing.{runs-start, again, runs-done}
use Rattle.net_counts.specs.Marks.{item_mark}
use Rattle.net_counts.proofs.of_items.Goals as goal

pub loop-item-init : goal.loop-item-init
loop-item-init c = runs-start _ _

pub loop-item-preserved : goal.loop-item-preserved
unfolding item_mark
loop-item-preserved c = again _ _ c.loop-item.invariant (rw (← c.shared_count.ensures) c.mark.ensures)

pub returns : goal.returns
returns c = runs-done _ _ _ (omega arith) c.loop-item.invariant
