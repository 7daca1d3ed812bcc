use Rattle.std.proofs.Common.{arith}
use Rattle.net_records.proofs.Writing.{runs-start, again, runs-done}
use Rattle.net_counts.specs.Marks.{equal_marks}
use Rattle.net_counts.proofs.equal_marks.Goals as goal

pub loop-copy-init : goal.loop-copy-init
loop-copy-init c = runs-start _ _

pub loop-copy-preserved : goal.loop-copy-preserved
loop-copy-preserved c = again _ _ c.loop-copy.invariant c.mark.ensures

pub returns : goal.returns
unfolding equal_marks
returns c = runs-done _ _ _ (omega arith) c.loop-copy.invariant
