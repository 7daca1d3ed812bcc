use Rattle.std.proofs.Common.{arith}
use Rattle.net_records.proofs.Writing.{runs-start, again, runs-done}
use Rattle.net_uses.specs.FunctionTransitions.{equal_arcs}
use Rattle.net_uses.proofs.equal_arcs.Goals as goal

pub loop-i-init : goal.loop-i-init
loop-i-init c = runs-start _ _

pub loop-i-preserved : goal.loop-i-preserved
loop-i-preserved c = again _ _ c.loop-i.invariant c.arc.ensures

pub returns : goal.returns
unfolding equal_arcs
returns c = runs-done _ _ _ (omega arith) c.loop-i.invariant
