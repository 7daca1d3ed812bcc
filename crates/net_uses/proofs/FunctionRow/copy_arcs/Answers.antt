use Rattle.net_records.proofs.Writing.{still, same}
use Rattle.net_uses.specs.FunctionTransitions.{copy_arcs}
use Rattle.net_uses.proofs.UseArcs.{copies-none}
use Rattle.net_uses.proofs.FunctionRow.copy_arcs.Goals as goal

pub returns-then-weight-eq0 : goal.returns-then-weight-eq0
returns-then-weight-eq0 c = same (copies-none _ _ _ _ _ _ c.if-weight-eq0.true) (still _)

pub returns : goal.returns
unfolding copy_arcs
returns c = rw (← c.run_first-first.ensures, ← c.run_length-number.ensures) c.equal_arcs.ensures
