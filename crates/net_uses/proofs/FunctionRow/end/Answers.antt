use Rattle.net_records.proofs.Writing.{◌and_then◌}
use Rattle.net_uses.specs.FunctionTransitions.{function_end}
use Rattle.net_uses.proofs.FunctionRow.end.Goals as goal

pub returns : goal.returns
unfolding function_end
returns g c = rw (← c.cell-earliest.ensures, ← c.cell-latest.ensures) (c.transition.ensures and_then c.arc.ensures and_then c.enter.ensures and_then c.arcs.ensures)
