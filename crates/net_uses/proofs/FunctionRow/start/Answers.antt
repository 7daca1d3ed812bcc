use Rattle.net_records.proofs.Writing.{◌and_then◌}
use Rattle.net_uses.specs.FunctionTransitions.{function_start}
use Rattle.net_uses.proofs.FunctionRow.start.Goals as goal

pub returns : goal.returns
unfolding function_start
returns g c = c.transition.ensures and_then c.arc.ensures and_then c.arcs.ensures and_then c.arc-2.ensures
