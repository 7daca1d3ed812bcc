use Rattle.net_records.proofs.Writing.{◌and_then◌}
use Rattle.net_uses.specs.FunctionTransitions.{function_of}
use Rattle.net_uses.proofs.FunctionRow.transitions.Goals as goal

pub returns : goal.returns
unfolding function_of
returns g c = c.start.ensures and_then c.end.ensures
