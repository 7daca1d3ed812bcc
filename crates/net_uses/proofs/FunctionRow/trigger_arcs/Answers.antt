use Rattle.net_records.proofs.Writing.{◌and_then◌}
use Rattle.net_uses.specs.FunctionTransitions.{trigger_arcs}
use Rattle.net_uses.proofs.FunctionRow.trigger_arcs.Goals as goal

pub returns : goal.returns
unfolding trigger_arcs
returns c = c.pass_arcs.ensures and_then c.pass_arcs-2.ensures
