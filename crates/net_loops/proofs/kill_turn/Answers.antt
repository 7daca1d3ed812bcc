use Rattle.net_records.proofs.Writing.{◌and_then◌}
use Rattle.net_loops.specs.LoopTransitions.{kill_turn}
use Rattle.net_loops.proofs.kill_turn.Goals as goal

pub returns : goal.returns
unfolding kill_turn
returns c = c.transition.ensures and_then c.arc.ensures and_then c.arc-2.ensures and_then c.kill.ensures
