use Rattle.net_records.proofs.Writing.{◌and_then◌}
use Rattle.net_loops.specs.LoopTransitions.{leave}
use Rattle.net_loops.proofs.leave.Goals as goal

pub returns : goal.returns
unfolding leave
returns c = rw (← c.early.ensures, ← c.late.ensures)
    (c.transition.ensures and_then c.arc.ensures and_then c.pair.ensures and_then c.arc-2.ensures and_then c.restores.ensures and_then c.arc-3.ensures)
