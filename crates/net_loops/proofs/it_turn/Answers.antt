use Rattle.net_records.proofs.Writing.{◌and_then◌}
use Rattle.net_loops.specs.LoopTransitions.{it_turn}
use Rattle.net_loops.proofs.it_turn.Goals as goal

pub returns : goal.returns
unfolding it_turn
returns c = rw (← c.early.ensures, ← c.late.ensures)
    (c.transition.ensures and_then c.arc.ensures and_then c.arc-2.ensures and_then c.arc-3.ensures and_then c.arc-4.ensures and_then c.arc-5.ensures)
