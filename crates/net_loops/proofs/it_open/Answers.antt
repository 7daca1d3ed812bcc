use Rattle.net_records.proofs.Writing.{◌and_then◌}
use Rattle.net_loops.specs.LoopTransitions.{it_open_records}
use Rattle.net_loops.proofs.it_open.Goals as goal

pub returns : goal.returns
unfolding it_open_records
returns c = rw (← c.entry-inside.ensures, ← c.cell-closed.ensures, ← c.entered_row-changed.ensures) (c.it_turn.ensures and_then c.it_over.ensures)
