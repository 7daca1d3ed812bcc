use Rattle.diagram_moves.specs.BusyRows.{Idle}
use Rattle.diagram_state.proofs.cells.next_busy.Given as goal

abbrev pub invariant-loop-row : goal.invariant-loop-row
invariant-loop-row l = Idle l.state l.from l.row
