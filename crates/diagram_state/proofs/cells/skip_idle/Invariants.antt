use Prim.Native.Nat.{◌-◌, ◌<◌}
use Rattle.diagram_moves.specs.BusyRows.{Idle}
use Rattle.diagram_state.proofs.cells.skip_idle.Given as goal

abbrev pub invariant-loop-row : goal.invariant-loop-row
invariant-loop-row l = (l.row < 4294967296) × Idle l.state l.from l.row

abbrev pub decreases-loop-row : goal.decreases-loop-row
decreases-loop-row l = l.rows - l.row
