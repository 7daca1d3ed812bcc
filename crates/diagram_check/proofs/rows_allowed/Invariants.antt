use Rattle.diagram_moves.specs.Decisions.{row_allowed}
use Rattle.effbd.specs.Ranges.{all_below}
use mathlib.Core.Bool.{true}
use mathlib.Core.Path.{◌≡◌}
use Prim.Native.Nat.{◌≤◌}
use Rattle.diagram_check.proofs.rows_allowed.Given as goal

abbrev pub invariant-loop-row : goal.invariant-loop-row
invariant-loop-row l = (l.row ≤ l.plant.rows) × (all_below l.row (row_allowed l.plant.table.now l.state) ≡ true)
