use Rattle.diagram_moves.specs.Decisions.{count_allowed}
use Rattle.effbd.specs.Ranges.{all_below}
use mathlib.Core.Path.{◌≡◌}
use mathlib.Core.Bool.{true}
use Prim.Native.Nat.{◌≤◌}
use Rattle.diagram_check.proofs.shared_allowed.Given as goal

abbrev pub invariant-loop-item : goal.invariant-loop-item
invariant-loop-item l = (l.item ≤ l.plant.items) × (all_below l.item (count_allowed l.plant.table.now l.plant.rows l.state) ≡ true)
