use Rattle.diagram_table.specs.Cells.{uses_of}
use Rattle.diagram_moves.specs.Changes.{counts_changed}
use lib.ListN.{length}
use mathlib.Core.Path.{◌≡◌}
use Prim.Native.Nat.{◌+◌, ◌*◌, ◌<◌}
use Rattle.diagram_counts.proofs.change_uses.Given as goal

abbrev pub invariant-loop-rest : goal.invariant-loop-rest
invariant-loop-rest l = (6 * l.index + length l.rest < 393216) × (length l.state ≡ length l.initial.state) × (counts_changed l.table l.giving l.rows l.row l.index (uses_of l.rest) l.state ≡ counts_changed l.table l.giving l.rows l.row 0 (uses_of l.uses) l.initial.state)

abbrev pub decreases-loop-rest : goal.decreases-loop-rest
decreases-loop-rest l = length l.rest
