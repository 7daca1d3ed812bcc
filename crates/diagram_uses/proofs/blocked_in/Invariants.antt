use Rattle.diagram_table.specs.Cells.{uses_of}
use Rattle.diagram_moves.specs.Decisions.{blocked_item}
use lib.ListN.{length}
use mathlib.Core.Path.{◌≡◌}
use Prim.Native.Nat.{◌+◌, ◌*◌, ◌<◌}
use Rattle.diagram_uses.proofs.blocked_in.Given as goal

abbrev pub invariant-loop-rest : goal.invariant-loop-rest
invariant-loop-rest l = (6 * l.index + length l.rest < 393216) × (blocked_item l.table l.giving l.rows l.items l.state l.row l.index (uses_of l.rest) ≡ blocked_item l.table l.giving l.rows l.items l.state l.row 0 (uses_of l.uses))

abbrev pub decreases-loop-rest : goal.decreases-loop-rest
decreases-loop-rest l = length l.rest
