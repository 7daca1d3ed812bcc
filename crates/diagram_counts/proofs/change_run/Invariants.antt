use Prim.Native.Nat.{◌≤◌}
use mathlib.Core.Path.{◌≡◌}
use Rattle.diagram_moves.specs.Changes.{count_turn, fold}
use lib.ListN.{length}
use Rattle.diagram_counts.proofs.change_run.Given as goal

abbrev pub invariant-loop-index : goal.invariant-loop-index
invariant-loop-index l = (l.index ≤ l.standing) × (length l.state ≡ length l.initial.state) × (l.state ≡ fold l.index (count_turn l.giving l.rows l.first l.amount) l.initial.state)
