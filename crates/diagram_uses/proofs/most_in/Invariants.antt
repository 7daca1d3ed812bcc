use Rattle.diagram_moves.specs.Decisions.{most_of}
use Prim.Native.Nat.{◌≤◌}
use mathlib.Core.Path.{◌≡◌}
use Rattle.diagram_uses.proofs.most_in.Given as goal

abbrev pub invariant-loop-index : goal.invariant-loop-index
invariant-loop-index l = (l.index ≤ l.standing) × (l.most ≡ most_of l.rows l.first l.state l.index)
