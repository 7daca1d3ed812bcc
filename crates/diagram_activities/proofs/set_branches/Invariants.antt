use Rattle.diagram_activities.proofs.BranchWalks.{Walking, due}
use Rattle.diagram_moves.specs.Changes.{row_set}
use lib.ListN.{length}
use mathlib.Core.Path.{◌≡◌}
use Prim.Native.Nat.{ℕ}
use Rattle.diagram_activities.proofs.set_branches.Given as goal

abbrev pub invariant-loop-before : goal.invariant-loop-before
invariant-loop-before l = (length l.state ≡ length l.initial.state) × Walking l.table (λ (q : ℕ). row_set q l.activity) (due l.table (λ (q : ℕ). row_set q l.activity) l.initial.row l.initial.before l.initial.state) l.row l.before l.state

abbrev pub decreases-loop-before : goal.decreases-loop-before
decreases-loop-before l = l.row
