use Rattle.std.specs.Prelude.{ℕ, ◌+◌, ◌≡◌}
use Rattle.diagram_table.specs.Branches.{branches_left}
use Rattle.diagram_tokens.proofs.BranchTurns.{turned, Words}
use Rattle.diagram_moves.specs.Changes.{entered}
use Rattle.diagram_tokens.proofs.enter_branches.Given as goal

abbrev pub invariant-loop-row : goal.invariant-loop-row
invariant-loop-row l = (Words (branches_left l.row-iterator)) × (turned l.table (λ (q : ℕ). entered l.table (q + 1)) (branches_left l.row-iterator) l.state ≡ turned l.table (λ (q : ℕ). entered l.table (q + 1)) (branches_left l.initial.row-iterator) l.initial.state)
