use Rattle.std.specs.Prelude.{ℕ, ◌<◌, ◌≡◌, true}
use Rattle.outlets.specs.Outlets.{matched_at}
use Rattle.outlets.proofs.OpenBox.matched.Given as goal

abbrev pub invariant-loop-row : goal.invariant-loop-row
invariant-loop-row l = (q : ℕ) → q < l.row → matched_at l.self.table.now l.self.rows l.self.opened q ≡ true
