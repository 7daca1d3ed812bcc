-- A walk over an AND's BRANCH rows: its next row, and what is left behind it.
use Rattle.std.specs.Prelude.{ℕ, zero, suc, ◌+◌, ◌<◌, ◌≤◌, ◌≡◌, List, [], ◌∷◌, ltb}
use Rattle.std.proofs.Common.{refl, ap, arith, add-one}
use borrow.Author.Tests.{ltb-true, lt-ltb, le-ltb}
use Rattle.ranges.specs.Tests.{decide}
use Rattle.diagram_table.specs.Cells.{branch_in}
use Rattle.diagram_table.specs.Branches.{branch_rows, rows_before}

module _ (table : List ℕ) where
  -- more turns than are enough change nothing
  pub rows_enough : (n m b : ℕ) → b < n → b < m → branch_rows table n b ≡ branch_rows table m b
  unfolding branch_rows
  rows_enough zero m b h k = absurd (omega arith)
  rows_enough (suc n) zero b h k = absurd (omega arith)
  rows_enough (suc n) (suc m) b h k = decide (ltb (branch_in table b) b)
      (λ y. let l = ltb-true (branch_in table b) b y in rw y (ap (λ (q : List ℕ). b ∷ q) (rows_enough n m (branch_in table b) (omega arith) (omega arith))))
      (λ y. rw y refl)

  -- row b is given, and then those before it
  pub row_given : (b : ℕ) → branch_rows table (b + 1) b ≡ b ∷ rows_before table b
  unfolding branch_rows rows_before
  row_given b = rw (add-one b, branch_rows) (decide (ltb (branch_in table b) b)
      (λ y. let l = ltb-true (branch_in table b) b y in rw y (ap (λ (q : List ℕ). b ∷ q) (rows_enough b (branch_in table b + 1) (branch_in table b) l (omega arith))))
      (λ y. rw y refl))

  -- the row before b, if there is one
  pub before_some : (b before : ℕ) → before ≡ branch_in table b → before < b → rows_before table b ≡ before ∷ rows_before table before
  unfolding rows_before
  before_some b before e l = rw (← e, lt-ltb before b l) (unfold rows_before in row_given before)

  pub before_none : (b before : ℕ) → before ≡ branch_in table b → b ≤ before → rows_before table b ≡ []
  unfolding rows_before
  before_none b before e l = rw (← e, le-ltb before b l)
