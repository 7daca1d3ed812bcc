-- The BRANCH rows of an AND, from the last one back. Assumes nothing.
use Rattle.std.specs.Prelude.{ℕ, zero, suc, ◌+◌, cond, List, [], ◌∷◌, ltb}
use Rattle.diagram_table.specs.Cells.{branch_in}
use Rattle.diagram_table.specs.declared.branches.Branches.{Branches}

-- the BRANCH row b of an AND and those before it: each has the one before it for the branch that it ends, the first itself; n turns, which are
-- enough where b is below n
unfoldable pub branch_rows : (table : List ℕ) (n b : ℕ) → List ℕ
branch_rows table zero b = []
branch_rows table (suc n) b = b ∷ cond (ltb (branch_in table b) b) (branch_rows table n (branch_in table b)) []

-- those before row b
unfoldable pub rows_before : (table : List ℕ) (b : ℕ) → List ℕ
rows_before table b = cond (ltb (branch_in table b) b) (branch_rows table (branch_in table b + 1) (branch_in table b)) []

-- what a walk has left
abbrev pub branches_left : Branches → List ℕ
branches_left walk = cond walk.given (rows_before walk.table.now walk.row) (branch_rows walk.table.now (walk.row + 1) walk.row)
