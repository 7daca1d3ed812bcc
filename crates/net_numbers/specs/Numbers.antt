-- How many transitions a table's rows have, and so each row's first one's number. Assumes nothing.
use Rattle.std.specs.Prelude.{ℕ, zero, suc, ◌+◌, cond, ◌&&◌, List, eqb}
use Rattle.effbd.specs.Diagrams.{function, branch, or_open, it_open, end, number_of}
use Rattle.diagram_table.specs.Cells.{kind_in, owner_in}

-- how many transitions a row of kind k has: by its kind, and, for a BRANCH, by the kind j of its construct's open row
unfoldable pub own_number : ℕ → ℕ
own_number k =
    cond (eqb k (number_of function)) 2
    (cond (eqb k (number_of it_open)) 2
    (cond (eqb k (number_of end)) 0
    (cond (eqb k (number_of or_open)) 0
    (cond (eqb k (number_of branch)) 0 1))))

unfoldable pub branch_number : (j k : ℕ) → ℕ
branch_number j k = cond (eqb k (number_of branch) && eqb j (number_of or_open)) 1 0

unfoldable pub number_as : (j k : ℕ) → ℕ
number_as j k = own_number k + branch_number j k

-- the number of the first transition of row r
unfoldable pub first_number_in : (table : List ℕ) (r : ℕ) → ℕ
first_number_in table zero = 0
first_number_in table (suc r) = first_number_in table r + number_as (kind_in table (owner_in table r)) (kind_in table r)
