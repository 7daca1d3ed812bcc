-- The refusal of a net's step or wait, from that of the diagram's: for 23 "the net says 22" with the row asked, for 25 it names the lowest place
-- whose sum is above 65,535, a count's, where the diagram names the lowest item that has such a count; any other has the same number and value.
use Rattle.std.specs.Prelude.{ℕ, cond, not, eqb}
use Rattle.effbd.specs.Diagrams.{Diagram}
use Rattle.effbd.specs.Counts.{count_total}
use Rattle.effbd.specs.States.{State, count_at}
use Rattle.effbd.specs.Moves.{sum_fits}
use Rattle.effbd.specs.Ranges.{least}

abbrev pub net_number : ℕ → ℕ
net_number number = cond (eqb number 23) 22 number

-- the lowest count whose sum with a give of row r is above 65,535
abbrev pub lowest_count : Diagram → State → (row : ℕ) → ℕ
lowest_count d s row = least (count_total d) (λ c. not (sum_fits d row s c))

abbrev pub net_value : Diagram → State → (row number value : ℕ) → ℕ
net_value d s row number value = cond (eqb number 23) row (cond (eqb number 25) (count_at d (lowest_count d s row)) value)
