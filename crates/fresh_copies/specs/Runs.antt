-- The fresh state with the copies of triggers, store by store, in the program's own order; what is promised of it. Assumes nothing.
use Rattle.std.specs.Prelude.{ℕ, zero, suc, ◌+◌, ◌*◌, ◌≡◌, true, List, take, set}
use Rattle.effbd.specs.Diagrams.{Diagram}
use Rattle.effbd.specs.Nets.{most_places}
use Rattle.agreement.specs.AcceptedFiles.{Held}
use Rattle.words.specs.Stores.{copied}
use Rattle.diagram_table.specs.Cells.{count_in, run_first, run_length}
use Rattle.diagram_table.specs.Held.{Holds, HoldsCopies, FreshFront, FreshOf}
use Rattle.copies.specs.Promised.{zeros}

-- a value at `many` places
unfoldable pub run_put : (from many value : ℕ) → List ℕ → List ℕ
run_put from zero value state = state
run_put from (suc n) value state = set (run_put from n value state) (from + n) value

-- the initial counts of the first n items, each at the counts that a give of it changes
unfoldable pub runs_put : (rows n : ℕ) (table state : List ℕ) → List ℕ
runs_put rows zero table state = state
runs_put rows (suc k) table state = run_put (3 * rows + run_first table true 0 0 k) (run_length table true k) (count_in table k) (runs_put rows k table state)

-- the words of the rows and the items in front of zeros, with the copies of triggers
unfoldable pub fresh_put : (rows items : ℕ) (plain table zeros : List ℕ) → List ℕ
fresh_put rows items plain table zeros = runs_put rows items table (copied (take (3 * rows + items) plain) zeros)

-- a fresh state was made, of whatever the table holds
pub record FreshMade (rows items : ℕ) (plain table state : List ℕ) : Type 0 where
  pub is : state ≡ fresh_put rows items plain table (zeros most_places)
  pub of : (d : Diagram) → Held d → Holds d rows items table → HoldsCopies d table → FreshFront d plain → FreshOf d state
