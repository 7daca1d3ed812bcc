-- The words of a fresh state but for the copies of triggers. Assumes nothing.
use Rattle.std.specs.Prelude.{ℕ, zero, suc, ◌+◌, ◌*◌, ◌≤◌, ◌≡◌, List, get_or, set}
use Rattle.effbd.specs.Ranges.{tabulate}
use Rattle.effbd.specs.Diagrams.{Diagram, row_count, item_total}
use Rattle.diagram_table.specs.Cells.{plain_places, shared_in}
use Rattle.diagram_table.specs.Held.{Holds, FreshFront}

-- row 0 ready, the counts of the items from word 3N on
unfoldable pub counts_put : (rows items : ℕ) → (table state : List ℕ) → List ℕ
counts_put rows zero table state = state
counts_put rows (suc k) table state = set (counts_put rows k table state) (3 * rows + k) (shared_in table k)

unfoldable pub fresh_put : (rows items : ℕ) → (table state : List ℕ) → List ℕ
fresh_put rows items table state = counts_put rows items table (set state 0 1)

-- the words of rows and items of a fresh state were made, of whatever the table holds; behind them stands 0
pub record Freshened (rows items : ℕ) (table state : List ℕ) : Type 0 where
  pub is : state ≡ fresh_put rows items table (tabulate plain_places (λ i. 0))
  pub of : (d : Diagram) → Holds d rows items table → FreshFront d state
  pub behind : (d : Diagram) → Holds d rows items table → (i : ℕ) → 3 * row_count d + item_total d ≤ i → get_or state i 0 ≡ 0
