-- What this crate promises: a table with the copies of its triggers, how many copies there are. Assumes nothing.
use Rattle.std.specs.Prelude.{ℕ, ◌<◌, ◌≡◌, List, length, replicate}
use Rattle.effbd.specs.Ranges.{tabulate}
use Rattle.effbd.specs.Diagrams.{Diagram, row_count, item_total, row}
use Rattle.effbd.specs.Counts.{copies}
use Rattle.agreement.specs.AcceptedFiles.{Held}
use Rattle.diagram_table.specs.Cells.{counted_total, wide_total, copies_in, uses_in}
use Rattle.diagram_table.specs.Held.{Tabulated, HoldsFile, HoldsPlant}
use Rattle.copies.specs.Counting.{copies_counted}

abbrev pub zeros : ℕ → List ℕ
zeros n = tabulate n (λ i. 0)

-- what a widened table says of an accepted file: all, of the same diagram
pub record WidenedPlant (file : List ℕ) (rows items : ℕ) (table wide : List ℕ) : Type 0 where
  pub plant : HoldsFile file rows items table → HoldsPlant file rows items wide
  pub same : (h : HoldsFile file rows items table) → (plant h).held.diagram ≡ h.diagram

-- a table was widened into another one, whatever they hold; into a zeroed one, so that it says all
pub record Widened (file : List ℕ) (rows items : ℕ) (table before wide : List ℕ) : Type 0 where
  pub is : wide ≡ copies_counted file rows items table before
  pub long : length wide ≡ length before
  pub of : before ≡ replicate wide_total 0 → WidenedPlant file rows items table wide

-- copies were counted; where the table has a diagram's records, those of the diagram
pub record CopyTotal (file : List ℕ) (rows items : ℕ) (table : List ℕ) (total : ℕ) : Type 0 where
  pub is : total ≡ copies_in (copies_counted file rows items table (zeros counted_total))
  pub of : (d : Diagram) → Held d → Tabulated d rows items table → ((r : ℕ) → r < row_count d → uses_in table file r ≡ (row d r).uses) → total ≡ length (copies d (item_total d))
