-- What the structure pass leaves in a table for a diagram whose rows the walk let pass. Assumes nothing.
use Rattle.std.specs.Prelude.{ℕ, ◌≤◌, ◌<◌, ◌≡◌, false, List, length}
use Rattle.effbd.specs.Diagrams.{most_rows, box_exit, Diagram, row_count, is_kind}
use Rattle.effbd.specs.Nesting.{owner, branch_ended, close, loop, nesting_fault}
use Rattle.diagram_table.specs.Cells.{cell_total, owner_in, branch_in, close_in, loop_in}
use Rattle.nesting.specs.Runs.{Kinds}

-- the table has the kinds and first fields of its rows, and their structure; of an EXIT the column of the LPs may say something else
pub record Walked (d : Diagram) (rows : ℕ) (table : List ℕ) : Type 0 where
  pub long : length table ≡ cell_total
  pub some : 1 ≤ rows
  pub few : rows ≤ most_rows
  pub kinds : Kinds d rows table
  pub fine : (q : ℕ) → q < row_count d → nesting_fault d q ≡ 0
  pub owners : (r : ℕ) → r < rows → owner_in table r ≡ owner d r
  pub branches : (r : ℕ) → r < rows → branch_in table r ≡ branch_ended d r
  pub closes : (r : ℕ) → r < rows → close_in table r ≡ close d r
  pub loops : (r : ℕ) → r < rows → is_kind d box_exit r ≡ false → loop_in table r ≡ loop d r
