-- A table of the right length with some rows and not too many is filled.
use Rattle.std.specs.Prelude.{ℕ, ◌-◌, ◌≤◌, ◌≡◌, List, length}
use Rattle.std.proofs.Common.{eq-eqb}
use borrow.Author.Tests.{le-leb}
use Rattle.effbd.specs.Diagrams.{most_rows}
use Rattle.diagram_table.specs.Cells.{cell_total}
use Rattle.diagram_structure.specs.Structure.{put_structure, structured, structure_filled}

module _ (rows : ℕ) (t : List ℕ) where
  pub filled_is : length t ≡ cell_total → 1 ≤ rows → rows ≤ most_rows → structure_filled rows t ≡ structured rows (rows - 1) (put_structure rows 0 0 0 0 t)
  unfolding structure_filled
  filled_is n some few = rw (eq-eqb (length t) cell_total n, le-leb 1 rows some, le-leb rows most_rows few)
