-- The records of the rows' places with their fresh marks. Assumes nothing.
use Rattle.std.specs.Prelude.{ℕ, cond, List, ◌++◌, eqb}
use Rattle.effbd.specs.Diagrams.{it_open, number_of}
use Rattle.diagram_table.specs.Cells.{kind_in, first_in}
use Rattle.net_records.specs.Writing.{Records}
use Rattle.net_records.specs.Records.{mark}

-- the fresh marks of a row's three places; `first` is the row that entering row 0 changes
unfoldable pub first_mark : (first row : ℕ) → ℕ
first_mark first row = cond (eqb row first) 1 0

unfoldable pub remaining : (table : List ℕ) (row : ℕ) → ℕ
remaining table row = cond (eqb (kind_in table row) (number_of it_open)) (first_in table row) 0

unfoldable pub row_marks : (table : List ℕ) (first row : ℕ) → Records
row_marks table first row = mark (first_mark first row) ++ mark 0 ++ mark (remaining table row)
