-- What the reader of a diagram's rows leaves. Assumes nothing.
use Rattle.std.specs.Prelude.{ℕ, zero, suc, ◌+◌, ◌-◌, ◌*◌, ◌/◌, ◌≤◌, ◌<◌, ◌≡◌, ◌≢◌, Bool, true, false, cond, ◌&&◌, ◌||◌, Result, Ok, Err, List, [], ◌∷◌, length, get_or, drop, leb, eqb}
use Rattle.effbd.specs.Answers.{or_else, number}
use Rattle.effbd.specs.Records.{length_at, kind_at, length_of, fields_of}
use Rattle.effbd.specs.Diagrams.{most_rows, most_items, Use, row_fault, row_at}
use Rattle.effbd.specs.Nesting.{skip}
use Rattle.effbd.specs.Moves.{most_word}
use Rattle.diagram_table.specs.Cells.{cell_of, cell_total, trigger_in, some_trigger_in}
use Rattle.diagram_table.specs.CellStores.{Cell, cell, put_all}
use Rattle.row_records.specs.Fields.{field_of}
use Rattle.row_records.specs.declared.Fault.{Fault}

-- where reading stopped, and the number of the fault of the record there, 0 for none
pub record Reached : Type 0 where
  pub fault : ℕ
  pub at : ℕ

abbrev pub reached : Result ℕ Fault → Reached
reached (Ok at) = record { fault = 0; at = at }
reached (Err f) = record { fault = number f.reason; at = f.at }

-- where the uses of a FUNCTION begin, whose record begins `bytes` at byte `at`: behind its fields; 0 of another row
unfoldable pub uses_from : (at : ℕ) → List ℕ → ℕ
uses_from at bytes = cond (eqb (kind_at bytes) 16) (at + (4 + 2 * fields_of (kind_at bytes))) 0

-- the columns of a row whose record begins `bytes` at byte `at`, from its kind to the number of its uses; a 28 is an 18 whose first field is 1
unfoldable pub column : (at number : ℕ) → List ℕ → ℕ
column at zero bytes = cond (eqb (kind_at bytes) 28) 18 (kind_at bytes)
column at (suc zero) bytes = cond (eqb (kind_at bytes) 28) 1 (field_of (fields_of (kind_at bytes)) 1 bytes)
column at (suc (suc zero)) bytes = field_of (fields_of (kind_at bytes)) 2 bytes
column at (suc (suc (suc zero))) bytes = uses_from at bytes
column at (suc (suc (suc (suc c)))) bytes = cond (eqb (kind_at bytes) 16) ((length_at bytes - length_of (kind_at bytes)) / 6) 0

abbrev pub row_cells : (row kind first second offset number : ℕ) → List Cell
row_cells row kind first second offset number =
    cell row kind ∷ cell (cell_of 1 row) first ∷ cell (cell_of 2 row) second ∷ cell (cell_of 3 row) offset ∷ cell (cell_of 4 row) number ∷ []

unfoldable pub put_row : (row kind first second offset number : ℕ) → List ℕ → List ℕ
put_row row kind first second offset number table = put_all (row_cells row kind first second offset number) table

-- the columns of a row from its record, which begins at byte `at`
unfoldable pub fill_row : (row at : ℕ) → (bytes table : List ℕ) → List ℕ
fill_row row at bytes table = put_row row (column at 0 bytes) (column at 1 bytes) (column at 2 bytes) (column at 3 bytes) (column at 4 bytes) table

-- 43, by the table's items: no trigger's take or give is above 1
unfoldable pub use_fits : List ℕ → Use → Bool
use_fits table u = eqb (trigger_in table u.item) 0 || (leb u.take 1 && leb u.give 1)

unfoldable pub triggers_fit : List ℕ → List Use → Bool
triggers_fit table [] = true
triggers_fit table (u ∷ us) = use_fits table u && triggers_fit table us

unfoldable pub trigger_fault : (table bytes : List ℕ) → ℕ
trigger_fault table bytes = cond (triggers_fit table (row_at bytes).uses) 0 43

-- the fault of a row's record with its 43, by the table's items
unfoldable pub table_fault : (items : ℕ) → (table bytes : List ℕ) → ℕ
table_fault items table bytes = or_else (row_fault items bytes) (cond (eqb (some_trigger_in table) 0) 0 (trigger_fault table bytes))

-- so many records of a sort are read without fault, of those that `start` begins with, at byte `from` of the file; the rest begins at byte `at`
pub record Reading (fault : List ℕ → ℕ) (from : ℕ) (start : List ℕ) (count : ℕ) (rest : List ℕ) (at : ℕ) : Type 0 where
  pub clean : (j : ℕ) → j < count → fault (skip j start) ≡ 0
  pub here : rest ≡ skip count start
  pub tail : (file : List ℕ) → start ≡ drop from file → rest ≡ drop at file
  pub sum : at + length rest ≡ from + length start

-- `due` records were due: all were read, or one of them is at fault
pub record Stopped (fault : List ℕ → ℕ) (from : ℕ) (start : List ℕ) (due : ℕ) (r : Reached) : Type 0 where
  pub count : ℕ
  pub within : count ≤ due
  pub reached : Reading fault from start count (skip count start) r.at
  pub ended : r.fault ≡ 0 → count ≡ due
  pub stopped : r.fault ≢ 0 → (count < due) × (fault (skip count start) ≡ r.fault)

-- the table has the columns of the first rows, which begin a file of `total` bytes at `start`
pub record FilledRows (total : ℕ) (start : List ℕ) (rows : ℕ) (table : List ℕ) : Type 0 where
  pub cell : (c : ℕ) → c < 5 → (i : ℕ) → i < rows → get_or table (cell_of c i) 0 ≡ column (total - length (skip i start)) c (skip i start)

-- the columns behind the records' are kept
pub record Kept (before after : List ℕ) : Type 0 where
  pub cell : (j : ℕ) → cell_of 5 0 ≤ j → get_or after j 0 ≡ get_or before j 0

-- while rows are read, and behind them: then no byte is left, or 6
pub record RowsState (from : ℕ) (start : List ℕ) (items count : ℕ) (rest : List ℕ) (at : ℕ) (before table : List ℕ) : Type 0 where
  pub reading : Reading (row_fault items) from start count rest at
  pub filled : FilledRows (from + length start) start count table
  pub kept : Kept before table
  pub near : at ≤ from + 104 * count
  pub long : length table ≡ cell_total

abbrev pub end_reached : (left at : ℕ) → Reached
end_reached left at = record { fault = cond (eqb left 0) 0 6; at = at }

pub record RowsRead (fault : List ℕ → ℕ) (from : ℕ) (start : List ℕ) (due : ℕ) (before table : List ℕ) (r : Reached) : Type 0 where
  pub line : Reached
  pub stopped : Stopped fault from start due line
  pub filled : line.fault ≡ 0 → FilledRows (from + length start) start due table
  pub kept : Kept before table
  pub near : line.at ≤ from + 104 * due
  pub off : line.fault ≢ 0 → r ≡ line
  pub end : line.fault ≡ 0 → r ≡ end_reached (length (skip due start)) line.at

-- rows were read, from whatever table
pub record SomeRowsRead (items from : ℕ) (start : List ℕ) (due : ℕ) (table : List ℕ) (r : Reached) : Type 0 where
  pub before : List ℕ
  pub read : RowsRead (row_fault items) from start due before table r

-- they were gone through again, for 43
pub record Refined (items from : ℕ) (start : List ℕ) (due : ℕ) (table : List ℕ) (reached r : Reached) : Type 0 where
  pub is : (before : List ℕ) → RowsRead (row_fault items) from start due before table reached → RowsRead (table_fault items table) from start due before table r

-- ---- what the reader leaves in the table, cell for cell: the columns of all row records before the first that is at fault

-- `due` rows from row `row` on, whose records begin `lines`, at byte `at` of the file
unfoldable pub rows_laid : (items row at due : ℕ) → (lines table : List ℕ) → List ℕ
rows_laid items row at zero lines table = table
rows_laid items row at (suc n) lines table =
    cond (eqb (row_fault items lines) 0) (rows_laid items (row + 1) (at + length_at lines) n (drop (length_at lines) lines) (fill_row row at lines table)) table

-- rows can be read: they begin where rows can, there are no more of them, and of items, than there can be, and the table has its length
unfoldable pub rows_fit : (from due items long : ℕ) → Bool
rows_fit from due items long = leb from 106 && (leb due most_rows && (leb items most_items && eqb long cell_total))

-- rows were read into a list: into a table; what they cannot be read from or into is told by a fault that is no refusal's number
pub record RowsInto (items from : ℕ) (start : List ℕ) (due : ℕ) (before table : List ℕ) (r : Reached) : Type 0 where
  pub is : table ≡ cond (rows_fit from due items (length before)) (rows_laid items 0 from due start before) before
  pub other : rows_fit from due items (length before) ≡ false → r ≡ record { fault = most_word; at = from }
  pub of : rows_fit from due items (length before) ≡ true → RowsRead (table_fault items table) from start due before table r
