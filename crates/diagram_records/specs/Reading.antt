-- What the reader of a diagram's records leaves. Assumes nothing.
use Rattle.std.specs.Prelude.{ℕ, zero, suc, ◌+◌, ◌-◌, ◌*◌, ◌≤◌, ◌<◌, ◌≡◌, ◌≢◌, Bool, false, cond, ◌&&◌, List, length, get_or, set, drop, eqb}
use Rattle.effbd.specs.Answers.{Outcome, accepted, refused, unless, and_then}
use Rattle.effbd.specs.Records.{word, length_at, kind_at, Got, read_many}
use Rattle.effbd.specs.Diagrams.{function, Row, Item, Diagram, row_count, row, is_kind, head_fault, item_fault, item_at, row_fault_in, row_at, uses_at}
use Rattle.effbd.specs.Nesting.{skip, from_row}
use Rattle.effbd.specs.Moves.{most_word}
use Rattle.diagram_table.specs.Cells.{item_cell, some_trigger_cell, cell_total, trigger_in, some_trigger_in, uses_start_in, uses_number_in}
use Rattle.diagram_table.specs.Held.{Tabulated}
use Rattle.row_records.specs.Rows.{Reached, table_fault, Reading, Stopped, RowsRead, rows_laid}

-- the cells of an item: its initial count, whether it is a trigger; of a trigger also that there is one
unfoldable pub put_item : (item count : ℕ) (trigger : Bool) → List ℕ → List ℕ
put_item item count trigger table = cond trigger
    (set (set (set table (item_cell 0 item) count) (item_cell 1 item) 1) some_trigger_cell 1)
    (set (set table (item_cell 0 item) count) (item_cell 1 item) 0)

-- the table has the cells of the first items, whose records begin at `start`
pub record FilledItems (start : List ℕ) (items : ℕ) (table : List ℕ) : Type 0 where
  pub count : (i : ℕ) → i < items → get_or table (item_cell 0 i) 0 ≡ (item_at (skip i start)).initial
  pub trigger : (i : ℕ) → i < items → trigger_in table i ≡ cond (item_at (skip i start)).trigger 1 0
  pub none : some_trigger_in table ≡ 0 → (i : ℕ) → i < items → (item_at (skip i start)).trigger ≡ false

-- while items are read, and behind them: then the rows are, from the rest
pub record ItemsState (from : ℕ) (start : List ℕ) (count : ℕ) (rest : List ℕ) (at : ℕ) (table : List ℕ) : Type 0 where
  pub reading : Reading item_fault from start count rest at
  pub filled : FilledItems start count table
  pub near : at ≤ from + 6 * count
  pub long : length table ≡ cell_total

pub record ItemsRead (from : ℕ) (start : List ℕ) (items rows : ℕ) (table : List ℕ) (r : Reached) : Type 0 where
  pub line : Reached
  pub counted : List ℕ
  pub stopped : Stopped item_fault from start items line
  pub filled : line.fault ≡ 0 → FilledItems start items counted
  pub near : line.at ≤ from + 6 * items
  pub off : line.fault ≢ 0 → r ≡ line
  pub rows_read : line.fault ≡ 0 → RowsRead (table_fault items table) line.at (skip items start) rows counted table r

-- ---- what the reader leaves in the table, cell for cell: the columns and cells of all records before the first that is at fault

-- `due` items from item `item` on, and behind them the rows
unfoldable pub items_laid : (rows items item at due : ℕ) → (lines table : List ℕ) → List ℕ
items_laid rows items item at zero lines table = rows_laid items 0 at rows lines table
items_laid rows items item at (suc n) lines table =
    cond (eqb (item_fault lines) 0) (items_laid rows items (item + 1) (at + length_at lines) n (drop (length_at lines) lines) (put_item item (word lines 4) (eqb (kind_at lines) 3) table)) table

-- a file's; a list that is no table's length stays as it is
unfoldable pub records_laid : (file table : List ℕ) → List ℕ
records_laid file table =
    cond (eqb (length table) cell_total && eqb (head_fault file) 0) (items_laid (word file 6) (word file 8) 0 (length_at file) (word file 8) (drop (length_at file) file) table) table

-- what a file's records say, before nesting: read_diagram is this, then `nested` (theorem `two-parts`)
unfoldable pub record_rows : List ℕ → List Item → Got (List Row) → Outcome Diagram
record_rows file items got =
    unless (cond (eqb (length got.rest) 0) 0 6) (length file - length got.rest) (accepted (record { rows = got.value; items = items }))

unfoldable pub record_items : List ℕ → Got (List Item) → Outcome Diagram
record_items file got = and_then (read_many (row_fault_in got.value) row_at (length file) (word file 6) got.rest) (record_rows file got.value)

unfoldable pub read_records : List ℕ → Outcome Diagram
read_records file =
    unless (head_fault file) 0 (and_then (read_many item_fault item_at (length file) (word file 8) (drop 10 file)) (record_items file))

-- where the table says that a row's uses are, they are
pub record TabledUses (file : List ℕ) (d : Diagram) (table : List ℕ) : Type 0 where
  pub offsets : (r : ℕ) → r < row_count d → uses_start_in table r ≡ cond (is_kind d function r) (length file - length (from_row file r) + 8) 0
  pub sizes : (r : ℕ) → r < row_count d → 6 * uses_number_in table r ≡ cond (is_kind d function r) (length_at (from_row file r) - 8) 0
  pub inside : (r : ℕ) → r < row_count d → uses_start_in table r + 6 * uses_number_in table r ≤ length file
  pub uses : (r : ℕ) → r < row_count d → uses_at (uses_number_in table r) (drop (uses_start_in table r) file) ≡ (row d r).uses

pub record Tabled (file table : List ℕ) : Type 0 where
  pub diagram : Diagram
  pub read : read_records file ≡ accepted diagram
  pub tabulated : Tabulated diagram (word file 6) (word file 8) table
  pub uses : TabledUses file diagram table

-- a file's records were read
pub record Recorded (file table : List ℕ) (r : Reached) : Type 0 where
  pub refusal : r.fault ≢ 0 → read_records file ≡ refused r.fault r.at
  pub tabled : r.fault ≡ 0 → Tabled file table
  pub end : r.fault ≡ 0 → r.at ≡ length file
  pub near : r.at ≤ 6762

-- a file's records were read into a list: into a table; any other is told by a fault that is no refusal's number
pub record ReadInto (file before table : List ℕ) (r : Reached) : Type 0 where
  pub is : table ≡ records_laid file before
  pub other : length before ≢ cell_total → r ≡ record { fault = most_word; at = 0 }
  pub of : length before ≡ cell_total → Recorded file table r
