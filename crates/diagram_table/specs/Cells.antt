-- The layout of a diagram's table: a cell for each row in each column, then cells for each item, then, where an item is a trigger, one for each
-- use; and what they say of a row's uses, of the counts that a use changes, of a construct's BRANCH rows and of entering a row. Past the
-- table's end a cell is 0. Assumes nothing.
use Rattle.std.specs.Prelude.{ℕ, ◌+◌, ◌*◌, ◌/◌, Bool, cond, ◌&&◌, List, [], length, get_or, leb, eqb}
use Rattle.effbd.specs.Diagrams.{most_rows, most_items, Use, uses_at}
use Rattle.effbd.specs.Nesting.{Part, part_in}

-- the cell of a row in a column: 0 kind, 1 first field (α, count or outlet; 1 of a BRANCH that kills), 2 second field (β), 3 byte offset of its uses, 4 number of its uses,
-- 5 owner, 6 latest BRANCH, 7 close, 8 innermost LP; of an EXIT 2 is the last row of the scenario that it leaves, 8 its outlet's BRANCH
abbrev pub cell_of : (column row : ℕ) → ℕ
cell_of column row = most_rows * column + row

abbrev pub columns : ℕ
columns = 9

-- the cells of an item: 0 initial count, 1 whether it is a trigger
abbrev pub item_cell : (column item : ℕ) → ℕ
item_cell column k = most_rows * columns + most_items * column + k

abbrev pub item_columns : ℕ
item_columns = 2

-- behind them whether some item is a trigger
abbrev pub some_trigger_cell : ℕ
some_trigger_cell = item_cell item_columns 0

-- how many cells a table has that says nothing of copies
abbrev pub cell_total : ℕ
cell_total = item_cell item_columns 1

-- where there are triggers, behind all these of an item how many rows receive it, and the number of its first copy; the number of copies
abbrev pub receivers_cell : (item : ℕ) → ℕ
receivers_cell k = cell_total + k

abbrev pub first_copy_cell : (item : ℕ) → ℕ
first_copy_cell k = cell_total + most_items + k

abbrev pub copies_cell : ℕ
copies_cell = cell_total + 2 * most_items

abbrev pub counted_total : ℕ
counted_total = cell_total + 2 * most_items + 1

-- then a cell for each use of each row: its row's place among the receivers of its item
abbrev pub rank_cell : (row index : ℕ) → ℕ
rank_cell r j = counted_total + most_items * r + j

abbrev pub wide_total : ℕ
wide_total = rank_cell most_rows 0

-- the words of a state, and the places of a net, before the copies of triggers
abbrev pub plain_places : ℕ
plain_places = 3 * most_rows + most_items

module _ (table : List ℕ) where
  abbrev pub kind_in : ℕ → ℕ
  kind_in r = get_or table r 0

  -- α of a FUNCTION, the count of an IT open, the outlet that an EXIT names, 1 of a BRANCH that kills; β of a FUNCTION
  abbrev pub first_in : ℕ → ℕ
  first_in r = get_or table (cell_of 1 r) 0

  abbrev pub second_in : ℕ → ℕ
  second_in r = get_or table (cell_of 2 r) 0

  -- the byte offset of a row's uses, and their number
  abbrev pub uses_start_in : ℕ → ℕ
  uses_start_in r = get_or table (cell_of 3 r) 0

  abbrev pub uses_number_in : ℕ → ℕ
  uses_number_in r = get_or table (cell_of 4 r) 0

  -- the open row of the construct that a row stands in, the BRANCH that it ends, its close, its loop
  abbrev pub owner_in : ℕ → ℕ
  owner_in r = get_or table (cell_of 5 r) 0

  abbrev pub branch_in : ℕ → ℕ
  branch_in r = get_or table (cell_of 6 r) 0

  abbrev pub close_in : ℕ → ℕ
  close_in r = get_or table (cell_of 7 r) 0

  abbrev pub loop_in : ℕ → ℕ
  loop_in r = get_or table (cell_of 8 r) 0

  -- of an EXIT: its outlet's BRANCH, the last row of the scenario that it leaves
  abbrev pub outlet_in : ℕ → ℕ
  outlet_in r = get_or table (cell_of 8 r) 0

  abbrev pub scenario_last_in : ℕ → ℕ
  scenario_last_in r = get_or table (cell_of 2 r) 0

  -- of an item: its initial count, 1 where it is a trigger, how many rows receive it, the number of its first copy
  abbrev pub count_in : ℕ → ℕ
  count_in k = get_or table (item_cell 0 k) 0

  abbrev pub trigger_in : ℕ → ℕ
  trigger_in k = get_or table (item_cell 1 k) 0

  abbrev pub receivers_in : ℕ → ℕ
  receivers_in k = get_or table (receivers_cell k) 0

  abbrev pub first_copy_in : ℕ → ℕ
  first_copy_in k = get_or table (first_copy_cell k) 0

  -- 1 where some item is a trigger; the number of copies
  abbrev pub some_trigger_in : ℕ
  some_trigger_in = get_or table some_trigger_cell 0

  abbrev pub copies_in : ℕ
  copies_in = get_or table copies_cell 0

  -- the count of an item at first: a trigger's shared count is 0
  unfoldable pub shared_in : ℕ → ℕ
  shared_in k = cond (eqb (trigger_in k) 0) (count_in k) 0

  -- how many counts a state has behind its rows: a table without triggers says nothing of copies
  unfoldable pub counts_in : (items : ℕ) → ℕ
  counts_in items = cond (eqb some_trigger_in 0) items (items + copies_in)

  -- how many rows above row r receive the item of its use j
  abbrev pub rank_in : (r j : ℕ) → ℕ
  rank_in r j = get_or table (rank_cell r j) 0

  -- the counts that use j of row r changes, which names item k: of a trigger a take changes the row's own copy, a give all of them
  unfoldable pub run_first : (giving : Bool) (r j k : ℕ) → ℕ
  run_first giving r j k = cond (eqb (trigger_in k) 0) k (first_copy_in k + cond giving 0 (rank_in r j))

  unfoldable pub run_length : (giving : Bool) (k : ℕ) → ℕ
  run_length giving k = cond giving (cond (eqb (trigger_in k) 0) 1 (receivers_in k)) 1

  -- the part of a file that holds a row's uses
  abbrev pub uses_part_in : ℕ → Part
  uses_part_in r = record { start = uses_start_in r; size = 6 * uses_number_in r }

  -- its bytes, where the file has them all; else none
  unfoldable pub uses_bytes : List ℕ → ℕ → List ℕ
  uses_bytes file r = cond (leb (uses_start_in r + 6 * uses_number_in r) (length file)) (part_in file (uses_part_in r)) []

  -- row b is a BRANCH of the construct that row o opens
  unfoldable pub is_branch : ℕ → ℕ → Bool
  is_branch o b = eqb (kind_in b) 18 && eqb (owner_in b) o

  -- row b is a BRANCH that kills
  unfoldable pub kills_in : ℕ → Bool
  kills_in b = eqb (kind_in b) 18 && eqb (first_in b) 1

  -- the row that entering row r changes where no branch kills
  unfoldable pub entered_in : ℕ → ℕ
  entered_in r = cond (eqb (kind_in r) 18)
      (cond (eqb (kind_in (owner_in r)) 17) (branch_in r) (close_in (owner_in r)))
      (cond (eqb (kind_in r) 19) (branch_in r) r)

-- the uses that some bytes are, 6 bytes a use
unfoldable pub uses_of : List ℕ → List Use
uses_of bytes = uses_at (length bytes / 6) bytes

-- a row's uses
abbrev pub uses_in : (table file : List ℕ) → ℕ → List Use
uses_in table file r = uses_of (uses_bytes table file r)
