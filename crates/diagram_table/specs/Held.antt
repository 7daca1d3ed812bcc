-- What a table holds of a diagram: what its records say, its structure, and where its rows' uses lie in the file. Assumes nothing.
use Rattle.std.specs.Prelude.{ℕ, ◌+◌, ◌-◌, ◌*◌, ◌≤◌, ◌<◌, ◌≡◌, List, true, false, cond, length, get_or, take}
use Rattle.effbd.specs.Answers.{accepted}
use Rattle.effbd.specs.Diagrams.{Diagram, Use, most_rows, most_items, number_of, row_count, item_total, item, is_trigger, is_kind, row, kind, box_exit}
use Rattle.effbd.specs.Counts.{copies_of, copies, count_total}
use Rattle.effbd.specs.Nesting.{owner, branch_ended, close, loop, box, first_outlet, outlet, nested, read_diagram, uses_part}
use Rattle.effbd.specs.Layout.{places}
use Rattle.effbd.specs.States.{fresh_words}
use Rattle.diagram_table.specs.Cells.{cell_total, kind_in, first_in, second_in, uses_start_in, uses_number_in, owner_in, branch_in, close_in, loop_in, outlet_in, scenario_last_in, count_in, trigger_in, receivers_in, first_copy_in, some_trigger_in, counts_in, rank_in, uses_part_in, uses_in}

-- the records of a diagram: the columns that a row's record gives, the items' initial counts, which of them are triggers
pub record Tabulated (d : Diagram) (rows items : ℕ) (table : List ℕ) : Type 0 where
  pub rows_are : rows ≡ row_count d
  pub items_are : items ≡ item_total d
  pub some_row : 1 ≤ rows
  pub few_rows : rows ≤ most_rows
  pub few_items : items ≤ most_items
  pub kinds : (r : ℕ) → r < rows → kind_in table r ≡ number_of (kind d r)
  pub firsts : (r : ℕ) → r < rows → first_in table r ≡ (row d r).first
  pub seconds : (r : ℕ) → r < rows → is_kind d box_exit r ≡ false → second_in table r ≡ (row d r).second
  pub numbers : (r : ℕ) → r < rows → uses_number_in table r ≡ length (row d r).uses
  pub counts : (k : ℕ) → k < items → count_in table k ≡ (item d k).initial
  pub triggers : (k : ℕ) → k < items → trigger_in table k ≡ cond (is_trigger d k) 1 0
  pub no_trigger : some_trigger_in table ≡ 0 → (k : ℕ) → k < items → is_trigger d k ≡ false

-- an accepted diagram: its records, and the structure of its rows
pub record Holds (d : Diagram) (rows items : ℕ) (table : List ℕ) : Type 0 where
  pub nests : nested d ≡ accepted d
  pub long : cell_total ≤ length table
  pub records : Tabulated d rows items table
  pub owners : (r : ℕ) → r < rows → owner_in table r ≡ owner d r
  pub branches : (r : ℕ) → r < rows → branch_in table r ≡ branch_ended d r
  pub closes : (r : ℕ) → r < rows → close_in table r ≡ close d r
  pub loops : (r : ℕ) → r < rows → is_kind d box_exit r ≡ false → loop_in table r ≡ loop d r
  pub outlets : (r : ℕ) → r < rows → is_kind d box_exit r ≡ true → outlet_in table r ≡ outlet d r
  pub scenario_lasts : (r : ℕ) → r < rows → is_kind d box_exit r ≡ true → scenario_last_in table r ≡ first_outlet d (box d r) - 1
  -- owner and LP are rows up to the row itself, a close is at most the number of rows
  pub owner_low : (r : ℕ) → owner d r ≤ r
  pub loop_low : (r : ℕ) → loop d r ≤ r
  pub close_low : (r : ℕ) → close d r ≤ rows

-- a use that no list has
abbrev pub no_use : Use
no_use = record { item = 0; take = 0; give = 0 }

-- the uses of its rows, as parts of the file
pub record HoldsUses (file : List ℕ) (d : Diagram) (table : List ℕ) : Type 0 where
  pub uses : (r : ℕ) → r < row_count d → uses_in table file r ≡ (row d r).uses
  pub part : (r : ℕ) → r < row_count d → uses_part file r ≡ uses_part_in table r
  pub inside : (r : ℕ) → r < row_count d → uses_start_in table r + 6 * uses_number_in table r ≤ length file

-- an accepted file's diagram and the uses of its rows
pub record HoldsFile (file : List ℕ) (rows items : ℕ) (table : List ℕ) : Type 0 where
  pub diagram : Diagram
  pub read : read_diagram file ≡ accepted diagram
  pub holds : Holds diagram rows items table
  pub uses : HoldsUses file diagram table

-- the copies of its triggers: how many counts there are with them, the first of each trigger, its number of receivers, each use's place among them
pub record HoldsCopies (d : Diagram) (table : List ℕ) : Type 0 where
  pub total : counts_in table (item_total d) ≡ count_total d
  pub firsts : (k : ℕ) → k < item_total d → is_trigger d k ≡ true → first_copy_in table k ≡ item_total d + length (copies d k)
  pub receivers : (k : ℕ) → k < item_total d → is_trigger d k ≡ true → receivers_in table k ≡ length (copies_of d k (row_count d))

pub record HoldsRanks (d : Diagram) (table : List ℕ) : Type 0 where
  pub ranks : (r j : ℕ) → r < row_count d → j < length (row d r).uses → is_trigger d (get_or (row d r).uses j no_use).item ≡ true
      → rank_in table r j ≡ length (copies_of d (get_or (row d r).uses j no_use).item r)

-- all that a move or a net asks for: an accepted file's diagram, its uses and its copies
pub record HoldsPlant (file : List ℕ) (rows items : ℕ) (table : List ℕ) : Type 0 where
  pub held : HoldsFile file rows items table
  pub copies : HoldsCopies held.diagram table
  pub ranks : HoldsRanks held.diagram table

-- words that begin with a fresh state's words of the rows and the items
pub record FreshFront (d : Diagram) (plain : List ℕ) : Type 0 where
  pub long : 3 * row_count d + item_total d ≤ length plain
  pub words : (i : ℕ) → i < 3 * row_count d + item_total d → get_or plain i 0 ≡ get_or (fresh_words d) i 0

-- words that begin with the fresh state of a diagram, and have 0 behind it
pub record FreshOf (d : Diagram) (state : List ℕ) : Type 0 where
  pub words : take (places d) state ≡ fresh_words d
  pub behind : (i : ℕ) → places d ≤ i → get_or state i 0 ≡ 0
