-- The records of the counts' places with their fresh marks. Assumes nothing.
use Rattle.std.specs.Prelude.{ℕ, cond, List, [], ◌++◌, eqb}
use Rattle.diagram_table.specs.Cells.{count_in, trigger_in, receivers_in, some_trigger_in, shared_in}
use Rattle.net_records.specs.Writing.{Records, runs}
use Rattle.net_records.specs.Records.{mark}

-- an item's place; that of a trigger remains empty
unfoldable pub item_mark : (table : List ℕ) (k : ℕ) → Records
item_mark table k = mark (shared_in table k)

-- the copies of a trigger, alike; of all items, where one is a trigger
unfoldable pub equal_marks : (n weight : ℕ) → Records
equal_marks n weight = runs (λ i. mark weight) n

unfoldable pub copy_marks : (table : List ℕ) (k : ℕ) → Records
copy_marks table k = cond (eqb (trigger_in table k) 0) [] (equal_marks (receivers_in table k) (count_in table k))

unfoldable pub copies_marks : (table : List ℕ) (items : ℕ) → Records
copies_marks table items = cond (eqb (some_trigger_in table) 0) [] (runs (copy_marks table) items)

unfoldable pub count_marks : (table : List ℕ) (items : ℕ) → Records
count_marks table items = runs (item_mark table) items ++ copies_marks table items
