-- What is left in a table, store by store, in the program's own order: receivers and ranks, numbers of copies. Assumes nothing.
use Rattle.std.specs.Prelude.{ℕ, zero, suc, ◌+◌, Bool, not, cond, ◌&&◌, List, [], ◌∷◌, take, set, eqb}
use Rattle.effbd.specs.Diagrams.{Use}
use Rattle.words.specs.Stores.{copied}
use Rattle.words.specs.Sums.{added}
use Rattle.diagram_table.specs.Cells.{receivers_cell, first_copy_cell, some_trigger_cell, copies_cell, rank_cell, kind_in, trigger_in, receivers_in, uses_in}

-- a FUNCTION that takes so much of item k receives it: of a trigger, and not 0
unfoldable pub receives_in : (table : List ℕ) (k much : ℕ) → Bool
receives_in table k much = not (eqb (trigger_in table k) 0) && not (eqb much 0)

-- a use, which takes so much of item k, with its rank in cell `at`: the rows that receive the item so far; perhaps there is one more
unfoldable pub use_counted : (at k much : ℕ) → List ℕ → List ℕ
use_counted at k much table = cond (receives_in table k much)
    (set (set table at (receivers_in table k)) (receivers_cell k) (added (receivers_in table k) 1))
    (set table at (receivers_in table k))

-- uses of a row, with their ranks from cell `at` on
unfoldable pub uses_counted : (at : ℕ) → List Use → List ℕ → List ℕ
uses_counted at [] table = table
uses_counted at (u ∷ us) table = uses_counted (at + 1) us (use_counted at u.item u.take table)

-- row r, where it is a FUNCTION; the first n rows
unfoldable pub row_counted : (file : List ℕ) (r : ℕ) → List ℕ → List ℕ
row_counted file r table = cond (eqb (kind_in table r) 16) (uses_counted (rank_cell r 0) (uses_in table file r) table) table

unfoldable pub rows_counted : (file : List ℕ) (n : ℕ) → List ℕ → List ℕ
rows_counted file zero table = table
rows_counted file (suc r) table = row_counted file r (rows_counted file r table)

-- n items from item k on, in front of which `many` copies stand; behind the last one the number of all copies
unfoldable pub copies_numbered : (items n k many : ℕ) → List ℕ → List ℕ
copies_numbered items zero k many table = set table copies_cell many
copies_numbered items (suc n) k many table = copies_numbered items n (k + 1) (added many (receivers_in table k)) (set table (first_copy_cell k) (added items many))

-- a table's records in front of zeros, with all that is said of copies
unfoldable pub copies_counted : (file : List ℕ) (rows items : ℕ) (table zeros : List ℕ) → List ℕ
copies_counted file rows items table zeros =
    copies_numbered items items 0 0 (rows_counted file rows (set (copied (take some_trigger_cell table) zeros) some_trigger_cell 1))
