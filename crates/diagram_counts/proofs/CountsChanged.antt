-- The counts after one use more.
use Prim.Native.Nat.{ℕ, ◌+◌, ◌≤◌, ◌<◌}
use mathlib.Core.Path.{◌≡◌}
use mathlib.Core.Bool.{Bool, cond}
use mathlib.Core.List.{List}
use lib.ListN.{length, drop}
use Rattle.effbd.specs.Records.{word}
use Rattle.diagram_table.specs.Cells.{uses_of}
use Rattle.diagram_table.proofs.UsesWalked.{uses-next, uses-over}
use Rattle.diagram_moves.specs.Changes.{counts_changed, use_changed}

-- use j of row r stands at the front of `rest`; w and y are its item and its amount
pub change-more : (table : List ℕ) (giving : Bool) (rows r j : ℕ) (rest l : List ℕ) → 6 ≤ length rest → (w y : ℕ) (m next : List ℕ)
    → w ≡ word rest 0 → y ≡ cond giving (word rest 4) (word rest 2) → m ≡ use_changed table giving rows r j w y l → next ≡ drop 6 rest
    → counts_changed table giving rows r (j + 1) (uses_of next) m ≡ counts_changed table giving rows r j (uses_of rest) l
unfolding counts_changed
change-more table giving rows r j rest l b w y m next item amount used tail = rw (tail, used, amount, item, uses-next rest b, counts_changed)

pub change-end : (table : List ℕ) (giving : Bool) (rows r j : ℕ) (rest l : List ℕ) → length rest < 6 → l ≡ counts_changed table giving rows r j (uses_of rest) l
unfolding counts_changed
change-end table giving rows r j rest l b = rw (uses-over rest b)
