-- What stands in the table while items are read: laying what is due from here on is laying all.
use Prim.Native.Nat.{ℕ, suc, ◌+◌, ◌-◌, ◌<◌}
use mathlib.Core.Path.{◌≡◌, sym, ◌∙◌}
use mathlib.Core.Logic.{◌≢◌}
use mathlib.Core.Bool.{Bool}
use mathlib.Core.List.{List}
use native.Mathlib.Omega.{arith}
use lib.ListN.{length, drop}
use lib.Dec.{eqb}
use borrow.Author.Tests.{eq-eqb, ne_eqb}
use Rattle.effbd.specs.Records.{word, kind_at}
use Rattle.effbd.specs.Diagrams.{head_fault, item_fault}
use Rattle.diagram_table.specs.Cells.{cell_total}
use Rattle.diagram_records.specs.Reading.{put_item, items_laid, records_laid}
use Rattle.row_records.specs.Rows.{rows_laid}

-- the first turn of the loop
pub items-due : (rows items at n : ℕ) (l t : List ℕ) → items_laid rows items 0 at (n - 0) l t ≡ items_laid rows items 0 at n l t
items-due rows items at n l t = let z : n - 0 ≡ n = omega arith in rw z

module _ (rows items item at n : ℕ) (rest t : List ℕ) where
  pub item-laid : {k size v : ℕ} {b : Bool} {more u : List ℕ} → item < n → k ≡ item_fault rest → k ≡ 0 → v ≡ word rest 4 → b ≡ eqb (kind_at rest) 3 → size ≡ word rest 0 → more ≡ drop size rest
      → u ≡ put_item item v b t → items_laid rows items (item + 1) (at + size) (n - (item + 1)) more u ≡ items_laid rows items item at (n - item) rest t
  unfolding items_laid
  item-laid l ek z ev eb es em eu = let e : n - item ≡ suc (n - (item + 1)) = omega arith in let f : item_fault rest ≡ 0 = sym ek ∙ z in rw (em, es, eu, ev, eb, e, f)

  pub items-laid-stop : {k : ℕ} → item < n → k ≡ item_fault rest → k ≢ 0 → t ≡ items_laid rows items item at (n - item) rest t
  unfolding items_laid
  items-laid-stop l ek ne = let e : n - item ≡ suc (n - (item + 1)) = omega arith in rw (e, ne_eqb (item_fault rest) 0 (λ q. ne (ek ∙ q)))

  pub items-laid : {u : List ℕ} → item ≡ n → u ≡ rows_laid items 0 at rows rest t → u ≡ items_laid rows items item at (n - item) rest t
  unfolding items_laid
  items-laid l eu = let e : n - item ≡ 0 = omega arith in rw e eu

-- a whole file
module _ (file t : List ℕ) where
  pub other_length : length t ≢ cell_total → t ≡ records_laid file t
  unfolding records_laid
  other_length ne = rw (ne_eqb (length t) cell_total ne)

  module _ (long : length t ≡ cell_total) {k : ℕ} (ek : k ≡ head_fault file) where
    pub head-laid : k ≢ 0 → t ≡ records_laid file t
    unfolding records_laid
    head-laid ne = rw (eq-eqb (length t) cell_total long, ne_eqb (head_fault file) 0 (λ q. ne (ek ∙ q)))

    pub file-laid : {size n m : ℕ} {rest u : List ℕ} → k ≡ 0 → size ≡ word file 0 → n ≡ word file 6 → m ≡ word file 8 → rest ≡ drop size file → u ≡ items_laid n m 0 size m rest t → u ≡ records_laid file t
    unfolding records_laid
    file-laid z es en em el eu = eu ∙ rw (el, es, en, em, eq-eqb (length t) cell_total long, eq-eqb (head_fault file) 0 (sym ek ∙ z))
