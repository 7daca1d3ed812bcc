-- The code's table is `kind_table`: one computed test over all entries; no kind is 38 or more, none longer than 10.
use Prim.Native.Nat.{ℕ, ◌+◌, ◌*◌, ◌≤◌}
use mathlib.Core.Path.{◌≡◌, refl, sym, ◌∙◌, ap}
use mathlib.Core.Bool.{Bool, true, ◌&&◌}
use mathlib.Core.List.{List, [], ◌∷◌}
use native.Mathlib.Omega.{arith}
use borrow.Author.Tests.{ltb-true, ltb-false, leb-true, eqb-true, ne_eqb}
use lib.ListN.{get_or, length, get_or-eq_default}
use lib.Dec.{leb, ltb, eqb}
use Rattle.effbd.specs.Ranges.{all_below}
use Rattle.effbd.specs.Records.{Entry, kind_table, entry, entry_in, length_of, fields_of, KindBytes}
use Rattle.ranges.specs.Tests.{decide, and_left, and_right}
use Rattle.ranges.specs.RangeLaws.{all-elim}

unfoldable pub cells : List ℕ
cells = 0 ∷ 0 ∷ 10 ∷ 3 ∷ 6 ∷ 1 ∷ 6 ∷ 1 ∷ 0 ∷ 0 ∷ 0 ∷ 0 ∷ 0 ∷ 0 ∷ 0 ∷ 0 ∷ 0 ∷ 0 ∷ 0 ∷ 0 ∷ 0 ∷ 0 ∷ 0 ∷ 0 ∷ 0 ∷ 0 ∷ 0 ∷ 0 ∷ 0 ∷ 0 ∷ 0 ∷ 0 ∷ 8 ∷ 2 ∷ 4 ∷ 0 ∷ 4 ∷ 0 ∷ 4 ∷ 0 ∷ 4 ∷ 0 ∷ 4 ∷ 0 ∷ 6 ∷ 1 ∷ 4 ∷ 0 ∷ 4 ∷ 0 ∷ 4 ∷ 0 ∷ 4 ∷ 0 ∷ 4 ∷ 0 ∷ 4 ∷ 0 ∷ 4 ∷ 0 ∷ 4 ∷ 0 ∷ 6 ∷ 1 ∷ 8 ∷ 2 ∷ 6 ∷ 1 ∷ 10 ∷ 3 ∷ 8 ∷ 2 ∷ 8 ∷ 2 ∷ 8 ∷ 2 ∷ []

-- the test at an entry: base length and field count
abbrev right : ℕ → Bool
right k = eqb (get_or cells (2 * k) 0) (length_of k) && eqb (get_or cells (2 * k + 1) 0) (fields_of k)

all_right : all_below 38 right ≡ true
unfolding cells kind_table entry_in length_of fields_of
all_right = refl

abbrev low : List Entry → Bool
low [] = true
low (e ∷ es) = ltb e.kind 38 && low es

no-entry : (es : List Entry) (k : ℕ) → low es ≡ true → 38 ≤ k → entry_in es k ≡ entry k 0 0
unfolding entry_in
no-entry [] k h l = refl
no-entry (e ∷ es) k h l =
    let z = ltb-true e.kind 38 (and_left (ltb e.kind 38) (low es) h) in
    rw (ne_eqb e.kind k (omega arith), no-entry es k (and_right (ltb e.kind 38) (low es) h) l)

all-low : low kind_table ≡ true
unfolding kind_table
all-low = refl

length-out : (k : ℕ) → 38 ≤ k → 0 ≡ length_of k
unfolding length_of
length-out k h = sym (ap (λ (e : Entry). e.base) (no-entry kind_table k all-low h))

fields_out : (k : ℕ) → 38 ≤ k → 0 ≡ fields_of k
unfolding fields_of
fields_out k h = sym (ap (λ (e : Entry). e.fields) (no-entry kind_table k all-low h))

seventy-six : length cells ≡ 76
unfolding cells
seventy-six = refl

cell_out : (i : ℕ) → 76 ≤ i → get_or cells i 0 ≡ 0
cell_out i h = get_or-eq_default cells 0 {n = i} (let z = seventy-six in omega arith)

pub table-right : KindBytes cells
table-right = record {
  base = λ k. decide (ltb k 38)
      (λ e. eqb-true (get_or cells (2 * k) 0) (length_of k)
      (and_left (eqb (get_or cells (2 * k) 0) (length_of k)) (eqb (get_or cells (2 * k + 1) 0) (fields_of k)) (all-elim 38 right all_right k (ltb-true k 38 e))))
      (λ e. let z = ltb-false k 38 e in cell_out (2 * k) (omega arith) ∙ length-out k z);
  fields = λ k. decide (ltb k 38)
      (λ e. eqb-true (get_or cells (2 * k + 1) 0) (fields_of k)
      (and_right (eqb (get_or cells (2 * k) 0) (length_of k)) (eqb (get_or cells (2 * k + 1) 0) (fields_of k)) (all-elim 38 right all_right k (ltb-true k 38 e))))
      (λ e. let z = ltb-false k 38 e in cell_out (2 * k + 1) (omega arith) ∙ fields_out k z);
}

short-table : all_below 38 (λ k. leb (length_of k) 10) ≡ true
unfolding length_of entry_in kind_table
short-table = refl

-- no record is longer than 10 bytes, but a FUNCTION's
pub short : (k : ℕ) → length_of k ≤ 10
short k = decide (ltb k 38)
    (λ e. leb-true (length_of k) 10 (all-elim 38 (λ j. leb (length_of j) 10) short-table k (ltb-true k 38 e)))
    (λ e. let z = length-out k (ltb-false k 38 e) in omega arith)
