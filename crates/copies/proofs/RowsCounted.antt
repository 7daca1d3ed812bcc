-- The rows, counted: after those below r an item has as many receivers as it has copies for them, which is the rank of the uses of row r that name it.
use Prim.Native.Nat.{ℕ, zero, suc, ◌+◌, ◌≤◌, ◌<◌, zero-le}
use mathlib.Core.Path.{◌≡◌, refl, sym, ◌∙◌, ap, subst}
use mathlib.Core.Bool.{Bool, true, false, cond, not, ◌&&◌, and-false}
use mathlib.Core.List.{List, [], ◌∷◌}
use native.Mathlib.Omega.{arith}
use lib.ListN.{length, get_or, length-append}
use lib.Dec.{leb, eqb}
use borrow.Author.Tests.{eqb-true, eqb-false}
use Rattle.effbd.specs.Diagrams.{Diagram, function, number_of, row_count, item_total, is_trigger, row, kind, is_kind, uses_fine, row_fine, row_fine_as}
use Rattle.effbd.specs.Counts.{copy, take_of, receives, copies_of}
use Rattle.ranges.specs.Tests.{decide, clash, and_right}
use Rattle.agreement.specs.AcceptedFiles.{Held}
use Rattle.agreement.specs.Basics.{same-eq}
use Rattle.diagram_table.specs.Cells.{cell_of, item_cell, first_copy_cell, cell_total, counted_total, rank_cell, kind_in, trigger_in, receivers_in, uses_start_in, uses_number_in, rank_in, uses_bytes, uses_in}
use Rattle.diagram_table.specs.Held.{no_use}
use Rattle.copies.specs.Counting.{receives_in, uses_counted, row_counted, rows_counted}
use Rattle.diagram_table.proofs.RisingUses.{few-uses, item-rises}
use Rattle.copies.proofs.UsesCounted.{UsesDone, uses-counted}

-- a table that has a diagram's records, before its receivers are counted
pub record Begun (file : List ℕ) (d : Diagram) (t : List ℕ) : Type 0 where
  pub long : counted_total ≤ length t
  pub kinds : (r : ℕ) → r < row_count d → kind_in t r ≡ number_of (kind d r)
  pub triggers : (k : ℕ) → k < item_total d → trigger_in t k ≡ cond (is_trigger d k) 1 0
  pub uses : (r : ℕ) → r < row_count d → uses_in t file r ≡ (row d r).uses
  pub none : (k : ℕ) → k < item_total d → receivers_in t k ≡ 0

-- after the rows below r
pub record RowsDone (d : Diagram) (r : ℕ) (t next : List ℕ) : Type 0 where
  pub long : length next ≡ length t
  pub below : (i : ℕ) → i < cell_total → get_or next i 0 ≡ get_or t i 0
  pub above : (i : ℕ) → first_copy_cell 0 ≤ i → i < counted_total → get_or next i 0 ≡ get_or t i 0
  pub receivers : (k : ℕ) → k < item_total d → receivers_in next k ≡ length (copies_of d k r)
  pub ranks : (q j : ℕ) → q < r → is_kind d function q ≡ true → j < length (row d q).uses → rank_cell q j < length t
      → rank_in next q j ≡ length (copies_of d (get_or (row d q).uses j no_use).item q)

-- a table whose cells of a row are another's has the same uses of it
pub uses-same : (t next file : List ℕ) (r : ℕ) → uses_start_in next r ≡ uses_start_in t r → uses_number_in next r ≡ uses_number_in t r → uses_in next file r ≡ uses_in t file r
unfolding uses_bytes
uses-same t next file r a b = rw (a, b)

module _ (d : Diagram) where
  copies-more : (k r : ℕ) → length (copies_of d k (suc r)) ≡ length (copies_of d k r) + cond (receives d k r) 1 0
  unfolding copies_of
  copies-more k r = length-append (copies_of d k r) (cond (receives d k r) (copy k r ∷ []) []) ∙ go (receives d k r)
    where
      go : (b : Bool) → length (copies_of d k r) + length (cond b (copy k r ∷ []) []) ≡ length (copies_of d k r) + cond b 1 0
      go true = refl
      go false = refl

  -- at most one for each row
  pub copies-low : (k r : ℕ) → length (copies_of d k r) ≤ r
  unfolding copies_of
  copies-low k zero = zero-le
  copies-low k (suc r) = go (receives d k r) (copies-low k r) (copies-more k r)
    where
      go : (b : Bool) → length (copies_of d k r) ≤ r → length (copies_of d k (suc r)) ≡ length (copies_of d k r) + cond b 1 0 → length (copies_of d k (suc r)) ≤ suc r
      go true l e = omega arith
      go false l e = omega arith

  -- what counting asks of a FUNCTION's take is what the definition asks
  receives-is : (t : List ℕ) (k r : ℕ) → trigger_in t k ≡ cond (is_trigger d k) 1 0 → is_kind d function r ≡ true → receives_in t k (take_of (row d r).uses k) ≡ receives d k r
  unfolding receives_in
  receives-is t k r e f = rw (e, f) (go (is_trigger d k) (not (eqb (take_of (row d r).uses k) 0)))
    where
      go : (a b : Bool) → (not (eqb (cond a 1 0) 0) && b) ≡ (a && b)
      go true b = refl
      go false b = refl

  module _ (h : Held d) where
    pub uses-rise : (r : ℕ) → is_kind d function r ≡ true → uses_fine (item_total d) 0 (row d r).uses ≡ true
    uses-rise r f = and_right (leb (row d r).first (row d r).second) _
        (subst (λ k. row_fine_as k (item_total d) (row d r) ≡ true) (same-eq (kind d r) function f) (unfold row_fine in (h.each r).fine))

    module _ (file t : List ℕ) (b : Begun file d t) where
      -- a row that is a FUNCTION
      function-row : (r : ℕ) (s next : List ℕ) → r < row_count d → is_kind d function r ≡ true → RowsDone d r t s → UsesDone (item_total d) (rank_cell r 0) (row d r).uses s next → RowsDone d (suc r) t next
      function-row r s next l f w u = record {
        long = u.long ∙ w.long;
        below = λ i a. u.below i a ∙ w.below i a;
        above = λ i a c. u.above i a (omega arith) ∙ w.above i a c;
        receivers = λ k a. u.receivers k a ∙ (ap (λ (x : ℕ). x + cond (receives_in s k (take_of (row d r).uses k)) 1 0) (w.receivers k a)
            ∙ (ap (λ (x : Bool). length (copies_of d k r) + cond x 1 0) (receives-is s k r (w.below (item_cell 1 k) (let x = h.items in omega arith) ∙ b.triggers k a) f) ∙ sym (copies-more k r)));
        ranks = λ q j a g c m. decide (eqb q r)
            (λ e. let z = eqb-true q r e in subst
            (λ x. j < length (row d x).uses → rank_cell x j < length t → rank_in next x j ≡ length (copies_of d (get_or (row d x).uses j no_use).item x)) (sym z) (λ c m. own j c m) c m)
            (λ e. let z = eqb-false q r e in let y = few-uses (item_total d) 0 (row d q).uses (uses-rise q g) zero-le in let x = h.items in
            u.above (rank_cell q j) (omega arith) (omega arith) ∙ w.ranks q j (omega arith) g c m);
      }
        where
          own : (j : ℕ) → j < length (row d r).uses → rank_cell r j < length t → rank_in next r j ≡ length (copies_of d (get_or (row d r).uses j no_use).item r)
          own j c m =
              let x = item-rises (item_total d) 0 (row d r).uses (uses-rise r f) j c in
              let y : rank_cell r j ≡ rank_cell r 0 + j = omega arith in
              ap (λ i. get_or next i 0) y ∙ (u.ranks j c (omega (arith, w.long)) ∙ w.receivers (get_or (row d r).uses j no_use).item x.1)

      -- a row that is none
      other_row : (r : ℕ) (s : List ℕ) → is_kind d function r ≡ false → RowsDone d r t s → RowsDone d (suc r) t s
      other_row r s f w = record {
        long = w.long;
        below = w.below;
        above = w.above;
        receivers = λ k a. w.receivers k a ∙ sym (copies-more k r ∙ rw (f, and-false (is_trigger d k)) (let y : length (copies_of d k r) + 0 ≡ length (copies_of d k r) = omega arith in y));
        ranks = λ q j a g c m. decide (eqb q r)
            (λ e. clash (subst (λ x. is_kind d function x ≡ true) (eqb-true q r e) g) f)
            (λ e. let z = eqb-false q r e in w.ranks q j (omega arith) g c m);
      }

      module _ (r : ℕ) (s : List ℕ) (l : r < row_count d) (w : RowsDone d r t s) where
        near : r < 64
        near = let x = h.rows in omega arith

        kind-is : kind_in s r ≡ number_of (kind d r)
        kind-is = let x = near in w.below r (omega arith) ∙ b.kinds r l

        row-counted : RowsDone d (suc r) t (row_counted file r s)
        unfolding row_counted
        row-counted = let x = near in decide (is_kind d function r)
            (λ f. subst (RowsDone d (suc r) t) (sym (ap (λ y. cond (eqb y 16) (uses_counted (rank_cell r 0) (uses_in s file r) s) s) kind-is ∙ (rw f refl ∙ ap (λ y. uses_counted (rank_cell r 0) y s) uses-are)))
            (function-row r s _ l f w (uses-counted (item_total d) h.items 0 (rank_cell r 0) (row d r).uses s (uses-rise r f) (omega arith) (omega (arith, w.long, b.long)) (λ k z y. omega (arith, w.receivers k y, copies-low k r)))))
            (λ f. subst (RowsDone d (suc r) t) (sym (ap (λ y. cond (eqb y 16) (uses_counted (rank_cell r 0) (uses_in s file r) s) s) kind-is ∙ rw f refl)) (other_row r s f w))
          where
            uses-are : uses_in s file r ≡ (row d r).uses
            uses-are = let x = near in uses-same t s file r (w.below (cell_of 3 r) (omega arith)) (w.below (cell_of 4 r) (omega arith)) ∙ b.uses r l

      pub rows-counted : (r : ℕ) → r ≤ row_count d → RowsDone d r t (rows_counted file r t)
      unfolding rows_counted copies_of
      rows-counted zero l = record { long = refl; below = λ i a. refl; above = λ i a c. refl; receivers = λ k a. b.none k a; ranks = λ q j a g c m. absurd (omega arith) }
      rows-counted (suc r) l = row-counted r (rows_counted file r t) l (rows-counted r (omega arith))
