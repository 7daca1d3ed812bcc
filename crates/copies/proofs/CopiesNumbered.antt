-- The copies, numbered: a trigger's first one stands behind the items and the copies of the items in front of it.
use Prim.Native.Nat.{ℕ, zero, suc, ◌+◌, ◌*◌, ◌≤◌, ◌<◌}
use mathlib.Core.Path.{◌≡◌, sym, ◌∙◌, ap, subst}
use mathlib.Core.List.{List}
use native.Mathlib.Omega.{arith}
use native.Mathlib.Numerals.{add-one}
use lib.ListN.{length, get_or, set, length-set, length-append}
use lib.Seq.{get_or-set_same, get_or-set_other}
use lib.Dec.{eqb}
use borrow.Author.Tests.{eqb-true, eqb-false}
use Rattle.ranges.specs.Tests.{decide}
use Rattle.effbd.specs.Diagrams.{Diagram, row_count, item_total}
use Rattle.effbd.specs.Counts.{copies, copies_of}
use Rattle.agreement.specs.AcceptedFiles.{Held}
use Rattle.agreement.specs.Counts.{counts-few}
use Rattle.agreement.specs.Sources.{counts-are}
use Rattle.diagram_table.specs.Cells.{receivers_cell, first_copy_cell, copies_cell, counted_total, receivers_in, first_copy_in, copies_in}
use Rattle.words.specs.Sums.{added}
use Rattle.words.proofs.PlainSums.{whole_sum}
use Rattle.copies.specs.Counting.{copies_numbered}

module _ (d : Diagram) where
  pub copies-next : (k : ℕ) → length (copies d (suc k)) ≡ length (copies d k) + length (copies_of d k (row_count d))
  unfolding copies
  copies-next k = length-append (copies d k) (copies_of d k (row_count d))

  copies-grow : (k n : ℕ) → length (copies d k) ≤ length (copies d (k + n))
  copies-grow k zero = let y : k + 0 ≡ k = omega arith in subst (λ x. length (copies d k) ≤ length (copies d x)) (sym y) (omega arith)
  copies-grow k (suc n) =
      let a = copies-grow k n in let y : k + suc n ≡ suc (k + n) = omega arith in
      subst (λ x. length (copies d k) ≤ length (copies d x)) (sym y) (omega (arith, copies-next (k + n)))

  -- after the items from k on
  pub record CopiesDone (k : ℕ) (t next : List ℕ) : Type 0 where
    pub long : length next ≡ length t
    pub below : (i : ℕ) → i < first_copy_cell 0 → get_or next i 0 ≡ get_or t i 0
    pub above : (i : ℕ) → counted_total ≤ i → get_or next i 0 ≡ get_or t i 0
    pub before : (i : ℕ) → i < k → first_copy_in next i ≡ first_copy_in t i
    pub firsts : (i : ℕ) → k ≤ i → i < item_total d → first_copy_in next i ≡ item_total d + length (copies d i)
    pub total : copies_in next ≡ length (copies d (item_total d))

  module _ (h : Held d) where
    pub copies-few : length (copies d (item_total d)) ≤ 63 * item_total d
    copies-few = omega (arith, counts-few d 63 h.works, counts-are d)

    fits : (k n : ℕ) → k + n ≡ item_total d → item_total d + length (copies d k) ≤ 1024
    fits k n e = let a = copies-grow k n in let b = copies-few in let c = h.items in
        let z : length (copies d k) ≤ length (copies d (item_total d)) = subst (λ x. length (copies d k) ≤ length (copies d x)) e a in omega arith

    pub copies-numbered : (n k many : ℕ) (t : List ℕ) → k + n ≡ item_total d → many ≡ length (copies d k) → counted_total ≤ length t
        → ((i : ℕ) → i < item_total d → receivers_in t i ≡ length (copies_of d i (row_count d))) → CopiesDone k t (copies_numbered (item_total d) n k many t)
    unfolding copies_numbered
    copies-numbered zero k many t e em long r = let x = h.items in record {
      long = length-set t copies_cell many;
      below = λ i l. get_or-set_other t copies_cell i many 0 (λ z. absurd (omega arith));
      above = λ i l. get_or-set_other t copies_cell i many 0 (λ z. absurd (omega arith));
      before = λ i l. get_or-set_other t copies_cell (first_copy_cell i) many 0 (λ z. absurd (omega arith));
      firsts = λ i l m. absurd (omega arith);
      total = get_or-set_same t copies_cell many 0 (omega arith) ∙ (em ∙ ap (λ x. length (copies d x)) (let y : k ≡ item_total d = omega arith in y));
    }
    copies-numbered (suc n) k many t e em long r = one (copies-numbered n (k + 1) (added many (receivers_in t k)) s (omega arith) more (omega (arith, length-set t (first_copy_cell k) (added (item_total d) many)))
        (λ i l. get_or-set_other t (first_copy_cell k) (receivers_cell i) _ 0 (λ z. let x = h.items in absurd (omega arith)) ∙ r i l))
      where
        s : List ℕ
        s = set t (first_copy_cell k) (added (item_total d) many)

        more : added many (receivers_in t k) ≡ length (copies d (k + 1))
        more =
            let a = fits (k + 1) n (omega arith) in
            let y : length (copies d (k + 1)) ≡ many + receivers_in t k = ap (λ x. length (copies d x)) (add-one k) ∙ (copies-next k ∙ (let z = r k (omega arith) in omega arith)) in
            whole_sum many (receivers_in t k) (omega arith) ∙ sym y

        own : first_copy_in s k ≡ item_total d + length (copies d k)
        own =
            let x = h.items in let a = fits k (suc n) e in
            get_or-set_same t (first_copy_cell k) _ 0 (omega arith) ∙ (whole_sum (item_total d) many (omega arith) ∙ ap (λ (y : ℕ). item_total d + y) em)

        one : {next : List ℕ} → CopiesDone (k + 1) s next → CopiesDone k t next
        one {next} w = let x = h.items in record {
          long = w.long ∙ length-set t (first_copy_cell k) _;
          below = λ i l. w.below i l ∙ get_or-set_other t (first_copy_cell k) i _ 0 (λ z. absurd (omega arith));
          above = λ i l. w.above i l ∙ get_or-set_other t (first_copy_cell k) i _ 0 (λ z. absurd (omega arith));
          before = λ i l. w.before i (omega arith) ∙ get_or-set_other t (first_copy_cell k) (first_copy_cell i) _ 0 (λ z. absurd (omega arith));
          firsts = λ i l m. decide (eqb i k)
              (λ z. subst (λ y. first_copy_in next y ≡ item_total d + length (copies d y)) (sym (eqb-true i k z)) (w.before k (omega arith) ∙ own))
              (λ z. let y = eqb-false i k z in w.firsts i (omega arith) m);
          total = w.total;
        }
