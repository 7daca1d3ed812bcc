-- The words that are put are the fresh state.
use Prim.Native.Nat.{ℕ, zero, suc, ◌+◌, ◌-◌, ◌*◌, ◌/◌, ◌%◌, ◌≤◌, ◌<◌}
use mathlib.Core.Path.{◌≡◌, refl, sym, ◌∙◌, ap, subst}
use mathlib.Core.Logic.{◌≢◌}
use mathlib.Core.Bool.{Bool, true, false, cond, ◌&&◌}
use mathlib.Core.List.{List, [], ◌∷◌}
use native.Mathlib.Omega.{arith}
use lib.ListN.{length, get_or, set, length-set}
use lib.Seq.{get_or-set_same, get_or-set_other}
use lib.Dec.{ltb, eqb}
use borrow.Author.Tests.{ltb-true, ltb-false, lt-ltb, le-ltb, eqb-true, eqb-false, eq-eqb, ne_eqb}
use Rattle.effbd.specs.Answers.{accepted}
use Rattle.effbd.specs.Ranges.{tabulate}
use Rattle.effbd.specs.Diagrams.{Kind, function, and_open, branch, and_close, or_open, or_close, it_open, it_close, lp_open, lp_close, loop_exit, end, box_open, box_close, box_exit, number_of, same_kind, Diagram, row_count, item_total, item, is_trigger, kind, is_kind}
use Rattle.effbd.specs.Counts.{initial_count}
use Rattle.effbd.specs.Nesting.{stack, owner, nested}
use Rattle.effbd.specs.Layout.{by_place, places, place_of}
use Rattle.effbd.specs.States.{state_words, entered_as, entered_row, ends_killer, killed, entered, fresh, fresh_words}
use Rattle.ranges.specs.RangeLaws.{get_d-tab}
use Rattle.ranges.specs.Tests.{decide, clash, and_left, and_right}
use Rattle.agreement.specs.AcceptedFiles.{nested-clear}
use Rattle.nesting.specs.Runs.{part_of}
use Rattle.diagram.specs.FreshWords.{counts_put, fresh_put, Freshened}
use Rattle.diagram_table.specs.Cells.{plain_places, shared_in}
use Rattle.diagram_table.specs.Held.{Holds, FreshFront}
use Rattle.agreement.specs.Sources.{item-shared, counts-are}
use Rattle.nesting.proofs.Rules.{ending}
use Rattle.nesting.proofs.Stacks.{does, held}

-- a list of zeros
abbrev pub all_zero : List ℕ → Bool
all_zero [] = true
all_zero (x ∷ l) = eqb x 0 && all_zero l

zero-at : (l : List ℕ) → all_zero l ≡ true → (i : ℕ) → get_or l i 0 ≡ 0
zero-at [] h zero = refl
zero-at [] h (suc i) = refl
zero-at (x ∷ l) h zero = eqb-true x 0 (and_left (eqb x 0) (all_zero l) h)
zero-at (x ∷ l) h (suc i) = zero-at l (and_right (eqb x 0) (all_zero l) h) i

-- the counts that were put
counts-long : (rows k : ℕ) (table l : List ℕ) → length (counts_put rows k table l) ≡ length l
unfolding counts_put
counts-long rows zero table l = refl
counts-long rows (suc k) table l = length-set (counts_put rows k table l) (3 * rows + k) (shared_in table k) ∙ counts-long rows k table l

counts-other : (rows k : ℕ) (table l : List ℕ) (i : ℕ) → ((j : ℕ) → j < k → i ≢ 3 * rows + j) → get_or (counts_put rows k table l) i 0 ≡ get_or l i 0
unfolding counts_put
counts-other rows zero table l i h = refl
counts-other rows (suc k) table l i h =
    get_or-set_other (counts_put rows k table l) (3 * rows + k) i (shared_in table k) 0 (h k (omega arith)) ∙ counts-other rows k table l i (λ j z. h j (omega arith))

counts-at : (rows k : ℕ) (table l : List ℕ) (j : ℕ) → j < k → 3 * rows + k ≤ length l → get_or (counts_put rows k table l) (3 * rows + j) 0 ≡ shared_in table j
unfolding counts_put
counts-at rows zero table l j h n = absurd (omega arith)
counts-at rows (suc k) table l j h n = decide (eqb j k)
    (λ e. let z = eqb-true j k e in rw z (get_or-set_same (counts_put rows k table l) (3 * rows + k) (shared_in table k) 0 (omega (arith, counts-long rows k table l))))
    (λ e. let z : j ≢ k = eqb-false j k e in
    get_or-set_other (counts_put rows k table l) (3 * rows + k) (3 * rows + j) (shared_in table k) 0 (λ y. z (omega arith)) ∙ counts-at rows k table l j (omega arith) (omega arith))

module _ (d : Diagram) (acc : nested d ≡ accepted d) (some : 0 < row_count d) where
  -- row 0 is neither BRANCH nor close, so that entering it makes it ready itself, and ends no branch that kills
  first-as : (k : Kind) (of_and : Bool) → ending (part_of (number_of k)) ≡ false → (entered_as d k of_and 0 ≡ 0) × (same_kind k branch ≡ false) × (same_kind k and_close ≡ false)
  unfolding part_of
  first-as function of_and h = (refl, refl, refl)
  first-as and_open of_and h = (refl, refl, refl)
  first-as branch of_and h = clash refl h
  first-as and_close of_and h = clash refl h
  first-as or_open of_and h = (refl, refl, refl)
  first-as or_close of_and h = clash refl h
  first-as it_open of_and h = (refl, refl, refl)
  first-as it_close of_and h = clash refl h
  first-as lp_open of_and h = (refl, refl, refl)
  first-as lp_close of_and h = clash refl h
  first-as loop_exit of_and h = (refl, refl, refl)
  first-as end of_and h = (refl, refl, refl)
  first-as box_open of_and h = (refl, refl, refl)
  first-as box_close of_and h = (refl, refl, refl)
  first-as box_exit of_and h = (refl, refl, refl)

  first : (entered_row d 0 ≡ 0) × (is_kind d branch 0 ≡ false) × (is_kind d and_close 0 ≡ false)
  unfolding entered_row
  first = first-as (kind d 0) (is_kind d and_open (owner d 0))
      (decide (ending (does d 0)) (λ e. absurd (held d (nested-clear d d acc).walk 0 some e (unfold stack in refl))) (λ e. e))

  quiet : ends_killer d 0 ≡ false
  unfolding ends_killer
  quiet = rw (first.1, first.2)

  entered-is : (q : ℕ) → entered d 0 q ≡ eqb q 0
  unfolding entered
  entered-is q = rw (quiet, first.0)

  killed-none : (q : ℕ) → killed d 0 q ≡ false
  unfolding killed
  killed-none q = rw quiet

  -- a word of the fresh state
  fresh-word : ℕ → ℕ
  fresh-word p = by_place (fresh d).activity (fresh d).turns (fresh d).clock (fresh d).count (place_of d p)

  activity-is : (q : ℕ) → (fresh d).activity q ≡ cond (eqb q 0) 1 0
  activity-is q = rw (entered-is q, killed-none q) (decide (eqb q 0)
      (λ e. rw (eqb-true q 0 e, first.1))
      (λ e. rw e))

  clock-is : (q : ℕ) → (fresh d).clock q ≡ 0
  clock-is q = rw (killed-none q) (go (entered d 0 q))
    where
      go : (b : Bool) → ◌≡◌ {A = ℕ} (cond b 0 0) 0
      go true = refl
      go false = refl

  word_row : (p : ℕ) → p < 3 * row_count d → fresh-word p ≡ cond (eqb p 0) 1 0
  unfolding fresh-word place_of
  word_row p l = rw (lt-ltb p (3 * row_count d) l) (decide (eqb (p % 3) 0)
      (λ e. let z = eqb-true (p % 3) 0 e in rw e (activity-is (p / 3) ∙ same_test z))
      (λ e. let z : p % 3 ≢ 0 = eqb-false (p % 3) 0 e in let ne : p ≢ 0 = λ y. z (omega arith) in
      rw (e, ne_eqb p 0 ne) (decide (eqb (p % 3) 1) (λ f. rw (f, killed-none (p / 3))) (λ f. rw f (clock-is (p / 3))))))
    where
      same_test : p % 3 ≡ 0 → ◌≡◌ {A = ℕ} (cond (eqb (p / 3) 0) 1 0) (cond (eqb p 0) 1 0)
      same_test z = decide (eqb p 0)
          (λ e. let y = eqb-true p 0 e in let x : p / 3 ≡ 0 = omega arith in rw (e, eq-eqb (p / 3) 0 x))
          (λ e. let y : p ≢ 0 = eqb-false p 0 e in let x : p / 3 ≢ 0 = λ w. y (omega arith) in rw (e, ne_eqb (p / 3) 0 x))

  word_count : (k : ℕ) → fresh-word (3 * row_count d + k) ≡ initial_count d k
  unfolding fresh-word place_of
  word_count k =
      let z : 3 * row_count d + k - 3 * row_count d ≡ k = omega arith in
      rw (le-ltb (3 * row_count d + k) (3 * row_count d) (omega arith), z)

  shared-is : (rows items : ℕ) (table : List ℕ) → Holds d rows items table → (k : ℕ) → k < items → shared_in table k ≡ initial_count d k
  unfolding shared_in initial_count
  shared-is rows items table h k l =
      let m = h.records.items_are in
      rw (item-shared d k (omega arith), h.records.triggers k l, h.records.counts k l) (go (is_trigger d k))
    where
      go : (b : Bool) → cond (eqb (cond b 1 0) 0) (item d k).initial 0 ≡ cond b 0 (item d k).initial
      go true = refl
      go false = refl

  module _ (rows items : ℕ) (table zeros : List ℕ) (h : Holds d rows items table) (n : length zeros ≡ plain_places) (e : all_zero zeros ≡ true) where
    abbrev put : List ℕ
    put = fresh_put rows items table zeros

    put_low : (p : ℕ) → p < 3 * rows → get_or put p 0 ≡ cond (eqb p 0) 1 0
    unfolding fresh_put
    put_low p l = counts-other rows items table (set zeros 0 1) p (λ j z y. absurd (omega arith)) ∙ decide (eqb p 0)
        (λ x. let z = eqb-true p 0 x in rw z (get_or-set_same zeros 0 1 0 (omega arith)))
        (λ x. rw x (get_or-set_other zeros 0 p 1 0 (eqb-false p 0 x) ∙ zero-at zeros e p))

    put-long : length put ≡ plain_places
    unfolding fresh_put
    put-long = counts-long rows items table (set zeros 0 1) ∙ (length-set zeros 0 1 ∙ n)

    put_count : (k : ℕ) → k < items → get_or put (3 * rows + k) 0 ≡ initial_count d k
    unfolding fresh_put
    put_count k l = counts-at rows items table (set zeros 0 1) k l (let a = h.records.few_rows in let b = h.records.few_items in omega (arith, length-set zeros 0 1)) ∙ shared-is rows items table h k l

    put-behind : (i : ℕ) → 3 * row_count d + item_total d ≤ i → get_or put i 0 ≡ 0
    unfolding fresh_put
    put-behind i l = let a = h.records.some_row in let b = h.records.rows_are in let c = h.records.items_are in
        counts-other rows items table (set zeros 0 1) i (λ j z y. absurd (omega arith))
        ∙ (get_or-set_other zeros 0 i 1 0 (λ z. absurd (omega arith)) ∙ zero-at zeros e i)

    word-is : (p : ℕ) → p < 3 * row_count d + item_total d → get_or put p 0 ≡ fresh-word p
    word-is p l = let a = h.records.rows_are in let b = h.records.items_are in decide (ltb p (3 * rows))
        (λ x. let z = ltb-true p (3 * rows) x in put_low p z ∙ sym (word_row p (omega arith)))
        (λ x. let z = ltb-false p (3 * rows) x in
        let k : 3 * rows + (p - 3 * rows) ≡ p = omega arith in
        let m : 3 * row_count d + (p - 3 * rows) ≡ p = omega arith in
        ap (λ (i : ℕ). get_or put i 0) (sym k) ∙ (put_count (p - 3 * rows) (omega arith) ∙ (sym (word_count (p - 3 * rows)) ∙ ap fresh-word m)))

    fresh-front : FreshFront d put
    unfolding fresh_words state_words fresh-word
    fresh-front = let a = h.records.rows_are in let b = h.records.items_are in let f = h.records.few_rows in let g = h.records.few_items in
        let long = put-long in let total = counts-are d in
        record {
          long = omega arith;
          words = λ i l. word-is i l ∙ sym (get_d-tab (places d) fresh-word i 0 (omega arith));
        }

pub fresh-is : (rows items : ℕ) (table zeros state : List ℕ) → state ≡ fresh_put rows items table zeros → length zeros ≡ plain_places → all_zero zeros ≡ true → zeros ≡ tabulate plain_places (λ i. 0)
    → Freshened rows items table state
fresh-is rows items table zeros state es n e z = record {
  is = es ∙ ap (fresh_put rows items table) z;
  of = λ d h. subst (FreshFront d) (sym es) (fresh-front d h.nests (some d h) rows items table zeros h n e);
  behind = λ d h i l. subst (λ (x : List ℕ). get_or x i 0 ≡ 0) (sym es) (put-behind d h.nests (some d h) rows items table zeros h n e i l);
}
  where
    some : (d : Diagram) → Holds d rows items table → 0 < row_count d
    some d h = omega (arith, h.records.some_row, h.records.rows_are)
