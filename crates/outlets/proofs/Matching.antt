-- Outlets and EXITs, counted in the table, are one to one exactly where the definition says so.
use Prim.Native.Nat.{ℕ, zero, suc, ◌<◌}
use mathlib.Core.Path.{◌≡◌, refl, sym, ◌∙◌, ap, ap₂}
use mathlib.Core.Logic.{◌≢◌}
use mathlib.Core.Bool.{Bool, true, false, not, cond, ◌&&◌, ◌||◌, and-false}
use mathlib.Core.List.{List}
use native.Mathlib.Omega.{arith}
use lib.Dec.{ltb, eqb}
use borrow.Author.Tests.{eqb-true, eqb-false, eq-eqb, ne_eqb, ltb-true, ltb-false}
use Rattle.std.specs.Prelude.{Result}
use Rattle.effbd.specs.Answers.{Outcome, unless, refused, said, refusal_number, refusal_value}
use Rattle.effbd.specs.declared.refusals.Refusal.{Refusal}
use Rattle.effbd.specs.Diagrams.{Diagram, branch, box_open, box_exit, number_of, row_count, kind, is_kind, outlet_named}
use Rattle.effbd.specs.Nesting.{owner, branch_of, box, leads, outlet, first_outlet, not_one_to_one, outlet_fault, unless_row}
use Rattle.effbd.specs.Ranges.{all_below, how_many, least, only}
use Rattle.ranges.specs.Tests.{decide, clash, and_left, and_right}
use Rattle.ranges.specs.RangeLaws.{all-ext, least-ext}
use Rattle.ranges.specs.Outcomes.{unless-refused}
use Rattle.agreement.specs.Basics.{kind-past}
use Rattle.agreement.specs.RowFaults.{rows-faultless, rows-faulty}
use Rattle.diagram_table.specs.Cells.{kind_in, first_in, outlet_in, is_branch}
use Rattle.diagram_structure.specs.Walked.{Walked}
use Rattle.outlets.specs.Outlets.{branches_below, is_exit_of, names_in, exits_for, matched_at, matched_in, outlet_of, Matched}
use Rattle.nesting.proofs.Chains.{many-ext}
use Rattle.outlets.proofs.Counting.{nth, nth-once, first-nth}
use Rattle.outlets.proofs.Scenarios.{branch-is, below-is}

eqb-flip : (a b : ℕ) → eqb a b ≡ eqb b a
eqb-flip a b = decide (eqb a b) (λ e. e ∙ sym (eq-eqb b a (sym (eqb-true a b e)))) (λ e. e ∙ sym (ne_eqb b a (λ z. eqb-false a b e (sym z))))

all_both : (n : ℕ) (f g : ℕ → Bool) → all_below n (λ q. f q && g q) ≡ (all_below n f && all_below n g)
all_both zero f g = refl
all_both (suc n) f g = rw (all_both n f g) (shuffle (f n) (g n) (all_below n f) (all_below n g))
  where
    shuffle : (a b c e : Bool) → ((a && b) && (c && e)) ≡ ((a && c) && (b && e))
    shuffle true true c e = refl
    shuffle true false true e = refl
    shuffle true false false e = refl
    shuffle false b c e = refl

once-or-not : (b : Bool) → eqb (cond {A = ℕ} b 1 0) 1 ≡ b
once-or-not true = refl
once-or-not false = refl

-- ---- the diagram's tests, in a table whose EXITs have their box
module _ (d : Diagram) (rows : ℕ) (u : List ℕ) (w : Walked d rows u) (boxes : (r : ℕ) → r < rows → is_kind d box_exit r ≡ true → outlet_in u r ≡ box d r) where
  exit-is : (o r : ℕ) → r < rows → is_exit_of u o r ≡ (is_kind d box_exit r && only o (box d r))
  unfolding is_exit_of
  exit-is o r l = rw (w.kinds.cell r l) (decide (is_kind d box_exit r) (λ e. rw (e, boxes r l e)) (λ e. rw e))

  leads-as : (o r : ℕ) → is_kind d box_exit r ≡ true → box d r ≡ o → (b : ℕ) → leads d r b ≡ nth (outlet_named d r) (branch_of d o) b
  unfolding leads
  leads-as o r k e b = rw (k, e)

  leads-away : (o b r : ℕ) → branch_of d o b ≡ true → is_kind d box_exit r ≡ true → box d r ≢ o → leads d r b ≡ false
  unfolding leads branch_of
  leads-away o b r h k n = rw (k, eqb-true (owner d b) o (and_right (is_kind d branch b) _ h), ne_eqb o (box d r) (λ z. n (sym z)), and-false (is_kind d branch b))

  leads-not : (b r : ℕ) → is_kind d box_exit r ≡ false → leads d r b ≡ false
  unfolding leads
  leads-not b r k = rw k

  names-is : (o b r : ℕ) → r < rows → branch_of d o b ≡ true → names_in u o (how_many b (branch_of d o)) r ≡ leads d r b
  unfolding names_in
  names-is o b r l h = rw (exit-is o r l, w.kinds.first r l) (decide (is_kind d box_exit r)
      (λ k. decide (eqb (box d r) o)
      (λ e. rw (k, e, leads-as o r k (eqb-true (box d r) o e) b, h) (eqb-flip (outlet_named d r) (how_many b (branch_of d o))))
      (λ e. rw (k, e) (sym (leads-away o b r h k (eqb-false (box d r) o e)))))
      (λ k. rw k (sym (leads-not b r k))))

  module _ (o : ℕ) where
    outlet-part : (b : ℕ) → b < rows → (not (is_branch u o b) || eqb (exits_for u rows o (branches_below u o b)) 1)
        ≡ (not (branch_of d o b) || eqb (how_many (row_count d) (λ r. leads d r b)) 1)
    unfolding exits_for
    outlet-part b l = rw (branch-is d rows u w o b l, below-is d rows u w o b (omega arith)) (decide (branch_of d o b)
        (λ h. rw h (ap (λ (n : ℕ). eqb n 1) (many-ext rows (names_in u o (how_many b (branch_of d o))) (λ r. leads d r b) (λ r m. names-is o b r m h)
        ∙ ap (λ (n : ℕ). how_many n (λ r. leads d r b)) w.kinds.count)))
        (λ h. rw h))

    exit-part : (r : ℕ) → r < rows → (not (is_exit_of u o r) || ltb (first_in u r) (branches_below u o rows))
        ≡ (not (is_kind d box_exit r && only o (box d r)) || eqb (how_many (row_count d) (leads d r)) 1)
    exit-part r l = rw (exit-is o r l, below-is d rows u w o rows (omega arith), w.kinds.first r l) (decide (is_kind d box_exit r && only o (box d r))
        (λ h. rw h (sym (ap (λ (n : ℕ). eqb n 1) (counted h) ∙ once-or-not (ltb (outlet_named d r) (how_many rows (branch_of d o))))))
        (λ h. rw h))
      where
        counted : (is_kind d box_exit r && only o (box d r)) ≡ true → how_many (row_count d) (leads d r) ≡ cond (ltb (outlet_named d r) (how_many rows (branch_of d o))) 1 0
        counted h = ap (λ (n : ℕ). how_many n (leads d r)) (sym w.kinds.count)
            ∙ (many-ext rows (leads d r) (nth (outlet_named d r) (branch_of d o)) (λ b m. leads-as o r (and_left (is_kind d box_exit r) _ h) (eqb-true (box d r) o (and_right (is_kind d box_exit r) _ h)) b)
            ∙ nth-once rows (outlet_named d r) (branch_of d o))

    -- THEOREM: of a box
    pub matched-is : is_kind d box_open o ≡ true → not_one_to_one d o ≡ not (matched_in u rows o)
    unfolding not_one_to_one matched_in
    matched-is k =
        let f : ℕ → Bool = λ b. not (branch_of d o b) || eqb (how_many (row_count d) (λ r. leads d r b)) 1 in
        let g : ℕ → Bool = λ r. not (is_kind d box_exit r && only o (box d r)) || eqb (how_many (row_count d) (leads d r)) 1 in
        rw k (ap not (sym (all-ext rows (matched_at u rows o) (λ q. f q && g q) (λ q l. unfold matched_at in ap₂ ◌&&◌ (outlet-part q l) (exit-part q l))
        ∙ (all_both rows f g ∙ ap (λ (n : ℕ). all_below n f && all_below n g) w.kinds.count))))

  -- an EXIT's outlet and the first one
  branches-same : (o q : ℕ) → q < rows → nth 0 (is_branch u o) q ≡ nth 0 (branch_of d o) q
  branches-same o q l = ap₂ (λ (a : Bool) (n : ℕ). a && eqb n 0) (branch-is d rows u w o q l) (many-ext q (is_branch u o) (branch_of d o) (λ i h. branch-is d rows u w o i (omega arith)))

  pub outlet-is : (r : ℕ) → is_kind d box_exit r ≡ true → outlet_of u rows (box d r) (outlet_named d r) ≡ outlet d r
  unfolding outlet_of branches_below outlet
  outlet-is r k = least-ext rows (nth (outlet_named d r) (is_branch u (box d r))) (leads d r) (λ b l. ap₂ (λ (a : Bool) (n : ℕ). a && eqb n (outlet_named d r)) (branch-is d rows u w (box d r) b l)
      (many-ext b (is_branch u (box d r)) (branch_of d (box d r)) (λ i h. branch-is d rows u w (box d r) i (omega arith))) ∙ sym (leads-as (box d r) r k refl b))
      ∙ ap (λ (n : ℕ). least n (leads d r)) w.kinds.count

  pub first-outlet-is : (o : ℕ) → outlet_of u rows o 0 ≡ first_outlet d o
  unfolding outlet_of branches_below first_outlet
  first-outlet-is o = least-ext rows (nth 0 (is_branch u o)) (nth 0 (branch_of d o)) (branches-same o) ∙ (first-nth rows (branch_of d o) ∙ ap (λ (n : ℕ). least n (branch_of d o)) w.kinds.count)

  no-box : (q : ℕ) → is_kind d box_open q ≡ false → not_one_to_one d q ≡ false
  unfolding not_one_to_one
  no-box q k = rw k

  -- THEOREM: the walk over the boxes judges as the definition does
  pub judged-is : (j : Result (Unit {0}) Refusal) → Matched u rows j → (on : Outcome Diagram) → unless_row d (outlet_fault d) on ≡ unless (refusal_number (said j)) (refusal_value (said j)) on
  judged-is j m on = decide (eqb (refusal_number (said j)) 0)
      (λ e. let z = eqb-true (refusal_number (said j)) 0 e in rw z (rows-faultless d (outlet_fault d) (λ q l. none q (λ k. m.fine z q (let c = w.kinds.count in omega arith) (number q k))) on))
      (λ e. let ne = eqb-false (refusal_number (said j)) 0 e in let b = m.bad ne in let c = w.kinds.count in
      rows-faulty d (outlet_fault d) (refusal_value (said j)) (let l = b.1 in omega arith) (λ z. let y = fault (refusal_value (said j)) b.1 b.2 b.3 in absurd (omega arith)) (λ q l. none q (λ k. b.4 q l (number q k))) on
      ∙ (ap (λ (n : ℕ). refused n (refusal_value (said j))) (fault (refusal_value (said j)) b.1 b.2 b.3 ∙ sym b.0) ∙ sym (unless-refused (refusal_number (said j)) (refusal_value (said j)) on ne)))
    where
      number : (q : ℕ) → is_kind d box_open q ≡ true → kind_in u q ≡ 29
      number q k = decide (ltb q rows) (λ l. w.kinds.cell q (ltb-true q rows l) ∙ eqb-true (number_of (kind d q)) 29 k)
          (λ l. clash k (rw (kind-past d q (let x = ltb-false q rows l in let c = w.kinds.count in omega arith))))

      none : (q : ℕ) → (is_kind d box_open q ≡ true → matched_in u rows q ≡ true) → outlet_fault d q ≡ 0
      none q h = decide (is_kind d box_open q) (λ k. rw (matched-is q k, h k)) (λ k. rw (no-box q k))

      fault : (q : ℕ) → q < rows → kind_in u q ≡ 29 → matched_in u rows q ≡ false → outlet_fault d q ≡ 49
      fault q l k h = rw (matched-is q (eq-eqb (number_of (kind d q)) 29 (sym (w.kinds.cell q l) ∙ k)), h)
