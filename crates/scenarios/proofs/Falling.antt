-- A run falls through as its last row says; loops that some LE leaves lie before their close; outlets and scenarios, row by row.
use Rattle.std.specs.Prelude.{ℕ, zero, suc, ◌+◌, ◌-◌, ◌≤◌, ◌<◌, ◌≡◌, refl, ◌≢◌, Bool, true, false, not, ◌&&◌, ◌||◌, List, leb, eqb, Option, Some, None, Ok, Err, MatchOption}
use Rattle.std.specs.List.{range_with_len, list_any}
use Rattle.std.specs.Option.{unwrap_or}
use Rattle.std.proofs.Common.{sym, ◌∙◌, ap, ap₂, subst, arith, eqb-true, eq-eqb}
use mathlib.Core.Bool.{and-false}
use mathlib.Core.Logic.{◌⊎◌, inl, inr}
use borrow.Author.Tests.{eqb-false, ne_eqb, le-leb, leb-true, leb-false}
use Rattle.effbd.specs.declared.refusals.Reason.TheVariants.{ScenarioFallsThrough}
use Rattle.effbd.specs.Ranges.{only}
use Rattle.effbd.specs.Diagrams.{Kind, function, and_open, branch, and_close, or_open, or_close, it_open, it_close, lp_open, lp_close, loop_exit, end, box_open, box_close, box_exit, number_of, Diagram, row_count, kind, is_kind}
use Rattle.effbd.specs.Nesting.{owner, close, is_close, loop, branch_of, first_outlet, loop_left, falls_as, falls_into, scenario_falls, scenario_fault}
use Rattle.ranges.specs.Tests.{decide, and_right}
use Rattle.ranges.specs.RangeLaws.{all-ext, least-found, least-is, least-none}
use Rattle.agreement.specs.Basics.{same-eq, not-kind}
use Rattle.agreement.specs.AcceptedFiles.{well-walked}
use Rattle.agreement.specs.NestingLaws.{looped}
use Rattle.agreement.specs.RowFaults.{rows-faultless, rows-faulty}
use Rattle.diagram_table.specs.Cells.{kind_in, owner_in, is_branch}
use Rattle.nesting.proofs.Chains.{range-any}
use Rattle.nesting.proofs.Stacks.{owner-low, loop-low}
use Rattle.diagram_structure.specs.Walked.{Walked}
use Rattle.scenarios.specs.declared.Branches.{Branches}
use Rattle.scenarios.specs.Scenarios.{leaves_in, left_in, FallsRead, BranchesRead, OutletRead, ScenarioRead, ScenariosRead}
use Rattle.scenarios.proofs.Branching.{all-grow}

-- ---- loops, row by row
module _ (table : List ℕ) (first : ℕ) where
  abbrev stays : ℕ → Bool
  stays q = not (leb first q && leaves_in table first q)

pub left-is : (table : List ℕ) (first last : ℕ) → list_any (leaves_in table first) (range_with_len first (last - first)) ≡ left_in table first last
unfolding left_in
left-is table first last = range-any first last (leaves_in table first)

module _ (d : Diagram) (rows : ℕ) (table : List ℕ) (w : Walked d rows table) where
  -- a kind, by its number
  kind_at : (p : ℕ) (k : Kind) → p < rows → kind_in table p ≡ number_of k → kind d p ≡ k
  kind_at p k l e = same-eq (kind d p) k (eq-eqb (number_of (kind d p)) (number_of k) (sym (w.kinds.cell p l) ∙ e))

  -- the LEs that leave a loop stand between its LP and its close
  leaves-is : (o q : ℕ) → q < rows → (leb o q && leaves_in table o q) ≡ (is_kind d loop_exit q && only o (loop d q))
  unfolding leaves_in
  leaves-is o q l = rw (w.kinds.cell q l) (decide (is_kind d loop_exit q)
      (λ x. let k = same-eq (kind d q) loop_exit x in
      rw (x, w.loops q l (rw k)) (go (eqb (loop d q) o) refl))
      (λ x. rw x (and-false (leb o q))))
    where
      go : (b : Bool) → eqb (loop d q) o ≡ b → (leb o q && b) ≡ b
      go true e = let z = loop-low d q in let y = eqb-true (loop d q) o e in rw (le-leb o q (omega arith))
      go false e = and-false (leb o q)

  left_is : (p : ℕ) → p < rows → kind d p ≡ lp_close → left_in table (owner d p) p ≡ loop_left d (owner d p)
  unfolding left_in loop_left close
  left_is p l e = let n = w.kinds.count in
      ap not (all-ext p (stays table (owner d p)) stay (λ q h. ap not (leaves-is (owner d p) q (omega arith)))
      ∙ sym (all-grow (row_count d) p stay (omega arith) (λ q a b. decide (is_kind d loop_exit q)
      (λ x. decide (only (owner d p) (loop d q)) (λ y. absurd (past q a b (same-eq (kind d q) loop_exit x) (eqb-true (loop d q) (owner d p) y))) (λ y. rw (x, y)))
      (λ x. rw x))))
    where
      stay : ℕ → Bool
      stay q = not (is_kind d loop_exit q && only (owner d p) (loop d q))

      shut : close d (owner d p) ≤ p
      shut = let n = w.kinds.count in (least-found (row_count d) (λ c. is_close d c && only (owner d p) (owner d c)) p (omega arith) (rw (e, eq-eqb (owner d p) (owner d p) refl))).1

      past : (q : ℕ) → p ≤ q → q < row_count d → kind d q ≡ loop_exit → loop d q ≡ owner d p → ⊥
      past q a b k y = let n = w.kinds.count in let s = w.some in
          let i = (looped d (well-walked d w.fine (omega arith)) q k).1 in
          let h : q ≤ close d (loop d q) = leb-true q (close d (loop d q)) (and_right (leb (loop d q) q) (leb q (close d (loop d q))) i) in
          let g : q ≤ close d (owner d p) = subst (λ (x : ℕ). q ≤ close d x) y h in
          let c = shut in
          let z : q ≡ p = omega arith in
          not-kind d p e loop_exit refl (subst (λ (x : ℕ). kind d x ≡ loop_exit) z k)

-- ---- the run before a row, by the row before it
step : (d : Diagram) (n row p : ℕ) → row ≡ suc p → row ≤ n → (m : ℕ) × (p ≤ m) × (falls_into d n row ≡ falls_as d (kind d p) (falls_into d m) p)
unfolding falls_into
step d zero row p e l = absurd (omega arith)
step d (suc m) row p e l = (m, omega arith, rw e)

other-falls : (d : Diagram) (falls : ℕ → Bool) (p : ℕ) (k : Kind) → number_of k ≢ 26 → number_of k ≢ 31 → number_of k ≢ 25 → number_of k ≢ 21 → number_of k ≢ 19 → falls_as d k falls p ≡ true
other-falls d falls p function a b c e f = refl
other-falls d falls p and_open a b c e f = refl
other-falls d falls p branch a b c e f = refl
other-falls d falls p and_close a b c e f = absurd (f refl)
other-falls d falls p or_open a b c e f = refl
other-falls d falls p or_close a b c e f = absurd (e refl)
other-falls d falls p it_open a b c e f = refl
other-falls d falls p it_close a b c e f = refl
other-falls d falls p lp_open a b c e f = refl
other-falls d falls p lp_close a b c e f = absurd (c refl)
other-falls d falls p loop_exit a b c e f = absurd (a refl)
other-falls d falls p end a b c e f = refl
other-falls d falls p box_open a b c e f = refl
other-falls d falls p box_close a b c e f = refl
other-falls d falls p box_exit a b c e f = absurd (b refl)

pub empty-falls : (table : List ℕ) (row : ℕ) → row ≡ 0 → FallsRead table row true
empty-falls table row e = record { judged = λ d rows w l n h. rw e (sym (go d n)) }
  where
    go : (d : Diagram) (n : ℕ) → falls_into d n 0 ≡ true
    go d zero = unfold falls_into in refl
    go d (suc n) = unfold falls_into in refl

module _ (table : List ℕ) (row : ℕ) (some : row ≢ 0) where
  -- the last row of the run
  abbrev last : ℕ
  last = row - 1

  by_kind : (r : Bool) (k : Kind) → kind_in table last ≡ number_of k
      → ((d : Diagram) (rows : ℕ) → Walked d rows table → last < rows → kind d last ≡ k → (m : ℕ) → last ≤ m → r ≡ falls_as d k (falls_into d m) last) → FallsRead table row r
  by_kind r k e f = record {
    judged = λ d rows w l n h. let a = kind_at d rows table w last k (omega arith) e in let s = step d n row last (omega arith) h in
        f d rows w (omega arith) a s.0 s.1 ∙ (sym (ap (λ (j : Kind). falls_as d j (falls_into d s.0) last) a) ∙ sym s.2);
  }

  exit-stops : kind_in table last ≡ 26 → FallsRead table row false
  exit-stops e = by_kind false loop_exit e (λ d rows w l a m h. refl)

  box-exit-stops : kind_in table last ≡ 31 → FallsRead table row false
  box-exit-stops e = by_kind false box_exit e (λ d rows w l a m h. refl)

  pub exits-stop : (k : ℕ) → k ≡ kind_in table last → (k ≡ 26) ⊎ (k ≡ 31) → FallsRead table row false
  exits-stop k e (inl h) = exit-stops (sym e ∙ h)
  exits-stop k e (inr h) = box-exit-stops (sym e ∙ h)

  pub loop-falls : (first : ℕ) (r : Bool) → kind_in table last ≡ 25 → first ≡ owner_in table last → r ≡ left_in table first last → FallsRead table row r
  loop-falls first r e o h = by_kind r lp_close e
      (λ d rows w l a m z. h ∙ (ap (λ (x : ℕ). left_in table x last) (o ∙ w.owners last l) ∙ left_is d rows table w last l a))

  pub or-falls : (b : Branches) → kind_in table last ≡ 21 → BranchesRead table last b → FallsRead table row b.some
  or-falls b e h = by_kind b.some or_close e (λ d rows w l a m z. (h.judged d rows w l (rw a) m z).some)

  pub and-falls : (b : Branches) → kind_in table last ≡ 19 → BranchesRead table last b → FallsRead table row (b.all || b.killing)
  and-falls b e h = by_kind (b.all || b.killing) and_close e
      (λ d rows w l a m z. let s = h.judged d rows w l (rw a) m z in ap₂ ◌||◌ s.all s.killing)

  pub rest-falls : kind_in table last ≢ 26 → kind_in table last ≢ 31 → kind_in table last ≢ 25 → kind_in table last ≢ 21 → kind_in table last ≢ 19 → FallsRead table row true
  rest-falls a b c e f = record {
    judged = λ d rows w l n h. let s = step d n row last (omega arith) h in let k = w.kinds.cell last (omega arith) in
        sym (s.2 ∙ other-falls d (falls_into d s.0) last (kind d last) (λ z. a (k ∙ z)) (λ z. b (k ∙ z)) (λ z. c (k ∙ z)) (λ z. e (k ∙ z)) (λ z. f (k ∙ z)));
  }

-- ---- the first outlet of a box
pub record NoOutlet (table : List ℕ) (opened row : ℕ) : Type 0 where
  pub none : (q : ℕ) → opened ≤ q → q < row → is_branch table opened q ≡ false

module _ (table : List ℕ) (rows opened : ℕ) where
  branch-is : (d : Diagram) → Walked d rows table → (q : ℕ) → q < rows → is_branch table opened q ≡ branch_of d opened q
  unfolding is_branch branch_of
  branch-is d w q l = rw (w.kinds.cell q l, w.owners q l)

  -- no row before the box has it for its construct
  before : (d : Diagram) → Walked d rows table → (row : ℕ) → row ≤ rows → NoOutlet table opened row → (q : ℕ) → q < row → branch_of d opened q ≡ false
  unfolding branch_of
  before d w row l s q h = decide (leb opened q)
      (λ e. sym (unfold branch_of in branch-is d w q (omega arith)) ∙ s.none q (leb-true opened q e) h)
      (λ e. let a = leb-false opened q e in let b = owner-low d q in rw (ne_eqb (owner d q) opened (λ z. absurd (omega arith))) (and-false (is_kind d branch q)))

  pub outlet-is : (r : Option ℕ) → MatchOption r ((q : ℕ) → opened ≤ q → q < rows → is_branch table opened q ≡ false)
      (λ b. (opened ≤ b) × (b < rows) × (is_branch table opened b ≡ true) × ((q : ℕ) → opened ≤ q → q < b → is_branch table opened q ≡ false)) → OutletRead table rows opened (unwrap_or r rows)
  unfolding first_outlet
  outlet-is None h = record {
    low = omega arith;
    is = λ d w. let n = w.kinds.count in n ∙ sym (least-none (row_count d) (branch_of d opened)
        (λ q m. before d w rows (omega arith) (record { none = h }) q (omega arith)));
  }
  outlet-is (Some b) h = let l : b < rows = h.1 in record {
    low = omega arith;
    is = λ d w. let n = w.kinds.count in
        sym (least-is (row_count d) (branch_of d opened) b (omega arith) (sym (branch-is d w b l) ∙ h.2) (before d w b (omega arith) (record { none = h.3 })));
  }

-- ---- scenarios, row by row
module _ (table : List ℕ) (rows row : ℕ) where
  pub no-box : kind_in table row ≢ 29 → ScenarioRead table rows row false
  unfolding scenario_falls
  no-box e = record { judged = λ d w l. rw (← w.kinds.cell row l, ne_eqb (kind_in table row) 29 e) }

  pub of-box : (outlet : ℕ) (r : Bool) → kind_in table row ≡ 29 → OutletRead table rows row outlet → FallsRead table outlet r → ScenarioRead table rows row r
  unfolding scenario_falls
  of-box outlet r e o f = record {
    judged = λ d w l. rw (← w.kinds.cell row l, e)
        (f.judged d rows w o.low outlet (omega arith) ∙ ap (λ (x : ℕ). falls_into d x x) (o.is d w));
  }

-- no scenario below row `row` falls through
pub record NoneFalls (table : List ℕ) (rows row : ℕ) : Type 0 where
  pub none : (d : Diagram) → Walked d rows table → (q : ℕ) → q < row → scenario_falls d q ≡ false

module _ (table : List ℕ) (rows : ℕ) where
  pub falls-start : NoneFalls table rows 0
  falls-start = record { none = λ d w q l. absurd (omega arith) }

  module _ (row : ℕ) (s : NoneFalls table rows row) where
    pub falls-on : (r : Bool) → row < rows → ScenarioRead table rows row r → r ≡ false → NoneFalls table rows (row + 1)
    falls-on r l h e = record {
      none = λ d w q m. decide (eqb q row) (λ z. rw (eqb-true q row z) (sym (h.judged d w l) ∙ e)) (λ z. let ne = eqb-false q row z in s.none d w q (omega arith));
    }

    pub falls-found : (r : Bool) → row < rows → ScenarioRead table rows row r → r ≡ true → ScenariosRead table rows (Err (record { reason = ScenarioFallsThrough; value = row }))
    falls-found r l h e = record {
      within = omega arith;
      none = λ z. absurd (omega arith);
      judged = λ d w on. let n = w.kinds.count in let x = sym (h.judged d w l) ∙ e in
          rows-faulty d (scenario_fault d) row (omega arith) (rw x (λ z. absurd (omega arith))) (λ p m. rw (s.none d w p m)) on ∙ rw x;
    }

    pub falls-never : rows ≤ row → ScenariosRead table rows (Ok tt)
    falls-never l = record {
      within = omega arith;
      none = λ z. refl;
      judged = λ d w on. let n = w.kinds.count in rows-faultless d (scenario_fault d) (λ q m. rw (s.none d w q (omega arith))) on;
    }
