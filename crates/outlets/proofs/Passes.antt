-- The two passes over the EXITs, and what they leave: only two cells of each EXIT change.
use Prim.Native.Nat.{ℕ, ◌+◌, ◌-◌, ◌≤◌, ◌<◌}
use mathlib.Core.Path.{◌≡◌, refl, sym, ◌∙◌, ap, ap₂, subst}
use mathlib.Core.Logic.{◌≢◌}
use mathlib.Core.Bool.{Bool, true, false, ◌&&◌}
use mathlib.Core.List.{List}
use native.Mathlib.Omega.{arith}
use lib.ListN.{length, get_or, set, length-set}
use lib.Seq.{get_or-set_same, get_or-set_other}
use lib.Dec.{eqb}
use borrow.Author.Tests.{eqb-true, eqb-false, eq-eqb}
use Rattle.std.specs.Prelude.{Result, Ok}
use Rattle.effbd.specs.Answers.{Outcome, unless, said, refusal_number, refusal_value}
use Rattle.effbd.specs.declared.refusals.Refusal.{Refusal}
use Rattle.effbd.specs.Diagrams.{most_rows, Diagram, box_exit, number_of, kind, is_kind}
use Rattle.effbd.specs.Nesting.{box, outlet_fault, unless_row}
use Rattle.ranges.specs.Tests.{decide, clash, and_left}
use Rattle.ranges.specs.RangeLaws.{least-ext}
use Rattle.diagram_table.specs.Cells.{cell_of, cell_total, kind_in, first_in, owner_in, outlet_in, scenario_last_in, is_branch}
use Rattle.diagram_structure.specs.Walked.{Walked}
use Rattle.outlets.specs.Outlets.{branches_below, is_exit_of, matched_in, outlet_of, OwnBox, BoxTurn, OutletTurn, Kept, Matched, BoxesPut, OutletsPut, OutletsRead}
use Rattle.nesting.proofs.Chains.{many-ext}
use Rattle.outlets.proofs.Counting.{nth}
use Rattle.outlets.proofs.Matching.{outlet-is, first-outlet-is, judged-is}

-- a BRANCH is no EXIT
pub not-exit : (t : List ℕ) (o r : ℕ) → is_branch t o r ≡ true → is_exit_of t o r ≡ false
unfolding is_branch is_exit_of
not-exit t o r h = rw (eqb-true (kind_in t r) 18 (and_left (eqb (kind_in t r) 18) _ h))

kept_self : (rows : ℕ) (t : List ℕ) → Kept rows t t
kept_self rows t = record { long = refl; cell = λ i f. refl }

module _ {rows : ℕ} {t u : List ℕ} (few : rows ≤ most_rows) (k : Kept rows t u) where
  kind-kept : (q : ℕ) → q < rows → kind_in u q ≡ kind_in t q
  kind-kept q l = k.cell q (λ r m e. ((λ z. absurd (omega arith)), (λ z. absurd (omega arith))))

  first-kept : (q : ℕ) → q < rows → first_in u q ≡ first_in t q
  first-kept q l = k.cell (cell_of 1 q) (λ r m e. ((λ z. absurd (omega arith)), (λ z. absurd (omega arith))))

  owner-kept : (q : ℕ) → q < rows → owner_in u q ≡ owner_in t q
  owner-kept q l = k.cell (cell_of 5 q) (λ r m e. ((λ z. absurd (omega arith)), (λ z. absurd (omega arith))))

  -- THEOREM: the table still has the structure
  pub walked-kept : (d : Diagram) → Walked d rows t → Walked d rows u
  walked-kept d w = record {
    long = k.long ∙ w.long;
    some = w.some;
    few = w.few;
    kinds = record { count = w.kinds.count; cell = λ q l. kind-kept q l ∙ w.kinds.cell q l; first = λ q l. first-kept q l ∙ w.kinds.first q l };
    fine = w.fine;
    owners = λ r l. owner-kept r l ∙ w.owners r l;
    branches = λ r l. k.cell (cell_of 6 r) (λ x m e. ((λ z. absurd (omega arith)), (λ z. absurd (omega arith)))) ∙ w.branches r l;
    closes = λ r l. k.cell (cell_of 7 r) (λ x m e. ((λ z. absurd (omega arith)), (λ z. absurd (omega arith)))) ∙ w.closes r l;
    loops = λ r l n. k.cell (cell_of 8 r) (λ x m e. (
      (λ z. let y : r ≡ x = omega arith in
          clash (eq-eqb (number_of (kind d r)) 31 (sym (w.kinds.cell r l) ∙ (ap (kind_in t) y ∙ e))) n),
      (λ z. absurd (omega arith)),
    )) ∙ w.loops r l n;
  }

  -- and the same outlets
  outlet-kept : (o n : ℕ) → outlet_of u rows o n ≡ outlet_of t rows o n
  unfolding outlet_of branches_below is_branch
  outlet-kept o n = least-ext rows (nth n (is_branch u o)) (nth n (is_branch t o)) (λ b l. ap₂ (λ (a : Bool) (m : ℕ). a && eqb m n) (same b l) (many-ext b (is_branch u o) (is_branch t o) (λ i h. same i (omega arith))))
    where
      same : (q : ℕ) → q < rows → is_branch u o q ≡ is_branch t o q
      same q l = rw (kind-kept q l, owner-kept q l)

  -- a store into an EXIT's cell
  kept_put : (n i v : ℕ) → n < rows → kind_in t n ≡ 31 → (i ≡ cell_of 8 n) → Kept rows t (set u i v)
  kept_put n i v l e h = record {
    long = length-set u i v ∙ k.long;
    cell = λ j f. get_or-set_other u i j v 0 (λ z. (f n l e).0 (z ∙ h)) ∙ k.cell j f;
  }

  kept-last : (n i v : ℕ) → n < rows → kind_in t n ≡ 31 → (i ≡ cell_of 2 n) → Kept rows t (set u i v)
  kept-last n i v l e h = record {
    long = length-set u i v ∙ k.long;
    cell = λ j f. get_or-set_other u i j v 0 (λ z. (f n l e).1 (z ∙ h)) ∙ k.cell j f;
  }

-- ---- each EXIT's box
pub boxes-start : (rows : ℕ) (t : List ℕ) → BoxesPut rows t 0 t
boxes-start rows t = record { kept = kept_self rows t; boxes = λ d w r l. absurd (omega arith) }

module _ (rows : ℕ) (t : List ℕ) (n : ℕ) (u : List ℕ) (few : rows ≤ most_rows) (l : n < rows) (p : BoxesPut rows t n u) where
  exit-there : (d : Diagram) → Walked d rows t → is_kind d box_exit n ≡ true → kind_in u n ≡ 31
  exit-there d w e = kind-kept few p.kept n l ∙ (w.kinds.cell n l ∙ eqb-true (number_of (kind d n)) 31 e)

  boxes-other : kind_in u n ≢ 31 → BoxesPut rows t (n + 1) u
  boxes-other ne = record {
    kept = p.kept;
    boxes = λ d w r h e. decide (eqb r n)
        (λ z. let y = eqb-true r n z in absurd (ne (exit-there d w (subst (λ (x : ℕ). is_kind d box_exit x ≡ true) y e))))
        (λ z. let y = eqb-false r n z in p.boxes d w r (omega arith) e);
  }

  boxes-next : (i own : ℕ) → length t ≡ cell_total → kind_in u n ≡ 31 → i ≡ cell_of 8 n → OwnBox u n own → BoxesPut rows t (n + 1) (set u i own)
  boxes-next i own long e h o = record {
    kept = kept_put few p.kept n i own l (sym (kind-kept few p.kept n l) ∙ e) h;
    boxes = λ d w r m x. decide (eqb r n)
        (λ z. let y = eqb-true r n z in subst (λ (q : ℕ). outlet_in (set u i own) q ≡ box d q) (sym y)
        (ap (λ (j : ℕ). get_or (set u i own) j 0) (sym h) ∙ (get_or-set_same u i own 0 (let a = p.kept.long in omega arith)
        ∙ o.own d rows (walked-kept few p.kept d w) l (subst (λ (q : ℕ). is_kind d box_exit q ≡ true) y x))))
        (λ z. let y = eqb-false r n z in get_or-set_other u i (cell_of 8 r) own 0 (λ q. absurd (omega arith)) ∙ p.boxes d w r (omega arith) x);
  }

  pub boxes-turn : {v : List ℕ} → length t ≡ cell_total → BoxTurn u n v → BoxesPut rows t (n + 1) v
  boxes-turn long b = decide (eqb (kind_in u n) 31)
      (λ e. let k = eqb-true (kind_in u n) 31 e in let s = b.exit k in subst (BoxesPut rows t (n + 1)) (sym s.put) (boxes-next (cell_of 8 n) s.own long k refl s.is))
      (λ e. let k = eqb-false (kind_in u n) 31 e in subst (BoxesPut rows t (n + 1)) (sym (b.other k)) (boxes-other k))

-- ---- each EXIT's outlet
pub record Outward (rows : ℕ) (t : List ℕ) (n : ℕ) (u : List ℕ) : Type 0 where
  pub put : OutletsPut rows t n u
  pub ahead : (r : ℕ) → n ≤ r → r < rows → outlet_in u r ≡ outlet_in t r

pub outlets-start : (rows : ℕ) (t : List ℕ) → Outward rows t 0 t
outlets-start rows t = record { put = record { kept = kept_self rows t; outlets = λ r l. absurd (omega arith) }; ahead = λ r l m. refl }

module _ (rows : ℕ) (t : List ℕ) (n : ℕ) (u : List ℕ) (few : rows ≤ most_rows) (l : n < rows) (p : Outward rows t n u) where
  outlets-other : kind_in u n ≢ 31 → Outward rows t (n + 1) u
  outlets-other ne = record {
    put = record {
      kept = p.put.kept;
      outlets = λ r h e. decide (eqb r n)
          (λ z. absurd (ne (kind-kept few p.put.kept n l ∙ (ap (kind_in t) (sym (eqb-true r n z)) ∙ e))))
          (λ z. let y = eqb-false r n z in p.put.outlets r (omega arith) e);
    };
    ahead = λ r h m. p.ahead r (omega arith) m;
  }

  -- what the row's own cells get
  outlets-next : (i j own last : ℕ) → length t ≡ cell_total → kind_in u n ≡ 31 → i ≡ cell_of 8 n → j ≡ cell_of 2 n
      → own ≡ outlet_of u rows (outlet_in u n) (first_in u n) → last ≡ outlet_of u rows (outlet_in u n) 0 - 1 → Outward rows t (n + 1) (set (set u i own) j last)
  outlets-next i j own last long e hi hj eo el = record {
    put = record {
      kept = kept-last few once n j last l there hj;
      outlets = λ r m x. decide (eqb r n)
          (λ z. let y = eqb-true r n z in rw y (outlet-here, last-here))
          (λ z. let y = eqb-false r n z in let w = p.put.outlets r (omega arith) x in (
            get_or-set_other (set u i own) j (cell_of 8 r) last 0 (λ q. absurd (omega arith)) ∙ (get_or-set_other u i (cell_of 8 r) own 0 (λ q. absurd (omega arith)) ∙ w.0),
            get_or-set_other (set u i own) j (cell_of 2 r) last 0 (λ q. absurd (omega arith)) ∙ (get_or-set_other u i (cell_of 2 r) own 0 (λ q. absurd (omega arith)) ∙ w.1),
          ));
    };
    ahead = λ r h m. get_or-set_other (set u i own) j (cell_of 8 r) last 0 (λ q. absurd (omega arith)) ∙ (get_or-set_other u i (cell_of 8 r) own 0 (λ q. absurd (omega arith)) ∙ p.ahead r (omega arith) m);
  }
    where
      there : kind_in t n ≡ 31
      there = sym (kind-kept few p.put.kept n l) ∙ e

      once : Kept rows t (set u i own)
      once = kept_put few p.put.kept n i own l there hi

      named : outlet_of u rows (outlet_in u n) (first_in u n) ≡ outlet_of t rows (outlet_in t n) (first_in t n)
      named = outlet-kept few p.put.kept (outlet_in u n) (first_in u n) ∙ ap₂ (outlet_of t rows) (p.ahead n (omega arith) l) (first-kept few p.put.kept n l)

      first : outlet_of u rows (outlet_in u n) 0 ≡ outlet_of t rows (outlet_in t n) 0
      first = outlet-kept few p.put.kept (outlet_in u n) 0 ∙ ap (λ (o : ℕ). outlet_of t rows o 0) (p.ahead n (omega arith) l)

      outlet-here : outlet_in (set (set u i own) j last) n ≡ outlet_of t rows (outlet_in t n) (first_in t n)
      outlet-here = get_or-set_other (set u i own) j (cell_of 8 n) last 0 (λ q. absurd (omega arith))
          ∙ (ap (λ (x : ℕ). get_or (set u i own) x 0) (sym hi) ∙ (get_or-set_same u i own 0 (let a = p.put.kept.long in omega arith) ∙ (eo ∙ named)))

      last-here : scenario_last_in (set (set u i own) j last) n ≡ outlet_of t rows (outlet_in t n) 0 - 1
      last-here = ap (λ (x : ℕ). get_or (set (set u i own) j last) x 0) (sym hj) ∙ (get_or-set_same (set u i own) j last 0 (let a = once.long in omega arith) ∙ (el ∙ ap (λ (x : ℕ). x - 1) first))

  pub outlets-turn : {v : List ℕ} → length t ≡ cell_total → OutletTurn u rows n v → Outward rows t (n + 1) v
  outlets-turn long b = decide (eqb (kind_in u n) 31)
      (λ e. let k = eqb-true (kind_in u n) 31 e in subst (Outward rows t (n + 1)) (sym (b.exit k)) (outlets-next (cell_of 8 n) (cell_of 2 n) _ _ long k refl refl refl refl))
      (λ e. let k = eqb-false (kind_in u n) 31 e in subst (Outward rows t (n + 1)) (sym (b.other k)) (outlets-other k))

-- ---- the lowest box that is not matched
module _ (t : List ℕ) (rows : ℕ) where
  abbrev Fine : ℕ → Type 0
  Fine n = (o : ℕ) → o < n → kind_in t o ≡ 29 → matched_in t rows o ≡ true

  pub boxes-matched : Fine rows → Matched t rows (Ok tt)
  boxes-matched f = record { within = omega arith; none = λ z. refl; fine = λ z. f; bad = λ z. absurd (z refl) }

-- ---- all of it
kept-both : {rows : ℕ} {t u v : List ℕ} → rows ≤ most_rows → Kept rows t u → Kept rows u v → Kept rows t v
kept-both few a b = record { long = b.long ∙ a.long; cell = λ i f. b.cell i (λ r l e. f r l (sym (kind-kept few a r l) ∙ e)) ∙ a.cell i f }

module _ (rows : ℕ) (t : List ℕ) where
  -- a table of another length, or too many rows: no diagram has them
  pub not-read : ((d : Diagram) → Walked d rows t → ⊥) → OutletsRead rows t t (Ok tt)
  not-read none = record {
    within = omega arith;
    none = λ z. refl;
    kept = kept_self rows t;
    judged = λ d w. absurd (none d w);
    outlets = λ z d w. absurd (none d w);
  }

  module _ (u : List ℕ) (few : rows ≤ most_rows) (b : BoxesPut rows t rows u) (j : Result (Unit {0}) Refusal) (m : Matched u rows j) where
    judged : (d : Diagram) → Walked d rows t → (on : Outcome Diagram) → unless_row d (outlet_fault d) on ≡ unless (refusal_number (said j)) (refusal_value (said j)) on
    judged d w = judged-is d rows u (walked-kept few b.kept d w) (λ r l e. b.boxes d w r l e) j m

    pub outlets-refused : refusal_number (said j) ≢ 0 → OutletsRead rows t u j
    outlets-refused ne = record { within = m.within; none = m.none; kept = b.kept; judged = judged; outlets = λ z. absurd (ne z) }

    pub outlets-read : {v : List ℕ} → OutletsPut rows u rows v → OutletsRead rows t v j
    outlets-read {v} p = record {
      within = m.within;
      none = m.none;
      kept = kept-both few b.kept p.kept;
      judged = judged;
      outlets = λ z d w r l e. let w₁ = walked-kept few b.kept d w in
          let o = p.outlets r l (w₁.kinds.cell r l ∙ eqb-true (number_of (kind d r)) 31 e) in
          let x = b.boxes d w r l e in (
            o.0 ∙ (ap₂ (outlet_of u rows) x (w₁.kinds.first r l) ∙ outlet-is d rows u w₁ (λ q h y. b.boxes d w q h y) r e),
            o.1 ∙ ap (λ (n : ℕ). n - 1) (ap (λ (y : ℕ). outlet_of u rows y 0) x ∙ first-outlet-is d rows u w₁ (λ q h y. b.boxes d w q h y) (box d r)),
          );
    }
