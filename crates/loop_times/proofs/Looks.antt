-- The pass over the rows: what it has found at a row, one row more, and at row 0.
use Rattle.std.specs.Prelude.{ℕ, zero, suc, ◌+◌, ◌-◌, ◌≤◌, ◌<◌, ◌≡◌, refl, ◌≢◌, Bool, true, false, not, cond, List, [], ◌∷◌, get_or, eqb, Option, Some, None, Ok, Err}
use Rattle.std.proofs.Common.{sym, ◌∙◌, ap, subst, arith, add-one, eqb-true, eq-eqb}
use borrow.Author.Tests.{eqb-false, ne_eqb, le-leb}
use Rattle.effbd.specs.declared.refusals.Reason.TheVariants.{LoopSpendsNoTime}
use Rattle.effbd.specs.Diagrams.{Diagram, Kind, function, and_open, branch, and_close, or_open, or_close, it_open, it_close, lp_open, lp_close, loop_exit, end, box_open, box_close, box_exit, number_of, row_count, kind, alpha}
use Rattle.effbd.specs.Frames.{Frame}
use Rattle.effbd.specs.Nesting.{stack, spends_no_time, loop_fault}
use Rattle.ranges.specs.Tests.{decide, or_left}
use Rattle.agreement.specs.AcceptedFiles.{well-nested}
use Rattle.agreement.specs.Nested.{walk, well_nested}
use Rattle.agreement.specs.NestingLaws.{Good, good, has, until}
use Rattle.agreement.proofs.Reach.{close-in}
use Rattle.agreement.specs.RowFaults.{rows-faultless, rows-faulty}
use Rattle.nesting.specs.Runs.{Kinds, first_in}
use Rattle.loop_times.specs.declared.Seen.{Seen}
use Rattle.loop_times.specs.Loops.{looked, BehindClose, Faultless, LoopsRead}
use Rattle.loop_times.proofs.Timeless.{timeless_in, counted, count-is, lp-opened}

-- the rows below the lowest, or all
abbrev pub up_to : Option ℕ → ℕ → ℕ
up_to None rows = rows
up_to (Some l) rows = l

-- the LPs around row q that have spent no time so far, and the lowest from row q on that spends none
pub record Found (d : Diagram) (rows q : ℕ) (s : Seen) : Type 0 where
  pub count : s.timeless ≡ timeless_in d q (stack d q)
  pub lower : (p : ℕ) → q ≤ p → p < up_to s.lowest rows → spends_no_time d p ≡ false
  pub lowest : (l : ℕ) → s.lowest ≡ Some l → spends_no_time d l ≡ true

pub record SeenFrom (table : List ℕ) (rows q : ℕ) (s : Seen) : Type 0 where
  pub few : s.timeless + q ≤ rows
  pub low : (l : ℕ) → s.lowest ≡ Some l → l < rows
  pub found : (d : Diagram) → Kinds d rows table → Faultless d → Found d rows q s

-- ---- behind the last row
module _ (d : Diagram) (acc : well_nested d ≡ true) where
  bare_of : (fs : List Frame) → stack d (row_count d) ≡ fs → Good d (row_count d) fs → timeless_in d (row_count d) fs ≡ 0
  unfolding timeless_in has
  bare_of [] e g = refl
  bare_of (f ∷ fs) e g =
      let o = f.opened in
      let u = until d (walk d acc) o (row_count d) g.0.opener (rw e (or_left (has d (walk d acc) o fs) (eq-eqb o o refl))) in
      let c = close-in d acc o g.0.opener in absurd (omega arith)

bare : (d : Diagram) → Faultless d → timeless_in d (row_count d) (stack d (row_count d)) ≡ 0
bare d f = decide (eqb (row_count d) 0)
    (λ e. rw (eqb-true (row_count d) 0 e) (unfold timeless_in stack in refl))
    (λ e. let n = eqb-false (row_count d) 0 e in let acc = well-nested d f.walk f.outlets (omega arith) in bare_of d acc (stack d (row_count d)) refl (good d (walk d acc) (row_count d)))

pub seen_none : (table : List ℕ) (rows : ℕ) → SeenFrom table rows rows (record { timeless = 0; lowest = None })
seen_none table rows = record {
  few = omega arith;
  low = λ l e. cc;
  found = λ d k f. record {
    count = sym (ap (λ (n : ℕ). timeless_in d n (stack d n)) k.count ∙ bare d f);
    lower = λ p l m. absurd (omega arith);
    lowest = λ l e. cc;
  };
}

-- ---- one row more
module _ (d : Diagram) (acc : well_nested d ≡ true) where
  looked-is : (k : Kind) (q : ℕ) (s : Seen) → kind d q ≡ k → s.timeless ≡ timeless_in d (suc q) (stack d (suc q))
      → looked (number_of k) (alpha d q) q s ≡ record { timeless = counted d acc k q s.timeless; lowest = cond (spends_no_time d q) (Some q) s.lowest }
  unfolding looked counted spends_no_time
  looked-is function q s e u = rw e (decide (eqb (alpha d q) 0)
      (λ z. let y = eqb-true (alpha d q) 0 z in rw y refl)
      (λ z. let y = eqb-false (alpha d q) 0 z in rw (z, le-leb 1 (alpha d q) (omega arith))))
  looked-is and_open q s e u = rw e
  looked-is branch q s e u = rw e
  looked-is and_close q s e u = rw e
  looked-is or_open q s e u = rw e
  looked-is or_close q s e u = rw e
  looked-is it_open q s e u = rw e
  looked-is it_close q s e u = rw e
  looked-is lp_open q s e u =
      let w = (lp-opened d acc q e).1 ∙ ap (λ (n : ℕ). not (eqb n 0)) (sym u) in
      rw (e, w) (decide (eqb s.timeless 0)
      (λ z. let y = eqb-true s.timeless 0 z in rw y refl)
      (λ z. rw z refl))
  looked-is lp_close q s e u = rw (e, add-one s.timeless)
  looked-is loop_exit q s e u = rw e
  looked-is end q s e u = rw e
  looked-is box_open q s e u = rw e
  looked-is box_close q s e u = rw e
  looked-is box_exit q s e u = rw e

  found-next : (k : Kind) (rows q : ℕ) (s : Seen) → q < row_count d → kind d q ≡ k → Found d rows (q + 1) s → Found d rows q (looked (number_of k) (alpha d q) q s)
  found-next k rows q s l e f =
      let u = f.count ∙ ap (λ (n : ℕ). timeless_in d n (stack d n)) (add-one q) in
      subst (Found d rows q) (sym (looked-is k q s e u)) (record {
        count = ap (counted d acc k q) u ∙ sym (count-is d acc k q l e);
        lower = λ p a b. decide (spends_no_time d q)
            (λ z. let y : p < q = rw z at b in absurd (omega arith))
            (λ z. decide (eqb p q) (λ w. rw (eqb-true p q w) z) (λ w. let n = eqb-false p q w in f.lower p (omega arith) (rw z at b)));
        lowest = λ l n. decide (spends_no_time d q)
            (λ z. let y : ◌≡◌ {A = Option ℕ} (Some q) (Some l) = rw z at n in let x : q ≡ l = cc in rw (← x) z)
            (λ z. f.lowest l (rw z at n));
      })

looked-all : (P : Seen → Type 0) (k first q : ℕ) (s : Seen) → P s → P (record { timeless = 0; lowest = s.lowest }) → P (record { timeless = s.timeless + 1; lowest = s.lowest })
    → P (record { timeless = s.timeless - 1; lowest = Some q }) → P (looked k first q s)
unfolding looked
looked-all P k first q s stay spent shut opened =
    either (eqb k 16) _ _ (either (eqb first 0) _ _ stay spent) (either (eqb k 25) _ _ shut (either (eqb k 24) _ _ (either (eqb s.timeless 0) _ _ stay opened) stay))
  where
    either : (b : Bool) (x y : Seen) → P x → P y → P (cond b x y)
    either true x y a c = a
    either false x y a c = c

seen_next : (table : List ℕ) (rows q : ℕ) (s r : Seen) → q < rows → r ≡ looked (get_or table q 0) (first_in table q) q s → SeenFrom table rows (q + 1) s → SeenFrom table rows q r
seen_next table rows q s r l e f = subst (SeenFrom table rows q) (sym e) (record {
  few = let h = f.few in looked-all (λ (x : Seen). x.timeless + q ≤ rows) (get_or table q 0) (first_in table q) q s (omega arith) (omega arith) (omega arith) (omega arith);
  low = let h = f.low in looked-all (λ (x : Seen). (n : ℕ) → x.lowest ≡ Some n → n < rows) (get_or table q 0) (first_in table q) q s h h h (λ n z. let y : q ≡ n = cc in omega arith);
  found = λ d k g. rw (k.cell q l, k.first q l)
      (found-next d (well-nested d g.walk g.outlets (omega (arith, k.count))) (kind d q) rows q s (omega (arith, k.count)) refl (f.found d k g));
})

-- a row that closes no LP changes nothing where no LP is left to look at
passed : (k first q : ℕ) (s : Seen) → s.timeless ≡ 0 → k ≢ 25 → s ≡ looked k first q s
unfolding looked
passed k first q s z n = rw (ne_eqb k 25 n, z) (both (eqb k 16) (both (eqb first 0) refl refl) (both (eqb k 24) refl refl))
  where
    both : (b : Bool) {w x y : Seen} → w ≡ x → w ≡ y → w ≡ cond b x y
    both true e f = e
    both false e f = f

seen-past : (table : List ℕ) (rows n q : ℕ) (s : Seen) → n + q ≤ rows → s.timeless ≡ 0 → ((p : ℕ) → q ≤ p → p < n + q → get_or table p 0 ≢ 25)
    → SeenFrom table rows (n + q) s → SeenFrom table rows q s
seen-past table rows zero q s l z h f = subst (λ (m : ℕ). SeenFrom table rows m s) (omega arith) f
seen-past table rows (suc n) q s l z h f =
    seen-past table rows n q s (omega arith) z (λ p a b. h p a (omega arith))
    (seen_next table rows (n + q) s s (omega arith) (passed (get_or table (n + q) 0) (first_in table (n + q)) (n + q) s z (h (n + q) (omega arith) (omega arith)))
    (subst (λ (m : ℕ). SeenFrom table rows m s) (omega arith) f))

-- as the loop goes on: to the row before, and on to the last LP close below
module _ (table : List ℕ) (rows row : ℕ) (l : row ≤ rows) (s : Seen) (f : SeenFrom table rows row s) where
  pub seen-before : (r : Seen) → 0 < row → r ≡ looked (get_or table (row - 1) 0) (first_in table (row - 1)) (row - 1) s → SeenFrom table rows (row - 1) r
  seen-before r h e = seen_next table rows (row - 1) s r (omega arith) e (subst (λ (m : ℕ). SeenFrom table rows m s) (omega arith) f)

  pub seen-close : (behind : ℕ) → s.timeless ≡ 0 → BehindClose table row behind → SeenFrom table rows behind s
  seen-close behind z b =
      let low = b.low in
      let n : row - behind + behind ≡ row = omega arith in
      seen-past table rows (row - behind) behind s (omega arith) z (λ p a h. b.none p a (omega arith)) (subst (λ (m : ℕ). SeenFrom table rows m s) (sym n) f)

-- ---- at row 0
module _ (table : List ℕ) (rows : ℕ) (s : Seen) (f : SeenFrom table rows 0 s) where
  pub loops-fine : s.lowest ≡ None → LoopsRead table rows (Ok tt)
  loops-fine e = record {
    within = omega arith;
    none = λ z. refl;
    judged = λ d k g on. rows-faultless d (loop_fault d) (λ q l. rw ((f.found d k g).lower q (omega arith) (rw e (omega (arith, k.count))))) on;
  }

  pub loops-faulty : (l : ℕ) → s.lowest ≡ Some l → LoopsRead table rows (Err (record { reason = LoopSpendsNoTime; value = l }))
  loops-faulty l e = let h = f.low l e in record {
    within = omega arith;
    none = λ z. absurd (omega arith);
    judged = λ d k g on.
        let w = f.found d k g in let t = w.lowest l e in
        rows-faulty d (loop_fault d) l (omega (arith, k.count)) (λ z. absurd (let y : ◌≡◌ {A = ℕ} 45 0 = rw t at z in omega arith)) (λ p m. rw (w.lower p (omega arith) (rw e m))) on ∙ rw t;
  }
