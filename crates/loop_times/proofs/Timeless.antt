-- How many of the LPs around a row have no FUNCTION of α at least 1 from that row to their close, row by row from the last.
use Prim.Native.Nat.{ℕ, suc, ◌-◌, ◌≤◌, ◌<◌}
use mathlib.Core.Path.{◌≡◌, refl, sym, ◌∙◌, ap}
use mathlib.Core.Logic.{◌≢◌}
use mathlib.Core.Bool.{Bool, true, false, not, cond, ◌&&◌, and-false}
use mathlib.Core.List.{List, [], ◌∷◌}
use native.Mathlib.Omega.{arith}
use lib.Dec.{leb, ltb, eqb}
use borrow.Author.Tests.{eqb-true, eqb-false, eq-eqb, leb-true, ltb-true, ltb-false, le-leb, lt-leb, lt-ltb, le-ltb, ne_eqb}
use Rattle.effbd.specs.Ranges.{all_below, only}
use Rattle.effbd.specs.Diagrams.{Diagram, Kind, function, and_open, branch, and_close, or_open, or_close, it_open, it_close, lp_open, lp_close, loop_exit, end, box_open, box_close, box_exit, row_count, kind, is_kind, same_kind, alpha}
use Rattle.effbd.specs.Frames.{Frame, push, turn_to}
use Rattle.effbd.specs.Nesting.{innermost_is, stack, owner, close, is_close, spends_time}
use Rattle.ranges.specs.Tests.{and_intro, and_left, and_right, decide, clash, not-false, or_split, or_left, or_right}
use Rattle.ranges.specs.RangeLaws.{all-intro, all-ext, all-fail, all-find, least-found}
use Rattle.agreement.specs.Nested.{walk, well_nested}
use Rattle.agreement.specs.Basics.{same-eq}
use Rattle.agreement.specs.Structure.{opens}
use Rattle.agreement.specs.NestingLaws.{Good, good, has, laws, until, owner-top, shutting}
use Rattle.agreement.proofs.Reach.{stands, behind}

module _ (d : Diagram) where
  -- no FUNCTION that spends time stands from row q to the close of o
  abbrev pub unspent : ℕ → ℕ → Bool
  unspent q o = all_below (row_count d) (λ p. not ((leb q p && ltb p (close d o)) && spends_time d p))

  -- among these LPs so many
  unfoldable pub timeless_in : ℕ → List Frame → ℕ
  timeless_in q [] = 0
  timeless_in q (f ∷ fs) = cond (is_kind d lp_open f.opened && unspent q f.opened) (suc (timeless_in q fs)) (timeless_in q fs)

  -- a row that spends no time changes nothing
  unspent-next : (q o : ℕ) → spends_time d q ≡ false → unspent q o ≡ unspent (suc q) o
  unspent-next q o h = all-ext (row_count d) (λ p. not ((leb q p && ltb p (close d o)) && spends_time d p)) (λ p. not ((leb (suc q) p && ltb p (close d o)) && spends_time d p))
      (λ p l. decide (eqb p q)
      (λ e. quiet (leb q p && ltb p (close d o)) (leb (suc q) p && ltb p (close d o)) (spends_time d p) (ap (spends_time d) (eqb-true p q e) ∙ h))
      (λ e. ap (λ (b : Bool). not ((b && ltb p (close d o)) && spends_time d p)) (next p (eqb-false p q e))))
    where
      quiet : (a b s : Bool) → s ≡ false → not (a && s) ≡ not (b && s)
      quiet a b s e = rw (e, and-false a, and-false b)

      next : (p : ℕ) → p ≢ q → leb q p ≡ leb (suc q) p
      next p n = decide (ltb q p)
          (λ e. let l = ltb-true q p e in rw (le-leb q p (omega arith), le-leb (suc q) p (omega arith)))
          (λ e. let l = ltb-false q p e in rw (lt-leb q p (omega arith), lt-leb (suc q) p (omega arith)))

  timeless-next : (q : ℕ) (fs : List Frame) → spends_time d q ≡ false → timeless_in q fs ≡ timeless_in (suc q) fs
  unfolding timeless_in
  timeless-next q [] h = refl
  timeless-next q (f ∷ fs) h = rw (unspent-next q f.opened h, timeless-next q fs h)

  timeless-turned : (q b : ℕ) (fs : List Frame) → timeless_in q (turn_to b fs) ≡ timeless_in q fs
  unfolding timeless_in
  timeless-turned q b [] = refl
  timeless-turned q b (f ∷ fs) = refl

  timeless-pushed : (k : Kind) (q : ℕ) (fs : List Frame) → kind d q ≡ k → same_kind k lp_open ≡ false → timeless_in (suc q) (push q fs) ≡ timeless_in (suc q) fs
  unfolding timeless_in
  timeless-pushed k q fs e n = rw (e, n)

  module _ (acc : well_nested d ≡ true) where
    -- a FUNCTION that spends time before the close of each of them
    all-spent : (q p : ℕ) (fs : List Frame) → q ≤ p → p < row_count d → spends_time d p ≡ true → ((X : ℕ) → has d (walk d acc) X fs ≡ true → p < close d X) → timeless_in q fs ≡ 0
    unfolding timeless_in has
    all-spent q p [] l m s c = refl
    all-spent q p (f ∷ fs) l m s c =
        rw (spent, and-false (is_kind d lp_open f.opened)) (all-spent q p fs l m s (λ X h. c X (or_right (only X f.opened) h)))
      where
        spent : unspent q f.opened ≡ false
        spent = all-fail (row_count d) (λ p. not ((leb q p && ltb p (close d f.opened)) && spends_time d p)) p m
            (rw (le-leb q p l, lt-ltb p (close d f.opened) (c f.opened (or_left (has d (walk d acc) f.opened fs) (eq-eqb f.opened f.opened refl))), s))

    member-opens : (q X : ℕ) (fs : List Frame) → Good d q fs → has d (walk d acc) X fs ≡ true → opens d X ≡ true
    unfolding has
    member-opens q X [] g h = clash h refl
    member-opens q X (f ∷ fs) g h = or_split (only X f.opened) (has d (walk d acc) X fs) h
        (λ e. rw (← eqb-true f.opened X e) g.0.opener)
        (λ n e. member-opens f.opened X fs g.1 e)

    is_open : (q X : ℕ) → has d (walk d acc) X (stack d q) ≡ true → opens d X ≡ true
    is_open q X h = member-opens q X (stack d q) (good d (walk d acc) q) h

    -- at a FUNCTION that spends time no LP around is left
    spent-here : (q : ℕ) → q < row_count d → kind d q ≡ function → spends_time d q ≡ true → timeless_in q (stack d q) ≡ 0
    spent-here q l e s = all-spent q q (stack d q) (omega arith) l s
        (λ X h. let o = is_open q X h in let u = until d (walk d acc) X q o h in
        let n : q ≢ close d X = λ z. clash ((laws d acc).shut X o).0 (rw (← z, e)) in omega arith)

    -- an LP open: its own LP is the innermost behind it, and where that spends time those around it do
    lp-spent : (q : ℕ) → kind d q ≡ lp_open → unspent (suc q) q ≡ false → timeless_in q (stack d q) ≡ 0
    lp-spent q e h =
        let w = all-find (row_count d) (λ p. not ((leb (suc q) p && ltb p (close d q)) && spends_time d p)) h in
        let p = w.0 in
        let b = not-false ((leb (suc q) p && ltb p (close d q)) && spends_time d p) w.2 in
        let r = and_left (leb (suc q) p && ltb p (close d q)) (spends_time d p) b in
        let low = leb-true (suc q) p (and_left (leb (suc q) p) (ltb p (close d q)) r) in
        let high = ltb-true p (close d q) (and_right (leb (suc q) p) (ltb p (close d q)) r) in
        all-spent q p (stack d q) (omega arith) w.1 (and_right (leb (suc q) p && ltb p (close d q)) (spends_time d p) b)
        (λ X m. let u = until d (walk d acc) X (suc (close d q)) (is_open q X m) (rw (behind d acc q (rw e)) m) in omega arith)

    lp-pushed : (q : ℕ) → kind d q ≡ lp_open → timeless_in (suc q) (stack d (suc q)) ≡ cond (unspent (suc q) q) (suc (timeless_in q (stack d q))) (timeless_in q (stack d q))
    unfolding timeless_in stack
    lp-pushed q e = rw (e, e, timeless-next q (stack d q) (rw e))

    -- so that it spends no time exactly where some LP behind it does not
    pub lp-opened : (q : ℕ) → kind d q ≡ lp_open
        → (timeless_in q (stack d q) ≡ timeless_in (suc q) (stack d (suc q)) - 1) × (unspent (suc q) q ≡ not (eqb (timeless_in (suc q) (stack d (suc q))) 0))
    lp-opened q e = decide (unspent (suc q) q)
        (λ z. let u : timeless_in (suc q) (stack d (suc q)) ≡ suc (timeless_in q (stack d q)) = lp-pushed q e ∙ rw z in rw (u, z) (omega arith, rw (ne_eqb (suc (timeless_in q (stack d q))) 0 (λ y. absurd (omega arith)))))
        (λ z. let u : timeless_in (suc q) (stack d (suc q)) ≡ 0 = lp-pushed q e ∙ rw z (lp-spent q e z) in rw (u, z) (lp-spent q e z, refl))

    -- a close takes off the innermost construct's frame, of this kind
    record Shut (q : ℕ) (k : Kind) : Type 0 where
      pub frame : Frame
      pub rest : List Frame
      pub here : stack d q ≡ frame ∷ rest
      pub next : stack d (suc q) ≡ rest
      pub own : is_kind d k frame.opened ≡ true
      pub opener : opens d frame.opened ≡ true
      pub owned : owner d q ≡ frame.opened

    shut : (q : ℕ) (k : Kind) → is_close d q ≡ true → innermost_is d k (stack d q) ≡ true → Shut q k
    shut q k h i = let w = shutting d (walk d acc) q h in let t = w.top in record {
      frame = t.frame;
      rest = t.rest;
      here = t.here;
      next = w.after ∙ (ap (stack d) (owner-top d (walk d acc) q t) ∙ sym t.ok.tail);
      own = rw t.here at i;
      opener = t.ok.opener;
      owned = owner-top d (walk d acc) q t;
    }

    -- of another kind than LP
    other-shut : (q : ℕ) (k : Kind) → Shut q k → same_kind k lp_open ≡ false → spends_time d q ≡ false → timeless_in q (stack d q) ≡ timeless_in (suc q) (stack d (suc q))
    unfolding timeless_in
    other-shut q k s n e = rw (s.here, s.next, same-eq (kind d s.frame.opened) k s.own, n) (timeless-next q s.rest e)

    -- the close of what it closes is the row itself
    close-is : (q : ℕ) → q < row_count d → is_close d q ≡ true → (s : Shut q lp_open) → close d s.frame.opened ≡ q
    unfolding has close
    close-is q l h s = let a = first in let b = until d (walk d acc) o q s.opener there in omega arith
      where
        o : ℕ
        o = s.frame.opened

        there : has d (walk d acc) o (stack d q) ≡ true
        there = rw s.here (or_left (has d (walk d acc) o s.rest) (eq-eqb o o refl))

        first : close d o ≤ q
        first = (least-found (row_count d) (λ c. is_close d c && only o (owner d c)) q l (and_intro h (eq-eqb (owner d q) o s.owned))).1

    lp-shut : (q : ℕ) → q < row_count d → is_close d q ≡ true → Shut q lp_open → spends_time d q ≡ false → timeless_in q (stack d q) ≡ suc (timeless_in (suc q) (stack d (suc q)))
    unfolding timeless_in
    lp-shut q l h s e = rw (s.here, s.next, s.own, empty) (ap suc (timeless-next q s.rest e))
      where
        empty : unspent q s.frame.opened ≡ true
        empty = all-intro (row_count d) (λ p. not ((leb q p && ltb p (close d s.frame.opened)) && spends_time d p))
            (λ p m. rw (close-is q l h s) (decide (leb q p) (λ z. rw (le-ltb p q (leb-true q p z), and-false (leb q p))) (λ z. rw z)))

    -- the LPs around a row, from those around the next
    unfoldable pub counted : Kind → ℕ → ℕ → ℕ
    counted function q u = cond (leb 1 (alpha d q)) 0 u
    counted and_open q u = u
    counted branch q u = u
    counted and_close q u = u
    counted or_open q u = u
    counted or_close q u = u
    counted it_open q u = u
    counted it_close q u = u
    counted lp_open q u = u - 1
    counted lp_close q u = suc u
    counted loop_exit q u = u
    counted end q u = u
    counted box_open q u = u
    counted box_close q u = u
    counted box_exit q u = u

    timed-not : (q : ℕ) {k : Kind} → kind d q ≡ k → same_kind k function ≡ false → spends_time d q ≡ false
    timed-not q e h = rw (e, h)

    pub count-is : (k : Kind) (q : ℕ) → q < row_count d → kind d q ≡ k → timeless_in q (stack d q) ≡ counted k q (timeless_in (suc q) (stack d (suc q)))
    unfolding counted stack
    count-is function q l e = decide (leb 1 (alpha d q))
        (λ z. rw z (spent-here q l e (rw (e, z))))
        (λ z. rw (z, e) (timeless-next q (stack d q) (rw (e, z))))
    count-is and_open q l e = rw e (timeless-next q (stack d q) (timed-not q e refl) ∙ sym (timeless-pushed and_open q (stack d q) e refl))
    count-is branch q l e = rw e (timeless-next q (stack d q) (timed-not q e refl) ∙ sym (timeless-turned (suc q) q (stack d q)))
    count-is and_close q l e = other-shut q and_open (shut q and_open (rw e) (stands d acc and_close q e refl)) refl (timed-not q e refl)
    count-is or_open q l e = rw e (timeless-next q (stack d q) (timed-not q e refl) ∙ sym (timeless-pushed or_open q (stack d q) e refl))
    count-is or_close q l e = other-shut q or_open (shut q or_open (rw e) (stands d acc or_close q e refl)) refl (timed-not q e refl)
    count-is it_open q l e = rw e (timeless-next q (stack d q) (timed-not q e refl) ∙ sym (timeless-pushed it_open q (stack d q) e refl))
    count-is it_close q l e = other-shut q it_open (shut q it_open (rw e) (stands d acc it_close q e refl)) refl (timed-not q e refl)
    count-is lp_open q l e = (lp-opened q e).0
    count-is lp_close q l e = lp-shut q l (rw e) (shut q lp_open (rw e) (stands d acc lp_close q e refl)) (timed-not q e refl)
    count-is loop_exit q l e = rw e (timeless-next q (stack d q) (timed-not q e refl))
    count-is end q l e = rw e (timeless-next q (stack d q) (timed-not q e refl))
    count-is box_open q l e = rw e (timeless-next q (stack d q) (timed-not q e refl) ∙ sym (timeless-pushed box_open q (stack d q) e refl))
    count-is box_close q l e = other-shut q box_open (shut q box_open (rw e) (stands d acc box_close q e refl)) refl (timed-not q e refl)
    count-is box_exit q l e = rw e (timeless-next q (stack d q) (timed-not q e refl))
