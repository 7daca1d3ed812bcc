-- Waits.
use Prim.Native.Nat.{ℕ, zero, suc, ◌+◌, ◌-◌, ◌≤◌, ◌<◌, zero-le}
use Rattle.std.specs.Prelude.{◌≡◌, ◌≢◌, Bool, true, false, ◌&&◌, ◌||◌, get_or, leb}
use Rattle.std.proofs.Math.Path.{refl, sym, subst, fun_ext}
use Rattle.std.proofs.Common.{◌∙◌, ap, arith, add-suc, suc-add}
use Rattle.std.proofs.Math.Bool.{not, cond, and-false}
use mathlib.Core.List.{List, [], ◌∷◌}
use Rattle.std.proofs.Math.Nat.{add-zero}
use Rattle.std.proofs.Math.ListN.{length}
use Rattle.std.proofs.Math.Dec.{ltb, eqb}
use borrow.Author.Tests.{ltb-true, ltb-false, leb-true, eqb-true, eqb-false, lt-ltb, le-leb, ne_eqb}
use Rattle.effbd.specs.Diagrams.{Diagram, Kind, and_close, and_open, box_close, box_exit, box_open, branch, end, function, is_kind, it_close, it_open, kind, loop_exit, lp_close, lp_open, or_close, or_open, row, row_count, same_kind}
use Rattle.effbd.specs.Counts.{count_total, takes}
use Rattle.effbd.specs.Image.{image_mark, ready_or_done}
use Rattle.effbd.specs.Layout.{Count, P, Place, Q, R, by_place}
use Rattle.effbd.specs.Moves.{all_done, enough, holds_as, is_there, pass_ticks, wait}
use Rattle.effbd.specs.Nesting.{branch_of, owner}
use Rattle.effbd.specs.Patterns.{Pattern, at_once, marks_p, no_pattern, none, one_at, passes_to, patterns, patterns_as}
use Rattle.effbd.specs.Ranges.{all_below, nobody, only}
use Rattle.effbd.specs.States.{State}
use Rattle.ranges.specs.Tests.{and_intro, and_left, and_right, clash, decide, not-false, not-true, or_left, or_right, or_split}
use Rattle.ranges.specs.RangeLaws.{all-elim, all-fail, all-find, all-intro, only-refl}
use Rattle.agreement.specs.Basics.{kind-in, not-kind, same-eq}
use Rattle.agreement.proofs.Invariant.{Inv}
use Rattle.agreement.proofs.Matching.{Agree, Valid, second-enabled}
use Rattle.agreement.specs.Named.{NamedState, enabled, named_image, named_lets, named_tick, named_wait}
use Rattle.agreement.specs.Structure.{Laws}
use Rattle.agreement.proofs.TokenSteps.{branch_in, branch-kind, live-zero}
use Rattle.agreement.specs.Tokens.{Real}
use Rattle.agreement.proofs.Tokens.{enabled-yes, places-elim}

module _ (d : Diagram) where
  module _ (L : Laws d) (n : ℕ) (some : 0 < n) (s : State) (i : Inv d s) where
    v : Valid d s
    v = i.valid

    m : NamedState
    m = named_image d s

    let-no : (t : Pattern) (ts : List Pattern) (j q : ℕ) → enabled d t (image_mark d s) ≡ true → t.latest < m.clock q j + n → named_lets d (t ∷ ts) j q n m ≡ false
    unfolding m
    let-no t ts j q e l = rw (e, lt-ltb t.latest (m.clock q j + n) l)

    let-yes : (t : Pattern) (ts : List Pattern) (j q : ℕ) → named_lets d (t ∷ ts) j q n m ≡ false → {C : Type 0}
        → (enabled d t (image_mark d s) ≡ true → t.latest < m.clock q j + n → C) → (named_lets d ts (suc j) q n m ≡ false → C) → C
    unfolding m
    let-yes t ts j q h f g = decide (enabled d t (image_mark d s))
        (λ e. decide (ltb t.latest (m.clock q j + n)) (λ l. f e (ltb-true t.latest (m.clock q j + n) l)) (λ l. g (rw (e, l) at h)))
        (λ e. g (rw e at h))

    -- a transition without delay
    at_once-no : (t : Pattern) (ts : List Pattern) (j q : ℕ) → t.latest ≡ 0 → enabled d t (image_mark d s) ≡ true → named_lets d (t ∷ ts) j q n m ≡ false
    at_once-no t ts j q z e = let-no t ts j q e (omega arith)

    -- it is enabled where its row is ready
    takes-on : (t : Pattern) (S : ℕ → Bool) → ((p : Place) → t.take p ≡ marks_p S p) → ((q : ℕ) → S q ≡ true → ready_or_done (s.activity q) ≡ 1)
        → enabled d t (image_mark d s) ≡ true
    takes-on t S z h = enabled-yes d t (image_mark d s) (λ p l. rw (z p) (cov p l))
      where
        cov : (p : Place) → Real d p → marks_p S p ≤ image_mark d s p
        cov (P q) l = decide (S q) (λ e. rw (e, h q e) (omega arith)) (λ e. rw e zero-le)
        cov (Q q) l = zero-le
        cov (R q) l = zero-le
        cov (Count q) l = zero-le

    one : (o : ℕ) → s.activity o ≡ 1 → (q : ℕ) → only o q ≡ true → ready_or_done (s.activity q) ≡ 1
    one o a q e = rw (eqb-true q o e, a)

    -- enabled gives its takes
    gives-on : (t : Pattern) (p : Place) → enabled d t (image_mark d s) ≡ true → Real d p → t.take p ≤ image_mark d s p
    gives-on t p e l = leb-true (t.take p) (image_mark d s p) (places-elim d (λ x. leb (t.take x) (image_mark d s x)) e p l)

    ready_of : (o : ℕ) → kind d o ≢ branch → 1 ≤ ready_or_done (s.activity o) → eqb (s.activity o) 1 ≡ true
    ready_of o b l = decide (eqb (s.activity o) 1) (λ e. e)
        (λ e. let z = live-zero d (s.activity o) (eqb-false (s.activity o) 1 e) (λ w. b (v.done o w)) in absurd (omega arith))

    Held : Type 0
    Held = (q : ℕ) × (q < row_count d) × (holds_as d (kind d q) q n s ≡ true)

    Stopped : Type 0
    Stopped = (q : ℕ) × (q < row_count d) × (named_lets d (patterns d q) 0 q n m ≡ false)

    -- the diagram holds: so does the net
    stop : (k : Kind) (q : ℕ) → kind d q ≡ k → same_kind k end ≡ false → named_lets d (patterns_as d k q) 0 q n m ≡ false → Stopped
    unfolding Stopped
    stop k q e z h = (q, kind-in d q (not-kind d q e end z), rw e h)

    -- the first transition of a kind
    hd : Kind → ℕ → Pattern
    hd k q = get_or (patterns_as d k q) 0 no_pattern

    nx : Kind → ℕ → Pattern
    nx k q = get_or (patterns_as d k q) 1 no_pattern

    token-stop : (k : Kind) (q : ℕ) → kind d q ≡ k → same_kind k end ≡ false → (t : Pattern) → patterns_as d k q ≡ t ∷ [] → t.latest ≡ 0 → (S : ℕ → Bool)
        → ((p : Place) → t.take p ≡ marks_p S p) → ((x : ℕ) → S x ≡ true → ready_or_done (s.activity x) ≡ 1) → Stopped
    token-stop k q e z t w h S f g = stop k q e z (rw w (at_once-no t [] 0 q h (takes-on t S f g)))

    let-later : (t : Pattern) (ts : List Pattern) (j q : ℕ) → named_lets d ts (suc j) q n m ≡ false → named_lets d (t ∷ ts) j q n m ≡ false
    let-later t ts j q h = rw (h, and-false)

    start-on : (q : ℕ) → s.activity q ≡ 1 → enough d q s ≡ true → enabled d (hd function q) (image_mark d s) ≡ true
    unfolding hd
    start-on q a e = enabled-yes d (hd function q) (image_mark d s) cov
      where
        cov : (p : Place) → Real d p → by_place (one_at (only q)) none none (takes d q) p ≤ image_mark d s p
        cov (P x) l = decide (only q x) (λ f. rw (f, one q a x f) (omega arith)) (λ f. rw f zero-le)
        cov (Q x) l = zero-le
        cov (R x) l = zero-le
        cov (Count x) l = leb-true (takes d q x) (s.count x) (all-elim (count_total d) (is_there d q s) e x l)

    turn_on : (q w u : ℕ) → kind d q ≡ it_open → s.activity q ≡ 1 → w ≤ s.turns q → u ≤ (row d q).first - s.turns q → (tq tr : ℕ → ℕ) → ((x : ℕ) → tq x ≤ cond (only q x) w 0) → ((x : ℕ) → tr x ≤ cond (only q x) u 0)
        → (c : Place → Bool) (g : Place → ℕ) → enabled d (at_once (by_place (one_at (only q)) tq tr none) c g) (image_mark d s) ≡ true
    turn_on q w u k a lw lu tq tr hq hr c g = enabled-yes d (at_once (by_place (one_at (only q)) tq tr none) c g) (image_mark d s) cov
      where
        cov : (p : Place) → Real d p → by_place (one_at (only q)) tq tr none p ≤ image_mark d s p
        cov (P x) l = decide (only q x) (λ f. rw (f, one q a x f) (omega arith)) (λ f. rw f zero-le)
        cov (Q x) l = decide (only q x)
            (λ f. let h : tq x ≤ w = rw f at (hq x) in let z = eqb-true x q f in rw (z, k) (let h₂ : tq q ≤ w = rw z at h in omega arith))
            (λ f. let h : tq x ≤ 0 = rw f at (hq x) in omega arith)
        cov (R x) l = decide (only q x)
            (λ f. let h : tr x ≤ u = rw f at (hr x) in let z = eqb-true x q f in rw (z, k) (let h₂ : tr q ≤ u = rw z at h in omega arith))
            (λ f. let h : tr x ≤ 0 = rw f at (hr x) in omega arith)
        cov (Count x) l = zero-le

    le-self : (x : ℕ) → x ≤ x
    le-self x = omega arith

    timed : ℕ → Pattern
    timed q = nx function q

    timed-on : (q : ℕ) → kind d q ≡ function → s.activity q ≡ 2 → enabled d (timed q) (image_mark d s) ≡ true
    unfolding timed nx
    timed-on q e a = (rw e at (second-enabled d q e (image_mark d s))) ∙ rw a

    stops : (k : Kind) (q : ℕ) → kind d q ≡ k → holds_as d k q n s ≡ true → Stopped
    unfolding m timed hd nx
    stops function q e h = stop function q e refl (or_split (eqb (s.activity q) 1 && enough d q s) (eqb (s.activity q) 2 && ltb (row d q).second (s.clock q + n)) h
        (λ x. at_once-no (hd function q) (timed q ∷ []) 0 q refl (start-on q (eqb-true (s.activity q) 1 (and_left (eqb (s.activity q) 1) (enough d q s) x)) (and_right (eqb (s.activity q) 1) (enough d q s) x)))
        (λ y x. let a = eqb-true (s.activity q) 2 (and_left (eqb (s.activity q) 2) (ltb (row d q).second (s.clock q + n)) x) in
        let l = ltb-true (row d q).second (s.clock q + n) (and_right (eqb (s.activity q) 2) (ltb (row d q).second (s.clock q + n)) x) in
        let-later (hd function q) (timed q ∷ []) 0 q (let-no (timed q) [] 1 q (timed-on q e a) (rw e l))))
    stops and_open q e h = token-stop and_open q e refl (hd and_open q) refl refl (only q) (λ p. refl) (one q (eqb-true (s.activity q) 1 h))
    stops branch q e h = absurd (v.readies q (eqb-true (s.activity q) 1 h) e)
    stops and_close q e h = or_split (eqb (s.activity q) 1) (all_done d (owner d q) s) h
        (λ x. absurd (v.opened q (eqb-true (s.activity q) 1 x) e))
        (λ y x. token-stop and_close q e refl (hd and_close q) refl refl (branch_of d (owner d q)) (λ p. refl) (λ b f.
        rw (eqb-true (s.activity b) 3 (rw f at (all-elim (row_count d) (λ z. not (branch_of d (owner d q) z) || eqb (s.activity z) 3) x b (branch_in d (owner d q) b f))))))
    stops or_open q e h = let w = L.or_first q e in
        token-stop branch (suc q) w.0 refl (passes_to d (only q) nobody (suc (suc q))) (rw (w.1, e)) refl (only q) (λ p. refl) (one q (eqb-true (s.activity q) 1 h))
    stops or_close q e h = token-stop or_close q e refl (hd or_close q) refl refl (only q) (λ p. refl) (one q (eqb-true (s.activity q) 1 h))
    stops it_open q e h = stop it_open q e refl (decide (ltb (s.turns q) (row d q).first)
        (λ f. let l = ltb-true (s.turns q) (row d q).first f in
        at_once-no (hd it_open q) (nx it_open q ∷ []) 0 q refl (turn_on q 0 1 e (eqb-true (s.activity q) 1 h) zero-le (omega arith) none (one_at (only q)) (λ x. zero-le) (λ x. le-self (cond (only q x) 1 0)) (hd it_open q).clear (hd it_open q).give))
        (λ f. let l = ltb-false (s.turns q) (row d q).first f in
        let-later (hd it_open q) (nx it_open q ∷ []) 0 q (at_once-no (nx it_open q) [] 1 q refl (turn_on q (row d q).first 0 e (eqb-true (s.activity q) 1 h) l zero-le (λ x. cond (only q x) (row d q).first 0) none (λ x. le-self (cond (only q x) (row d q).first 0)) (λ x. zero-le) (nx it_open q).clear (nx it_open q).give))))
    stops it_close q e h = token-stop it_close q e refl (hd it_close q) refl refl (only q) (λ p. refl) (one q (eqb-true (s.activity q) 1 h))
    stops lp_open q e h = token-stop lp_open q e refl (hd lp_open q) refl refl (only q) (λ p. refl) (one q (eqb-true (s.activity q) 1 h))
    stops lp_close q e h = token-stop lp_close q e refl (hd lp_close q) refl refl (only q) (λ p. refl) (one q (eqb-true (s.activity q) 1 h))
    stops loop_exit q e h = token-stop loop_exit q e refl (hd loop_exit q) refl refl (only q) (λ p. refl) (one q (eqb-true (s.activity q) 1 h))
    stops end q e h = clash h refl
    stops box_open q e h = token-stop box_open q e refl (hd box_open q) refl refl (only q) (λ p. refl) (one q (eqb-true (s.activity q) 1 h))
    stops box_close q e h = token-stop box_close q e refl (hd box_close q) refl refl (only q) (λ p. refl) (one q (eqb-true (s.activity q) 1 h))
    stops box_exit q e h = token-stop box_exit q e refl (hd box_exit q) refl refl (only q) (λ p. refl) (one q (eqb-true (s.activity q) 1 h))

    -- the net holds: so does the diagram
    hold : (k : Kind) (q : ℕ) → kind d q ≡ k → same_kind k end ≡ false → holds_as d k q n s ≡ true → Held
    unfolding Held
    hold k q e z h = (q, kind-in d q (not-kind d q e end z), rw e h)

    -- an enabled transition that takes P of o: o is ready
    ready_by : (t : Pattern) (o : ℕ) → o < row_count d → kind d o ≢ branch → t.take (P o) ≡ cond (only o o) 1 0 → enabled d t (image_mark d s) ≡ true → eqb (s.activity o) 1 ≡ true
    ready_by t o l b z e = ready_of o b (let h = gives-on t (P o) e l in let w : t.take (P o) ≡ 1 = z ∙ rw (only-refl o) in omega arith)

    -- kinds with one transition, that takes P of the row
    single : (q : ℕ) (t : Pattern) → t.take (P q) ≡ cond (only q q) 1 0 → kind d q ≢ end → kind d q ≢ branch
        → named_lets d (t ∷ []) 0 q n m ≡ false → eqb (s.activity q) 1 ≡ true
    single q t z ne nb h = let-yes t [] 0 q h (λ e l. ready_by t q (kind-in d q ne) nb z e) (λ w. clash refl w)

    holds : (k : Kind) (q : ℕ) → kind d q ≡ k → named_lets d (patterns_as d k q) 0 q n m ≡ false → Held
    unfolding m timed hd nx
    holds function q e h = hold function q e refl (let-yes t₁ (timed q ∷ []) 0 q h
        (λ f l. or_left (eqb (s.activity q) 2 && ltb (row d q).second (s.clock q + n))
        (and_intro (ready_by t₁ q inside (not-kind d q e branch refl) refl f)
        (all-intro (count_total d) (is_there d q s) (λ x lx. le-leb (takes d q x) (s.count x) (gives-on t₁ (Count x) f lx)))))
        (λ h₂. let-yes (timed q) [] 1 q h₂
        (λ f l. or_right (eqb (s.activity q) 1 && enough d q s) (and_intro (runs f) (lt-ltb (row d q).second (s.clock q + n) (rw e at l)))) (λ z. clash refl z)))
      where
        t₁ : Pattern
        t₁ = hd function q

        inside : q < row_count d
        inside = kind-in d q (not-kind d q e end refl)

        runs : enabled d (timed q) (image_mark d s) ≡ true → eqb (s.activity q) 2 ≡ true
        runs f = decide (eqb (s.activity q) 2) (λ z. z)
            (λ z. let l = rw (only-refl q, e, z) at (gives-on (timed q) (Q q) f inside) in absurd (omega arith))
    holds and_open q e h = hold and_open q e refl (single q (hd and_open q) refl (not-kind d q e end refl) (not-kind d q e branch refl) h)
    holds branch q e h = decide (is_kind d or_open (owner d q))
        (λ f. let k = same-eq (kind d (owner d q)) or_open f in
        let-yes (passes_to d (only (owner d q)) nobody (suc q)) [] 0 q (rw f at h)
        (λ x l. hold or_open (owner d q) k refl (ready_by (passes_to d (only (owner d q)) nobody (suc q)) (owner d q)
        (kind-in d (owner d q) (not-kind d (owner d q) k end refl)) (not-kind d (owner d q) k branch refl) refl x))
        (λ z. clash refl z))
        (λ f. clash refl (rw f at h))
    holds and_close q e h = hold and_close q e refl (or_right (eqb (s.activity q) 1) (let-yes t [] 0 q h (λ f l. all-intro (row_count d) (λ b. not (S b) || eqb (s.activity b) 3) (λ b lb. done b lb f)) (λ z. clash refl z)))
      where
        S : ℕ → Bool
        S = branch_of d (owner d q)

        t : Pattern
        t = hd and_close q

        done : (b : ℕ) → b < row_count d → enabled d t (image_mark d s) ≡ true → (not (S b) || eqb (s.activity b) 3) ≡ true
        done b l f = decide (S b)
            (λ x. rw x (decide (eqb (s.activity b) 3) (λ y. y)
            (λ y. let g = rw x at (gives-on t (P b) f l) in
            let z = live-zero d (s.activity b) (λ w. v.readies b w (branch-kind d (owner d q) b x)) (eqb-false (s.activity b) 3 y) in absurd (omega arith))))
            (λ x. rw x)
    holds or_open q e h = clash refl h
    holds or_close q e h = hold or_close q e refl (single q (hd or_close q) refl (not-kind d q e end refl) (not-kind d q e branch refl) h)
    holds it_open q e h = hold it_open q e refl (let-yes t₁ (t₂ ∷ []) 0 q h (λ f l. ready_by t₁ q inside nb refl f)
        (λ h₂. let-yes t₂ [] 1 q h₂ (λ f l. ready_by t₂ q inside nb refl f) (λ z. clash refl z)))
      where
        t₁ : Pattern
        t₁ = hd it_open q

        t₂ : Pattern
        t₂ = nx it_open q

        inside : q < row_count d
        inside = kind-in d q (not-kind d q e end refl)

        nb : kind d q ≢ branch
        nb = not-kind d q e branch refl
    holds it_close q e h = hold it_close q e refl (single q (hd it_close q) refl (not-kind d q e end refl) (not-kind d q e branch refl) h)
    holds lp_open q e h = hold lp_open q e refl (single q (hd lp_open q) refl (not-kind d q e end refl) (not-kind d q e branch refl) h)
    holds lp_close q e h = hold lp_close q e refl (single q (hd lp_close q) refl (not-kind d q e end refl) (not-kind d q e branch refl) h)
    holds loop_exit q e h = hold loop_exit q e refl (single q (hd loop_exit q) refl (not-kind d q e end refl) (not-kind d q e branch refl) h)
    holds end q e h = clash refl h
    holds box_open q e h = hold box_open q e refl (single q (hd box_open q) refl (not-kind d q e end refl) (not-kind d q e branch refl) h)
    holds box_close q e h = hold box_close q e refl (single q (hd box_close q) refl (not-kind d q e end refl) (not-kind d q e branch refl) h)
    holds box_exit q e h = hold box_exit q e refl (single q (hd box_exit q) refl (not-kind d q e end refl) (not-kind d q e branch refl) h)

    free : Bool
    free = all_below (row_count d) (λ q. not (holds_as d (kind d q) q n s))

    open' : Bool
    open' = all_below (row_count d) (λ q. named_lets d (patterns d q) 0 q n m)

    same_test : open' ≡ free
    unfolding free open' Held Stopped
    same_test = decide open'
        (λ b. decide free (λ a. b ∙ sym a) (λ a.
        let w = all-find (row_count d) (λ q. not (holds_as d (kind d q) q n s)) a in
        let x = stops (kind d w.0) w.0 refl (not-false (holds_as d (kind d w.0) w.0 n s) w.2) in
        clash b (all-fail (row_count d) (λ q. named_lets d (patterns d q) 0 q n m) x.0 x.1 x.2)))
        (λ b. decide free (λ a.
        let w = all-find (row_count d) (λ q. named_lets d (patterns d q) 0 q n m) b in
        let x = holds (kind d w.0) w.0 refl w.2 in
        clash (all-elim (row_count d) (λ q. not (holds_as d (kind d q) q n s)) a x.0 x.1) (ap not x.2)) (λ a. b ∙ sym a))

    lets-elim : (ts : List Pattern) (j q : ℕ) → named_lets d ts j q n m ≡ true → (x : ℕ) → x < length ts → enabled d (get_or ts x no_pattern) (image_mark d s) ≡ true
        → m.clock q (j + x) + n ≤ (get_or ts x no_pattern).latest
    unfolding m
    lets-elim [] j q h x l e = absurd (omega arith)
    lets-elim (t ∷ ts) j q h zero l e = rw add-zero (ltb-false t.latest (m.clock q j + n)
        (not-true (ltb t.latest (m.clock q j + n)) (rw e at (and_left (not (enabled d t (image_mark d s) && ltb t.latest (m.clock q j + n))) (named_lets d ts (suc j) q n m) h))))
    lets-elim (t ∷ ts) j q h (suc x) l e = rw (add-suc, ← suc-add)
        (lets-elim ts (suc j) q (and_right (not (enabled d t (image_mark d s) && ltb t.latest (m.clock q j + n))) (named_lets d ts (suc j) q n m) h) x (omega arith) e)

    -- only a FUNCTION's second transition has time
    prompt : (k : Kind) (q x : ℕ) → (same_kind k function && only 1 x) ≡ false → (get_or (patterns_as d k q) x no_pattern).latest ≡ 0
    prompt function q zero h = refl
    prompt function q (suc zero) h = clash refl h
    prompt function q (suc (suc x)) h = refl
    prompt and_open q zero h = refl
    prompt and_open q (suc x) h = refl
    prompt branch q x h = go (is_kind d or_open (owner d q)) x
      where
        go : (b : Bool) (x : ℕ) → (get_or (cond b (passes_to d (only (owner d q)) nobody (suc q) ∷ []) []) x no_pattern).latest ≡ 0
        go true zero = refl
        go true (suc x) = refl
        go false x = refl
    prompt and_close q zero h = refl
    prompt and_close q (suc x) h = refl
    prompt or_open q x h = refl
    prompt or_close q zero h = refl
    prompt or_close q (suc x) h = refl
    prompt it_open q zero h = refl
    prompt it_open q (suc zero) h = refl
    prompt it_open q (suc (suc x)) h = refl
    prompt it_close q zero h = refl
    prompt it_close q (suc x) h = refl
    prompt lp_open q zero h = refl
    prompt lp_open q (suc x) h = refl
    prompt lp_close q zero h = refl
    prompt lp_close q (suc x) h = refl
    prompt loop_exit q zero h = refl
    prompt loop_exit q (suc x) h = refl
    prompt end q x h = refl
    prompt box_open q zero h = refl
    prompt box_open q (suc x) h = refl
    prompt box_close q zero h = refl
    prompt box_close q (suc x) h = refl
    prompt box_exit q zero h = refl
    prompt box_exit q (suc x) h = refl

    tick-clock : open' ≡ true → (q x : ℕ) → (named_image d (pass_ticks n s)).clock q x ≡ (named_tick d n m).clock q x
    unfolding m open'
    tick-clock ok q x = decide (is_kind d function q && only 1 x)
        (λ e. let k = same-eq (kind d q) function (and_left (is_kind d function q) (only 1 x) e) in
        let o = eqb-true x 1 (and_right (is_kind d function q) (only 1 x) e) in
        rw (e, o, second-enabled d q k (image_mark d s), k) (decide (eqb (s.activity q) 2) (λ a. rw a) (λ a. rw a)))
        (λ e. rw e (decide (ltb x (length (patterns d q)) && enabled d (get_or (patterns d q) x no_pattern) (image_mark d s))
        (λ f. let l = ltb-true x (length (patterns d q)) (and_left (ltb x (length (patterns d q))) (enabled d (get_or (patterns d q) x no_pattern) (image_mark d s)) f) in
        let g = and_right (ltb x (length (patterns d q))) (enabled d (get_or (patterns d q) x no_pattern) (image_mark d s)) f in
        let b = lets-elim (patterns d q) 0 q (all-elim (row_count d) (λ y. named_lets d (patterns d y) 0 y n m) ok q (inside l)) x l g in
        let z = prompt (kind d q) q x e in
        absurd (omega arith))
        (λ f. rw f)))
      where
        inside : x < length (patterns d q) → q < row_count d
        inside l = kind-in d q (λ k. absurd (omega (arith, subst (λ j. x < length (patterns_as d j q)) k l)))

    in-time : free ≡ true → (q : ℕ) → s.activity q ≡ 2 → s.clock q + n ≤ (row d q).second
    unfolding free
    in-time f q a = let k = v.runs q a in
        ltb-false (row d q).second (s.clock q + n) (rw (k, a) at (not-true (holds_as d (kind d q) q n s) (all-elim (row_count d) (λ x. not (holds_as d (kind d x) x n s)) f q (kind-in d q (not-kind d q k end refl)))))

    tick-inv : free ≡ true → Inv d (pass_ticks n s)
    tick-inv f = record {
      valid = record {
        small = v.small;
        runs = v.runs;
        done = v.done;
        readies = v.readies;
        opened = v.opened;
        still = λ q h. rw (ne_eqb (s.activity q) 2 h) (v.still q h);
        turned = v.turned;
        spun = v.spun;
        forked = v.forked;
        timely = λ q. decide (eqb (s.activity q) 2) (λ e. rw e (in-time f q (eqb-true (s.activity q) 2 e))) (λ e. rw e (v.timely q));
        counted = v.counted;
        bounded = v.bounded;
      };
      apart = i.apart;
    }

    pub waits-agree : (r : ℕ) → Agree d (Inv d) s r (wait d n s) (named_wait d n (named_image d s))
    unfolding m free open'
    waits-agree r = rw (ne_eqb n 0 (λ z. absurd (omega arith)), same_test) (decide free
        (λ e. rw e ((λ j. record { mark = image_mark d s; clock = fun_ext (λ q. fun_ext (λ x. tick-clock (same_test ∙ e) q x)) j }), tick-inv e))
        (λ e. rw e (refl, refl)))
