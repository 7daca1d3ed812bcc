-- The laws of an accepted diagram's structure, from the rule that accepts it.
use Prim.Native.Nat.{ℕ, zero, suc, ◌+◌, ◌-◌, ◌≤◌, ◌<◌}
use Rattle.std.specs.Prelude.{◌≡◌, ◌≢◌, ◌⊎◌, Bool, not, ◌&&◌, ◌||◌, cond, leb, eqb}
use Rattle.std.proofs.Math.Path.{refl, sym, ap}
use Rattle.std.proofs.Common.{◌∙◌, subst}
use Rattle.std.proofs.Math.Logic.{inl, inr}
use Rattle.std.proofs.Math.Bool.{true, false, and-false}
use mathlib.Core.List.{List, [], ◌∷◌}
use native.Mathlib.Omega.{arith}
use Rattle.std.proofs.Math.Nat.{add-zero, add-suc}
use Rattle.std.proofs.Math.Dec.{ltb}
use borrow.Author.Tests.{ltb-true, leb-true, leb-false, eqb-true, le-leb, eq-eqb, ne_eqb, lt-ltb, ltb-false, le-ltb}
use Rattle.effbd.specs.Diagrams.{Diagram, Kind, and_close, and_open, box_close, box_exit, box_open, branch, end, function, is_kind, it_close, it_open, kind, loop_exit, lp_close, lp_open, or_close, or_open, row_count, same_kind}
use Rattle.effbd.specs.Frames.{Frame, Role, branch_count, closing, innermost_open, is_closing, is_opening, latest_branch, opening, passing, pop, push, role, staying, turn_to, turning}
use Rattle.effbd.specs.Nesting.{box, branch_of, close, first_outlet, in_and_or, in_loop, in_scenario, innermost, innermost_is, innermost_scenario, is_close, leads, loop, none_open, outlet, owner, scenario, some_open, some_scenario, stack}
use Rattle.effbd.specs.Ranges.{all_below, between, only}
use Rattle.effbd.specs.States.{ends_killer, entered_as, entered_row}
use Rattle.ranges.specs.Tests.{and_intro, and_left, and_right, clash, decide, or-false-left, or-false-right, or_left, or-neither, or_right, or_split}
use Rattle.ranges.specs.RangeLaws.{all-elim, least-found, only-refl}
use Rattle.agreement.specs.Basics.{eq-same, kind-in, ne_same, not-kind, same-eq}
use Rattle.agreement.specs.Nested.{leading, may_stand, walk, walked, well_nested}
use Rattle.agreement.specs.Structure.{Fine, Laws, around, opens, side, side_in}

module _ (d : Diagram) where
  -- the frames of a stack at row q: each stands on the stack of its own open row
  pub record Ok (q : ℕ) (f : Frame) (fs : List Frame) : Type 0 where
    pub below : f.opened < q
    pub tail : fs ≡ stack d f.opened
    pub opener : opens d f.opened ≡ true
    pub sided : is_kind d and_open f.opened ≡ true → (kind d f.latest ≡ branch) × (owner d f.latest ≡ f.opened) × (f.opened < f.latest) × (f.latest ≤ q)

  abbrev pub Good : ℕ → List Frame → Type 0
  Good q [] = Unit {0}
  Good q (f ∷ fs) = Ok q f fs × Good f.opened fs

  weaken : (q p : ℕ) (fs : List Frame) → q ≤ p → Good q fs → Good p fs
  weaken q p [] l g = tt
  weaken q p (f ∷ fs) l g =
      let b : f.opened < q = g.0.below in (
        record {
          below = omega arith;
          tail = g.0.tail;
          opener = g.0.opener;
          sided = λ e. let w = g.0.sided e in let x : f.latest ≤ q = w.3 in (w.0, w.1, w.2, omega arith);
        },
        g.1,
      )

  module _ (acc : walked d ≡ true) where
    rule : (q : ℕ) → q < row_count d → may_stand d (kind d q) q (stack d q) ≡ true
    rule = all-elim (row_count d) (λ q. may_stand d (kind d q) q (stack d q))
        (and_left (all_below (row_count d) (λ q. may_stand d (kind d q) q (stack d q))) (ltb 0 (row_count d) && is_kind d end (row_count d - 1)) acc)

    pub ruled : (q : ℕ) (k : Kind) → kind d q ≡ k → same_kind k end ≡ false → may_stand d k q (stack d q) ≡ true
    ruled q k e n = subst (λ j. may_stand d j q (stack d q) ≡ true) e (rule q (kind-in d q (not-kind d q e end n)))

    pushed : (q : ℕ) (fs : List Frame) → fs ≡ stack d q → opens d q ≡ true → (is_kind d and_open q ≡ true → kind d (suc q) ≡ branch) → Good q fs
        → Good (suc q) (push q fs)
    unfolding owner stack
    pushed q fs e o b g = (
      record {
        below = omega arith;
        tail = e;
        opener = o;
        sided = λ a. (b a, own a, omega arith, omega arith);
      },
      g,
    )
      where
        own : is_kind d and_open q ≡ true → owner d (suc q) ≡ q
        own a = rw (same-eq (kind d q) and_open a)

    turned : (q : ℕ) (fs : List Frame) → fs ≡ stack d q → kind d q ≡ branch → Good q fs → Good (suc q) (turn_to q fs)
    unfolding owner
    turned q [] e k g = tt
    turned q (f ∷ fs) e k g = (
      record {
        below = omega (arith, g.0.below);
        tail = g.0.tail;
        opener = g.0.opener;
        sided = λ a. (k, own, g.0.below, omega arith);
      },
      g.1,
    )
      where
        own : owner d q ≡ f.opened
        own = rw (← e)

    popped : (q : ℕ) (fs : List Frame) → Good q fs → Good (suc q) (pop fs)
    popped q [] g = tt
    popped q (f ∷ fs) g = weaken f.opened (suc q) fs (omega (arith, g.0.below)) g.1

    passed : (k : Kind) (q : ℕ) (fs : List Frame) → kind d q ≡ k → fs ≡ stack d q → Good q fs → Good (suc q) (passing (role k) q fs)
    passed function q fs k e g = weaken q (suc q) fs (omega arith) g
    passed and_open q fs k e g = pushed q fs e (rw k) (λ a. same-eq (kind d (suc q)) branch (ruled q and_open k refl)) g
    passed branch q fs k e g = turned q fs e k g
    passed and_close q fs k e g = popped q fs g
    passed or_open q fs k e g = pushed q fs e (rw k) (λ a. absurd (not-kind d q k and_open refl (same-eq (kind d q) and_open a))) g
    passed or_close q fs k e g = popped q fs g
    passed it_open q fs k e g = pushed q fs e (rw k) (λ a. absurd (not-kind d q k and_open refl (same-eq (kind d q) and_open a))) g
    passed it_close q fs k e g = popped q fs g
    passed lp_open q fs k e g = pushed q fs e (rw k) (λ a. absurd (not-kind d q k and_open refl (same-eq (kind d q) and_open a))) g
    passed lp_close q fs k e g = popped q fs g
    passed loop_exit q fs k e g = weaken q (suc q) fs (omega arith) g
    passed end q fs k e g = weaken q (suc q) fs (omega arith) g
    passed box_open q fs k e g = pushed q fs e (rw k) (λ a. absurd (not-kind d q k and_open refl (same-eq (kind d q) and_open a))) g
    passed box_close q fs k e g = popped q fs g
    passed box_exit q fs k e g = weaken q (suc q) fs (omega arith) g

    pub good : (q : ℕ) → Good q (stack d q)
    unfolding stack
    good zero = tt
    good (suc q) = passed (kind d q) q (stack d q) refl refl (good q)

    -- membership
    unfoldable pub has : ℕ → List Frame → Bool
    has X [] = false
    has X (f ∷ fs) = only X f.opened || has X fs

    pub has-below : (q X : ℕ) (fs : List Frame) → Good q fs → has X fs ≡ true → X < q
    unfolding has
    has-below q X [] g h = clash h refl
    has-below q X (f ∷ fs) g h = or_split (only X f.opened) (has X fs) h
        (λ e. rw (← eqb-true f.opened X e) g.0.below)
        (λ n e. let l = has-below f.opened X fs g.1 e in let b : f.opened < q = g.0.below in omega arith)

    pub absent : (q X : ℕ) → q ≤ X → has X (stack d q) ≡ false
    absent q X l = decide (has X (stack d q)) (λ e. let b = has-below q X (stack d q) (good q) e in absurd (omega arith)) (λ e. e)

    side-absent : (X : ℕ) (fs : List Frame) → has X fs ≡ false → side_in d X fs ≡ 0
    unfolding has side_in
    side-absent X [] h = refl
    side-absent X (f ∷ fs) h = rw (or-false-left (only X f.opened) (has X fs) h) (side-absent X fs (or-false-right (only X f.opened) (has X fs) h))

    side-has : (X : ℕ) (fs : List Frame) → side_in d X fs ≢ 0 → has X fs ≡ true
    side-has X fs h = decide (has X fs) (λ e. e) (λ e. absurd (h (side-absent X fs e)))

    side-fork : (X : ℕ) (fs : List Frame) → side_in d X fs ≢ 0 → kind d X ≡ and_open
    unfolding side_in
    side-fork X [] h = absurd (h refl)
    side-fork X (f ∷ fs) h = decide (is_kind d and_open X) (λ e. same-eq (kind d X) and_open e)
        (λ n. decide (only X f.opened) (λ e. absurd (h (rw (e, n)))) (λ e. side-fork X fs (λ z. h (rw e z))))

    side-open : (o X : ℕ) → opens d o ≡ true → side d X o ≡ side_in d X (stack d o)
    unfolding side around
    side-open o X e = rw e

    side-else : (q X : ℕ) → opens d q ≡ false → side d X q ≡ side_in d X (stack d (suc q))
    unfolding side around
    side-else q X e = rw e

    -- the innermost construct
    pub record Top (q : ℕ) : Type 0 where
      pub frame : Frame
      pub rest : List Frame
      pub here : stack d q ≡ frame ∷ rest
      pub ok : Ok q frame rest

    pub top-by : (q : ℕ) (T : List Frame → Bool) → T [] ≡ false → T (stack d q) ≡ true → Top q
    top-by q T n h = go (stack d q) refl h (good q)
      where
        go : (fs : List Frame) → stack d q ≡ fs → T fs ≡ true → Good q fs → Top q
        go [] e t g = clash t n
        go (f ∷ fs) e t g = record { frame = f; rest = fs; here = e; ok = g.0 }

    top : (q : ℕ) → none_open d (stack d q) ≡ false → Top q
    top q h = top-by q (λ fs. not (none_open d fs)) refl (rw h)

    pub owner-top : (q : ℕ) (t : Top q) → owner d q ≡ t.frame.opened
    unfolding owner
    owner-top q t = rw t.here

    top_is-owner : (q : ℕ) (k : Kind) → innermost_is d k (stack d q) ≡ true → (none_open d (stack d q) ≡ false) × (kind d (owner d q) ≡ k)
    unfolding owner
    top_is-owner q k = go (stack d q)
      where
        go : (fs : List Frame) → innermost_is d k fs ≡ true → (none_open d fs ≡ false) × (kind d (innermost_open fs) ≡ k)
        go [] h = clash h refl
        go (f ∷ fs) h = (refl, same-eq (kind d f.opened) k h)

    -- a row that closes
    pub record Shut (r : ℕ) : Type 0 where
      pub top : Top r
      pub opener : opens d (owner d r) ≡ true
      pub earlier : owner d r < r
      pub after : stack d (suc r) ≡ stack d (owner d r)

    pub shutting : (r : ℕ) → is_close d r ≡ true → Shut r
    unfolding stack
    shutting r h = by (kind d r) refl h
      where
        go : (c o : Kind) → kind d r ≡ c → passing (role c) r (stack d r) ≡ pop (stack d r) → innermost_is d o (stack d r) ≡ true → Shut r
        go c o e p m = let t = top r (top_is-owner r o m).0 in record {
          top = t;
          opener = rw (owner-top r t) t.ok.opener;
          earlier = rw (owner-top r t) t.ok.below;
          after = rw (e, owner-top r t) (p ∙ (ap pop t.here ∙ t.ok.tail));
        }

        by : (k : Kind) → kind d r ≡ k → is_closing (role k) ≡ true → Shut r
        by function e z = clash z refl
        by and_open e z = clash z refl
        by branch e z = clash z refl
        by and_close e z = go and_close and_open e refl (ruled r and_close e refl)
        by or_open e z = clash z refl
        by or_close e z = go or_close or_open e refl (ruled r or_close e refl)
        by it_open e z = clash z refl
        by it_close e z = go it_close it_open e refl (ruled r it_close e refl)
        by lp_open e z = clash z refl
        by lp_close e z = go lp_close lp_open e refl (ruled r lp_close e refl)
        by loop_exit e z = clash z refl
        by end e z = clash z refl
        by box_open e z = clash z refl
        by box_close e z = go box_close box_open e refl (ruled r box_close e refl)
        by box_exit e z = clash z refl

    -- a BRANCH
    forked : (q : ℕ) → kind d q ≡ branch → none_open d (stack d q) ≡ false
    forked q e = go (stack d q) (and_left (in_and_or d (stack d q) || innermost_is d box_open (stack d q)) _ (ruled q branch e refl))
      where
        go : (fs : List Frame) → (in_and_or d fs || innermost_is d box_open fs) ≡ true → none_open d fs ≡ false
        go [] h = clash h refl
        go (f ∷ fs) h = refl

    pub record Branched (b : ℕ) : Type 0 where
      pub opener : opens d (owner d b) ≡ true
      pub earlier : owner d b < b
      pub after : stack d (suc b) ≡ record { opened = owner d b; latest = b; branches = suc (branch_count (stack d b)) } ∷ stack d (owner d b)

    pub branched : (b : ℕ) → kind d b ≡ branch → Branched b
    unfolding stack
    branched b e = let t = top b (forked b e) in record {
      opener = rw (owner-top b t) t.ok.opener;
      earlier = rw (owner-top b t) t.ok.below;
      after = rw (e, owner-top b t, t.here) (ap (λ fs. record { opened = t.frame.opened; latest = b; branches = suc t.frame.branches } ∷ fs) t.ok.tail);
    }

    -- how membership changes at a row
    has-pop : (o : ℕ) (fs : List Frame) → has o fs ≡ true → has o (pop fs) ≡ false → innermost_open fs ≡ o
    unfolding has
    has-pop o [] h n = clash h refl
    has-pop o (f ∷ fs) h n = or_split (only o f.opened) (has o fs) h (λ e. eqb-true f.opened o e) (λ x e. clash e n)

    has-turn : (o q : ℕ) (fs : List Frame) → has o (turn_to q fs) ≡ has o fs
    unfolding has
    has-turn o q [] = refl
    has-turn o q (f ∷ fs) = refl

    gained-pop : (o : ℕ) (fs : List Frame) → has o fs ≡ false → has o (pop fs) ≡ false
    unfolding has
    gained-pop o [] h = refl
    gained-pop o (f ∷ fs) h = or-false-right (only o f.opened) (has o fs) h

    lost_as : (p : Role) (o q : ℕ) (fs : List Frame) → has o fs ≡ true → has o (passing p q fs) ≡ false → (is_closing p ≡ true) × (innermost_open fs ≡ o)
    unfolding has
    lost_as opening o q fs h n = clash h (or-false-right (only o q) (has o fs) n)
    lost_as turning o q fs h n = clash h (sym (has-turn o q fs) ∙ n)
    lost_as closing o q fs h n = (refl, has-pop o fs h n)
    lost_as staying o q fs h n = clash h n

    gained_as : (p : Role) (o q : ℕ) (fs : List Frame) → has o fs ≡ false → o ≢ q → has o (passing p q fs) ≡ false
    unfolding has
    gained_as opening o q fs h n = or-neither (ne_eqb q o (λ e. n (sym e))) h
    gained_as turning o q fs h n = has-turn o q fs ∙ h
    gained_as closing o q fs h n = gained-pop o fs h
    gained_as staying o q fs h n = h

    lost : (o q n : ℕ) → has o (stack d q) ≡ true → has o (stack d (q + n)) ≡ false → (c : ℕ) × (c < q + n) × (is_close d c ≡ true) × (owner d c ≡ o)
    unfolding stack owner
    lost o q zero h g = clash h (rw add-zero at g)
    lost o q (suc n) h g = decide (has o (stack d (q + n)))
        (λ e. let w = lost_as (role (kind d (q + n))) o (q + n) (stack d (q + n)) e (rw add-suc at g) in (q + n, omega arith, w.0, w.1))
        (λ e. let w = lost o q n h e in let l : w.0 < q + n = w.1 in (w.0, omega arith, w.2, w.3))

    pub gone : (o q n : ℕ) → has o (stack d q) ≡ false → o < q → has o (stack d (q + n)) ≡ false
    unfolding stack
    gone o q zero h l = rw add-zero h
    gone o q (suc n) h l = rw add-suc (gained_as (role (kind d (q + n))) o (q + n) (stack d (q + n)) (gone o q n h l) (omega arith))

    -- an open row
    opened-as : (p : Role) (o : ℕ) (fs : List Frame) → is_opening p ≡ true → passing p o fs ≡ push o fs
    opened-as opening o fs h = refl
    opened-as turning o fs h = clash h refl
    opened-as closing o fs h = clash h refl
    opened-as staying o fs h = clash h refl

    opened-stack : (o : ℕ) → opens d o ≡ true → stack d (suc o) ≡ push o (stack d o)
    unfolding stack
    opened-stack o h = opened-as (role (kind d o)) o (stack d o) h

    opened-has : (o : ℕ) → opens d o ≡ true → has o (stack d (suc o)) ≡ true
    unfolding has
    opened-has o h = rw (opened-stack o h) (or_left (has o (stack d o)) (only-refl o))

    -- the last row is END, with nothing open
    last : (m : ℕ) × (row_count d ≡ suc m) × (kind d m ≡ end)
    last = (row_count d - 1, (let p = pos in omega arith), same-eq (kind d (row_count d - 1)) end (and_right (ltb 0 (row_count d)) (is_kind d end (row_count d - 1)) both))
      where
        both : (ltb 0 (row_count d) && is_kind d end (row_count d - 1)) ≡ true
        both = and_right (all_below (row_count d) (λ q. may_stand d (kind d q) q (stack d q))) (ltb 0 (row_count d) && is_kind d end (row_count d - 1)) acc

        pos : 0 < row_count d
        pos = ltb-true 0 (row_count d) (and_left (ltb 0 (row_count d)) (is_kind d end (row_count d - 1)) both)

    last_empty : (o : ℕ) → has o (stack d last.0) ≡ false
    unfolding has
    last_empty o = go (stack d m) (and_left (none_open d (stack d m)) (eqb (suc m) (row_count d)) (subst (λ j. may_stand d j m (stack d m) ≡ true) last.2 (rule m (rw last.1 (omega arith)))))
      where
        m : ℕ
        m = last.0

        go : (fs : List Frame) → none_open d fs ≡ true → has o fs ≡ false
        go [] e = refl
        go (f ∷ fs) e = clash e refl

    -- each open row is closed
    shut : (o : ℕ) → opens d o ≡ true → (is_close d (close d o) ≡ true) × (owner d (close d o) ≡ o)
    unfolding close
    shut o h = (and_left (is_close d c) (only o (owner d c)) found, eqb-true (owner d c) o (and_right (is_close d c) (only o (owner d c)) found))
      where
        m : ℕ
        m = last.0

        c : ℕ
        c = close d o

        no : kind d o ≢ end
        no e = clash h (rw e)

        before : suc o + (m - suc o) ≡ m
        before = let e : row_count d ≡ suc m = last.1 in let l : o < row_count d = kind-in d o no in
            let n : o ≢ m = λ z. no (rw z last.2) in omega arith

        w : (c : ℕ) × (c < suc o + (m - suc o)) × (is_close d c ≡ true) × (owner d c ≡ o)
        w = lost o (suc o) (m - suc o) (opened-has o h) (rw before (last_empty o))

        found : (is_close d c && only o (owner d c)) ≡ true
        found = (least-found (row_count d) (λ x. is_close d x && only o (owner d x)) w.0
            (let e : row_count d ≡ suc m = last.1 in let l : w.0 < suc o + (m - suc o) = w.1 in let b = before in omega arith)
            (and_intro w.2 (eq-eqb (owner d w.0) o w.3))).0

    -- what is open at q closes at q or later
    pub until : (X q : ℕ) → opens d X ≡ true → has X (stack d q) ≡ true → q ≤ close d X
    until X q o h = decide (leb q c) (λ e. leb-true q c e)
        (λ e. let l : c < q = leb-false q c e in
        let b : suc c + (q - suc c) ≡ q = omega arith in
        clash h (rw (← b) (gone X (suc c) (q - suc c) off (let x = earlier in omega arith))))
      where
        c : ℕ
        c = close d X

        s : (is_close d c ≡ true) × (owner d c ≡ X)
        s = shut X o

        after : stack d (suc c) ≡ stack d (owner d c)
        after = (shutting c s.0).after

        earlier : X < c
        earlier = subst (λ x. x < c) s.1 (shutting c s.0).earlier

        off : has X (stack d (suc c)) ≡ false
        off = rw (after, s.1) (absent X X (omega arith))

    -- a frame that is no AND's does not show
    drop-frame : (X o b n : ℕ) → is_kind d and_open o ≡ false → side_in d X (record { opened = o; latest = b; branches = n } ∷ stack d o) ≡ side_in d X (stack d o)
    unfolding side_in
    drop-frame X o b m n = decide (only X o)
        (λ e. let z : o ≡ X = eqb-true o X e in rw (e, ← z, n) (sym (side-absent o (stack d o) (absent o o (omega arith)))))
        (λ e. rw e)

    top-stack : (q : ℕ) (t : Top q) → stack d q ≡ record { opened = owner d q; latest = t.frame.latest; branches = t.frame.branches } ∷ stack d (owner d q)
    top-stack q t = rw (owner-top q t) (t.here ∙ ap (λ fs. t.frame ∷ fs) t.ok.tail)

    not-open : (q : ℕ) {k : Kind} → kind d q ≡ k → is_opening (role k) ≡ false → opens d q ≡ false
    not-open q e h = rw e h

    not-both : (p : Role) → is_closing p ≡ true → is_opening p ≡ false
    not-both opening h = clash h refl
    not-both turning h = refl
    not-both closing h = refl
    not-both staying h = refl

    closed-side : (r X : ℕ) → is_close d r ≡ true → side d X r ≡ side_in d X (stack d (owner d r))
    closed-side r X h = side-else r X (not-both (role (kind d r)) h) ∙ ap (side_in d X) (shutting r h).after

    -- the row that entering q changes stands where q is read
    in-branch : (q X : ℕ) → (t : Top q) → kind d (owner d q) ≡ and_open → side d X (latest_branch (stack d q)) ≡ side_in d X (stack d q)
    unfolding side_in
    in-branch q X t k = rw t.here (side-else b X (not-open b w.0 refl) ∙ (ap (side_in d X) (branched b w.0).after ∙ rw w.1 (ap (λ fs. side_in d X (t.frame ∷ fs)) (sym t.ok.tail))))
      where
        b : ℕ
        b = t.frame.latest

        w : (kind d b ≡ branch) × (owner d b ≡ t.frame.opened) × (t.frame.opened < b) × (b ≤ q)
        w = t.ok.sided (eq-same (kind d t.frame.opened) and_open (rw (owner-top q t) at k))

    out-branch : (q X : ℕ) → Top q → is_kind d and_open (owner d q) ≡ false → opens d (owner d q) ≡ true → side d X (close d (owner d q)) ≡ side_in d X (stack d q)
    out-branch q X t n o = let s = shut (owner d q) o in
        closed-side (close d (owner d q)) X s.0 ∙ (ap (λ x. side_in d X (stack d x)) s.1 ∙ (sym (drop-frame X (owner d q) t.frame.latest t.frame.branches n) ∙ ap (side_in d X) (sym (top-stack q t))))

    still : (q X : ℕ) → opens d q ≡ false → stack d (suc q) ≡ stack d q → side d X q ≡ side_in d X (stack d q)
    still q X n e = side-else q X n ∙ ap (side_in d X) e

    at-close : (q X : ℕ) (o : Kind) → is_close d q ≡ true → same_kind o and_open ≡ false → innermost_is d o (stack d q) ≡ true → side d X q ≡ side_in d X (stack d q)
    at-close q X o h n m = let w = top_is-owner q o m in
        closed-side q X h ∙ (sym (drop-frame X (owner d q) (top q w.0).frame.latest (top q w.0).frame.branches (rw w.1 n)) ∙ ap (side_in d X) (sym (top-stack q (top q w.0))))

    landed_as : (k : Kind) (q X : ℕ) → kind d q ≡ k → side d X (entered_as d k (is_kind d and_open (owner d q)) q) ≡ side_in d X (stack d q)
    unfolding stack
    landed_as function q X e = still q X (not-open q e refl) (rw e)
    landed_as and_open q X e = side-open q X (rw e)
    landed_as branch q X e = go (is_kind d and_open (owner d q)) refl
      where
        t : Top q
        t = top q (forked q e)

        go : (x : Bool) → is_kind d and_open (owner d q) ≡ x → side d X (entered_as d branch x q) ≡ side_in d X (stack d q)
        go true f = in-branch q X t (same-eq (kind d (owner d q)) and_open f)
        go false f = out-branch q X t f (branched q e).opener
    landed_as and_close q X e = let w = top_is-owner q and_open (ruled q and_close e refl) in in-branch q X (top q w.0) w.1
    landed_as or_open q X e = side-open q X (rw e)
    landed_as or_close q X e = at-close q X or_open (rw e) refl (ruled q or_close e refl)
    landed_as it_open q X e = side-open q X (rw e)
    landed_as it_close q X e = at-close q X it_open (rw e) refl (ruled q it_close e refl)
    landed_as lp_open q X e = side-open q X (rw e)
    landed_as lp_close q X e = at-close q X lp_open (rw e) refl (ruled q lp_close e refl)
    landed_as loop_exit q X e = still q X (not-open q e refl) (rw e)
    landed_as end q X e = still q X (not-open q e refl) (rw e)
    landed_as box_open q X e = side-open q X (rw e)
    landed_as box_close q X e = at-close q X box_open (rw e) refl (ruled q box_close e refl)
    landed_as box_exit q X e = still q X (not-open q e refl) (rw e)

    landed : (q X : ℕ) → side d X (entered_row d q) ≡ side_in d X (stack d q)
    unfolding entered_row
    landed q X = landed_as (kind d q) q X refl

    seq : (r X : ℕ) → kind d r ≢ and_open → kind d r ≢ end → side d X (entered_row d (suc r)) ≡ side d X r
    seq r X n m = landed (suc r) X ∙ decide (opens d r)
        (λ e. rw (opened-stack r e) (drop-frame X r (suc r) 0 (ne_same (kind d r) and_open n) ∙ sym (side-open r X e)))
        (λ e. sym (side-else r X e))

    -- the row that entering q changes is no AND close, and not in a loop that ends before q
    plainly : (q : ℕ) {k : Kind} → kind d q ≡ k → same_kind k and_close ≡ false → same_kind k branch ≡ false → Fine d q
    plainly q e a b = (not-kind d q e and_close a, λ f. absurd (not-kind d q e branch b f))

    side-fine : (q : ℕ) (t : Top q) → is_kind d and_open (owner d q) ≡ true → Fine d (latest_branch (stack d q))
    side-fine q t f = let w = t.ok.sided (rw (owner-top q t) at f) in
        rw t.here (not-kind d t.frame.latest w.0 and_close refl, λ x. rw (w.1, ← owner-top q t) (same-eq (kind d (owner d q)) and_open f))

    lands_as : (k : Kind) (q : ℕ) → kind d q ≡ k → Fine d (entered_as d k (is_kind d and_open (owner d q)) q)
    lands_as function q e = plainly q e refl refl
    lands_as and_open q e = plainly q e refl refl
    lands_as branch q e = go (is_kind d and_open (owner d q)) refl
      where
        go : (x : Bool) → is_kind d and_open (owner d q) ≡ x → Fine d (entered_as d branch x q)
        go true f = side-fine q (top q (forked q e)) f
        go false f = let s = shut (owner d q) (branched q e).opener in (
          (λ h. let m = (top_is-owner (close d (owner d q)) and_open (ruled (close d (owner d q)) and_close h refl)).1 in
              clash (eq-same (kind d (owner d q)) and_open (rw s.1 at m)) f),
          (λ h. clash s.0 (rw h)),
        )
    lands_as and_close q e = let w = top_is-owner q and_open (ruled q and_close e refl) in
        side-fine q (top q w.0) (eq-same (kind d (owner d q)) and_open w.1)
    lands_as or_open q e = plainly q e refl refl
    lands_as or_close q e = plainly q e refl refl
    lands_as it_open q e = plainly q e refl refl
    lands_as it_close q e = plainly q e refl refl
    lands_as lp_open q e = plainly q e refl refl
    lands_as lp_close q e = plainly q e refl refl
    lands_as loop_exit q e = plainly q e refl refl
    lands_as end q e = plainly q e refl refl
    lands_as box_open q e = plainly q e refl refl
    lands_as box_close q e = plainly q e refl refl
    lands_as box_exit q e = plainly q e refl refl

    lands : (q : ℕ) → Fine d (entered_row d q)
    unfolding entered_row
    lands q = lands_as (kind d q) q refl

    kin : (r : ℕ) → is_close d r ≡ true → opens d (owner d r) ≡ true
    kin r h = (shutting r h).opener

    back : (r X : ℕ) → is_close d r ≡ true → side d X (owner d r) ≡ side d X r
    back r X h = side-open (owner d r) X (kin r h) ∙ sym (closed-side r X h)

    -- branches
    next-owner : (o : ℕ) → opens d o ≡ true → owner d (suc o) ≡ o
    unfolding owner
    next-owner o h = rw (opened-stack o h)

    quiet : (o : ℕ) → opens d o ≡ true → kind d o ≢ and_open → ends_killer d (suc o) ≡ false
    unfolding ends_killer
    quiet o h n = rw (next-owner o h, ne_same (kind d o) and_open n, and-false)

    branch-side : (b X : ℕ) → kind d b ≡ branch → side d X b ≡ side_in d X (record { opened = owner d b; latest = b; branches = suc (branch_count (stack d b)) } ∷ stack d (owner d b))
    branch-side b X e = side-else b X (not-open b e refl) ∙ ap (side_in d X) (branched b e).after

    other_in : (b X : ℕ) → kind d b ≡ branch → is_kind d and_open (owner d b) ≡ false → side d X b ≡ side d X (owner d b)
    other_in b X e o = branch-side b X e ∙ (drop-frame X (owner d b) b (suc (branch_count (stack d b))) o ∙ sym (side-open (owner d b) X (branched b e).opener))

    branch_of-split : (o b : ℕ) → branch_of d o b ≡ true → (kind d b ≡ branch) × (owner d b ≡ o)
    unfolding branch_of
    branch_of-split o b h = (same-eq (kind d b) branch (and_left (is_kind d branch b) (only o (owner d b)) h), eqb-true (owner d b) o (and_right (is_kind d branch b) (only o (owner d b)) h))

    branch_of-join : (o b : ℕ) → kind d b ≡ branch → owner d b ≡ o → branch_of d o b ≡ true
    unfolding branch_of
    branch_of-join o b e w = and_intro (eq-same (kind d b) branch e) (eq-eqb (owner d b) o w)

    and_in : (o b X : ℕ) → kind d o ≡ and_open → branch_of d o b ≡ true → X ≢ o → side d X b ≡ side d X o
    unfolding side_in
    and_in o b X k h n = let w = branch_of-split o b h in
        branch-side b X w.0 ∙ rw (w.1, ne_eqb o X (λ e. n (sym e))) (sym (side-open o X (rw k)))

    and_own : (o b : ℕ) → kind d o ≡ and_open → branch_of d o b ≡ true → (side d o b ≡ b) × (b ≢ 0)
    unfolding side_in
    and_own o b k h = let w = branch_of-split o b h in (
      branch-side b o w.0 ∙ rw (w.1, only-refl o, k),
      λ z. let l : owner d b < b = (branched b w.0).earlier in absurd (omega arith),
    )

    self : (o : ℕ) → kind d o ≡ and_open → side d o o ≡ 0
    self o k = side-open o o (rw k) ∙ side-absent o (stack d o) (absent o o (omega arith))

    first : (o : ℕ) → kind d o ≡ and_open → branch_of d o (suc o) ≡ true
    first o k = branch_of-join o (suc o) (same-eq (kind d (suc o)) branch (ruled o and_open k refl)) (next-owner o (rw k))

    or_first : (o : ℕ) → kind d o ≡ or_open → (kind d (suc o) ≡ branch) × (owner d (suc o) ≡ o)
    or_first o k = (same-eq (kind d (suc o)) branch (ruled o or_open k refl), next-owner o (rw k))

    killer : (q : ℕ) → ends_killer d q ≡ true → (kind d (owner d q) ≡ and_open) × (branch_of d (owner d q) (entered_row d q) ≡ true)
    unfolding ends_killer entered_row
    killer q h = (
      same-eq (kind d (owner d q)) and_open a,
      or_split (is_kind d branch q) (is_kind d and_close q) (and_left (is_kind d branch q || is_kind d and_close q) _ h)
          (λ e. let k = same-eq (kind d q) branch e in rw (k, a) (ended (top q (forked q k))))
          (λ n e. let k = same-eq (kind d q) and_close e in
          rw k (ended (top q (top_is-owner q and_open (ruled q and_close k refl)).0))),
    )
      where
        a : is_kind d and_open (owner d q) ≡ true
        a = and_left (is_kind d and_open (owner d q)) _ (and_right (is_kind d branch q || is_kind d and_close q) _ h)

        ended : Top q → branch_of d (owner d q) (latest_branch (stack d q)) ≡ true
        ended t = let w = t.ok.sided (rw (owner-top q t) at a) in
            rw t.here (branch_of-join (owner d q) t.frame.latest w.0 (w.1 ∙ sym (owner-top q t)))

    mine : (r : ℕ) → kind d r ≡ and_close → kind d (owner d r) ≡ and_open
    mine r k = (top_is-owner r and_open (ruled r and_close k refl)).1

    -- the frames around a row
    around-bound : (x : ℕ) → (q : ℕ) × (around d x ≡ stack d q) × (x ≤ q) × (q ≤ suc x)
    unfolding around
    around-bound x = decide (opens d x) (λ e. (x, rw e, omega arith, omega arith)) (λ e. (suc x, rw e, omega arith, omega arith))

    sided_as : (o q : ℕ) (fs : List Frame) → Good q fs → kind d o ≡ and_open → side_in d o fs ≢ 0 → branch_of d o (side_in d o fs) ≡ true
    unfolding side_in
    sided_as o q [] g k h = absurd (h refl)
    sided_as o q (f ∷ fs) g k h = decide (only o f.opened)
        (λ e. let z : f.opened ≡ o = eqb-true f.opened o e in
        let w = g.0.sided (eq-same (kind d f.opened) and_open (rw z k)) in
        rw (e, k) (branch_of-join o f.latest w.0 (w.1 ∙ z)))
        (λ e. rw e (sided_as o f.opened fs g.1 k (λ z. h (rw e z))))

    side-at : (x X : ℕ) → side d X x ≡ side_in d X (stack d (around-bound x).0)
    unfolding side
    side-at x X = ap (side_in d X) (around-bound x).1

    sided : (o x : ℕ) → side d o x ≢ 0 → branch_of d o (side d o x) ≡ true
    sided o x h = let q = (around-bound x).0 in let n : side_in d o (stack d q) ≢ 0 = λ z. h (side-at x o ∙ z) in
        rw (side-at x o) (sided_as o q (stack d q) (good q) (side-fork o (stack d q) n) n)

    within : (o x : ℕ) → side d o x ≢ 0 → between o (close d o) x ≡ true
    within o x h =
        let q = (around-bound x).0 in
        let n : side_in d o (stack d q) ≢ 0 = λ z. h (side-at x o ∙ z) in
        let k = side-fork o (stack d q) n in
        let s = shut o (rw k) in
        let gone-by : side_in d o (stack d o) ≡ 0 = side-absent o (stack d o) (absent o o (omega arith)) in
        let l = (around-bound x).2 in
        let u = (around-bound x).3 in
        let a = has-below q o (stack d q) (good q) (side-has o (stack d q) n) in
        let b = until o q (rw k) (side-has o (stack d q) n) in
        let ne : o ≢ x = λ z. h (ap (side d o) (sym z) ∙ self o k) in
        let nc : x ≢ close d o = λ z. h (ap (side d o) z ∙ (closed-side (close d o) o s.0 ∙ (ap (λ y. side_in d o (stack d y)) s.1 ∙ gone-by))) in
        and_intro (lt-ltb o x (omega arith)) (lt-ltb x (close d o) (omega arith))

    -- Y around o, o around a row: the row is in o's branch of Y
    nest_as : (o Y q : ℕ) (fs : List Frame) → Good q fs → has o fs ≡ true → has Y (stack d o) ≡ true → side_in d Y fs ≡ side_in d Y (stack d o)
    unfolding has side_in
    nest_as o Y q [] g h y = clash h refl
    nest_as o Y q (f ∷ fs) g h y = or_split (only o f.opened) (has o fs) h
        (λ e. let z : f.opened ≡ o = eqb-true f.opened o e in
        let l = has-below o Y (stack d o) (good o) y in
        rw (ne_eqb f.opened Y (λ w. let v : o ≡ Y = sym z ∙ w in absurd (omega arith)), g.0.tail, z))
        (λ n e. let l = has-below o Y (stack d o) (good o) y in
        let m = has-below f.opened o fs g.1 e in
        rw (ne_eqb f.opened Y (λ w. absurd (omega arith))) (nest_as o Y f.opened fs g.1 e y))

    nest : (o x Y : ℕ) → side d o x ≢ 0 → side d Y o ≢ 0 → side d Y x ≡ side d Y o
    nest o x Y h y = let q = (around-bound x).0 in
        let n : side_in d o (stack d q) ≢ 0 = λ z. h (side-at x o ∙ z) in
        let k = side-fork o (stack d q) n in
        let so = side-open o Y (rw k) in
        side-at x Y ∙ (nest_as o Y q (stack d q) (good q) (side-has o (stack d q) n) (side-has Y (stack d o) (λ z. y (so ∙ z))) ∙ sym so)

    -- the innermost LP that is open, and the innermost box whose scenario a row is in
    loop_as : (fs : List Frame) → some_open d lp_open fs ≡ true → (kind d (innermost d lp_open fs) ≡ lp_open) × (has (innermost d lp_open fs) fs ≡ true)
    unfolding has
    loop_as [] h = clash h refl
    loop_as (f ∷ fs) h = decide (is_kind d lp_open f.opened)
        (λ e. let i : innermost d lp_open (f ∷ fs) ≡ f.opened = rw e refl in
        subst (λ o. (kind d o ≡ lp_open) × (has o (f ∷ fs) ≡ true)) (sym i) (same-eq (kind d f.opened) lp_open e, or_left (has f.opened fs) (only-refl f.opened)))
        (λ e. let w = loop_as fs (rw e at h) in let i : innermost d lp_open (f ∷ fs) ≡ innermost d lp_open fs = rw e refl in
        subst (λ o. (kind d o ≡ lp_open) × (has o (f ∷ fs) ≡ true)) (sym i) (w.0, or_right (only (innermost d lp_open fs) f.opened) w.1))

    -- how many BRANCH rows o has so far, where it is open; behind its first BRANCH, never none
    unfoldable tally : ℕ → List Frame → ℕ
    tally o [] = 1
    tally o (f ∷ fs) = cond (only o f.opened) f.branches (tally o fs)

    tally-gone : (o : ℕ) (fs : List Frame) → has o fs ≡ false → tally o fs ≡ 1
    unfolding has tally
    tally-gone o [] h = refl
    tally-gone o (f ∷ fs) h = rw (or-false-left (only o f.opened) (has o fs) h) (tally-gone o fs (or-false-right (only o f.opened) (has o fs) h))

    tally_as : (p : Role) (o q : ℕ) (fs : List Frame) → Good q fs → o ≢ q → tally o fs ≢ 0 → tally o (passing p q fs) ≢ 0
    unfolding tally
    tally_as opening o q fs g n h = rw (ne_eqb q o (λ e. n (sym e))) h
    tally_as turning o q [] g n h = h
    tally_as turning o q (f ∷ fs) g n h = decide (only o f.opened) (λ e. rw e (λ z. absurd (omega arith))) (λ e. rw e (rw e at h))
    tally_as closing o q [] g n h = h
    tally_as closing o q (f ∷ fs) g n h = decide (only o f.opened)
        (λ e z. let w = tally-gone o fs (decide (has o fs) (λ y. let b = has-below f.opened o fs g.1 y in let c = eqb-true f.opened o e in absurd (omega arith)) (λ y. y)) in absurd (omega arith))
        (λ e. rw e at h)
    tally_as staying o q fs g n h = h

    tallied : (o b n : ℕ) → branch_of d o b ≡ true → tally o (stack d (suc b + n)) ≢ 0
    unfolding stack
    tallied o b zero h = let w = branch_of-split o b h in rw (add-zero, (branched b w.0).after) (unfold tally in rw (w.1, only-refl o) (λ z. absurd (omega arith)))
    tallied o b (suc n) h = let w = branch_of-split o b h in let l = (branched b w.0).earlier in
        rw add-suc (tally_as (role (kind d (suc b + n))) o (suc b + n) (stack d (suc b + n)) (good (suc b + n)) (λ z. let y = w.1 in absurd (omega arith)) (tallied o b n h))

    box_as : (q : ℕ) (fs : List Frame) → Good q fs → some_scenario d fs ≡ true
        → (kind d (innermost_scenario d fs) ≡ box_open) × (tally (innermost_scenario d fs) fs ≡ 0) × (has (innermost_scenario d fs) fs ≡ true)
    unfolding has tally
    box_as q [] g h = clash h refl
    box_as q (f ∷ fs) g h = decide (in_scenario d f)
        (λ e. let i : innermost_scenario d (f ∷ fs) ≡ f.opened = rw e refl in
        subst (λ o. (kind d o ≡ box_open) × (tally o (f ∷ fs) ≡ 0) × (has o (f ∷ fs) ≡ true)) (sym i)
        (rw (only-refl f.opened) (same-eq (kind d f.opened) box_open (and_left (is_kind d box_open f.opened) _ e), eqb-true f.branches 0 (and_right (is_kind d box_open f.opened) _ e), refl)))
        (λ e. let w = box_as f.opened fs g.1 (rw e at h) in let l = has-below f.opened (innermost_scenario d fs) fs g.1 w.2 in
        let i : innermost_scenario d (f ∷ fs) ≡ innermost_scenario d fs = rw e refl in
        subst (λ o. (kind d o ≡ box_open) × (tally o (f ∷ fs) ≡ 0) × (has o (f ∷ fs) ≡ true)) (sym i)
        (rw (ne_eqb f.opened (innermost_scenario d fs) (λ z. absurd (omega arith))) (w.0, w.1, w.2)))

    -- o, no AND, is around a row: an AND around the row is around o, or in it
    left_as : (o Y q : ℕ) (fs : List Frame) → Good q fs → is_kind d and_open o ≡ false → has o fs ≡ true
        → (side_in d Y fs ≡ side_in d Y (stack d o)) ⊎ (has o (stack d Y) ≡ true)
    unfolding has side_in
    left_as o Y q [] g n h = clash h refl
    left_as o Y q (f ∷ fs) g n h = or_split (only o f.opened) (has o fs) h
        (λ e. let z = eqb-true f.opened o e in
        inl (subst (λ gs. side_in d Y (f ∷ gs) ≡ side_in d Y (stack d o)) (sym g.0.tail) (subst (λ x. side_in d Y (f ∷ stack d x) ≡ side_in d Y (stack d o)) (sym z)
        (subst (λ x. side_in d Y (record { opened = x; latest = f.latest; branches = f.branches } ∷ stack d o) ≡ side_in d Y (stack d o)) (sym z) (drop-frame Y o f.latest f.branches n)))))
        (λ x e. decide (only Y f.opened)
        (λ y. inr (rw (← eqb-true f.opened Y y, ← g.0.tail) e))
        (λ y. rw y (left_as o Y f.opened fs g.1 n e)))

    has-trans : (X Y q : ℕ) (fs : List Frame) → Good q fs → has Y fs ≡ true → has X (stack d Y) ≡ true → has X fs ≡ true
    unfolding has
    has-trans X Y q [] g y x = y
    has-trans X Y q (f ∷ fs) g y x = or_right (only X f.opened) (or_split (only Y f.opened) (has Y fs) y
        (λ e. rw (g.0.tail, eqb-true f.opened Y e) x)
        (λ n e. has-trans X Y f.opened fs g.1 e x))

    -- a row r in o, before a row e that belongs to o itself, leaves the rows from o to before e: an AND that is around r and around another row is around o
    leaving : (o e r x Y : ℕ) → is_kind d and_open o ≡ false → Top e → owner d e ≡ o → r ≤ e → opens d r ≡ false → stack d (suc r) ≡ stack d r → has o (stack d r) ≡ true
        → (leb o x && ltb x e) ≡ false → side d Y r ≢ 0 → side d Y x ≢ 0 → side d Y r ≡ side d Y o
    leaving o e r x Y n t w l p s h out y z = still r Y p s ∙ go (left_as o Y r (stack d r) (good r) n h)
      where
        q : ℕ
        q = (around-bound x).0

        there : has Y (stack d q) ≡ true
        there = side-has Y (stack d q) (λ v. z (side-at x Y ∙ v))

        here : has Y (stack d r) ≡ true
        here = side-has Y (stack d r) (λ v. y (still r Y p s ∙ v))

        -- what is open in o at r is not open at e any more
        shut_by : has o (stack d Y) ≡ true → has Y (stack d e) ≡ false
        shut_by v = let a = has-below Y o (stack d Y) (good Y) v in
            subst (λ fs. has Y fs ≡ false) (sym (top-stack e t)) (unfold has in or-neither (ne_eqb (owner d e) Y (λ c. absurd (omega arith))) (subst (λ f. has Y (stack d f) ≡ false) (sym w) (absent o Y (omega arith))))

        go : (side_in d Y (stack d r) ≡ side_in d Y (stack d o)) ⊎ (has o (stack d Y) ≡ true) → side_in d Y (stack d r) ≡ side d Y o
        go (inl v) = v ∙ sym (around-own)
          where
            around-own : side d Y o ≡ side_in d Y (stack d o)
            around-own = side-open o Y (subst (λ f. opens d f ≡ true) (sym (owner-top e t) ∙ w) t.ok.opener)
        go (inr v) =
            let a = has-below Y o (stack d Y) (good Y) v in
            let b = has-below r Y (stack d r) (good r) here in
            let c = has-below q Y (stack d q) (good q) there in
            let i : x ≤ q = (around-bound x).2 in
            let j : q ≤ suc x = (around-bound x).3 in
            decide (ltb x e)
            (λ f. clash (and_intro (le-leb o x (omega arith)) f) out)
            (λ f. let k = ltb-false x e f in let m : e + (q - e) ≡ q = omega arith in
            clash there (rw m at (gone Y e (q - e) (shut_by v) (omega arith))))

    -- loops
    le-loop : (r : ℕ) → kind d r ≡ loop_exit → (kind d (loop d r) ≡ lp_open) × (has (loop d r) (stack d r) ≡ true)
    unfolding loop
    le-loop r k = loop_as (stack d r) (ruled r loop_exit k refl)

    pub looped : (r : ℕ) → kind d r ≡ loop_exit → (kind d (loop d r) ≡ lp_open) × (in_loop d r r ≡ true)
    looped r k = let w = le-loop r k in
        let a : loop d r < r = has-below r (loop d r) (stack d r) (good r) w.1 in
        let b = until (loop d r) r (rw w.0) w.1 in
        (w.0, and_intro (le-leb (loop d r) r (omega arith)) (le-leb r (close d (loop d r)) b))

    exit : (r x Y : ℕ) → kind d r ≡ loop_exit → in_loop d r x ≡ false → side d Y r ≢ 0 → side d Y x ≢ 0 → side d Y r ≡ side d Y (loop d r)
    unfolding stack
    exit r x Y k out = let w = le-loop r k in let s = shut (loop d r) (rw w.0) in
        leaving (loop d r) (close d (loop d r)) r x Y (rw w.0) (shutting (close d (loop d r)) s.0).top s.1 (until (loop d r) r (rw w.0) w.1) (not-open r k refl) (rw k) w.1 (before out)
      where
        before : in_loop d r x ≡ false → (leb (loop d r) x && ltb x (close d (loop d r))) ≡ false
        before h = decide (leb (loop d r) x)
            (λ e. let l = leb-false x (close d (loop d r)) (rw e at h) in rw (e, le-ltb x (close d (loop d r)) (omega arith)))
            (λ e. rw e)

    -- boxes
    exit-box : (r : ℕ) → kind d r ≡ box_exit → (kind d (box d r) ≡ box_open) × (tally (box d r) (stack d r) ≡ 0) × (has (box d r) (stack d r) ≡ true)
    unfolding box
    exit-box r k = box_as r (stack d r) (good r) (ruled r box_exit k refl)

    pub exit-of-box : (r : ℕ) → kind d r ≡ box_exit → kind d (box d r) ≡ box_open
    exit-of-box r k = (exit-box r k).0

    -- where each EXIT has its outlet
    module _ (outs : (r : ℕ) → kind d r ≡ box_exit → leads d r (outlet d r) ≡ true) where
      led : (r : ℕ) → kind d r ≡ box_exit → (kind d (box d r) ≡ box_open) × (branch_of d (box d r) (outlet d r) ≡ true)
      unfolding leads
      led r k = ((exit-box r k).0, and_left (branch_of d (box d r) (outlet d r)) _ (and_right (is_kind d box_exit r) _ (outs r k)))

      -- the first outlet's BRANCH: the EXIT stands before it
      first-outlet : (r : ℕ) → kind d r ≡ box_exit → branch_of d (box d r) (first_outlet d (box d r)) ≡ true
      unfolding first_outlet
      first-outlet r k = let b = (led r k).1 in
          (least-found (row_count d) (branch_of d (box d r)) (outlet d r) (kind-in d (outlet d r) (not-kind d (outlet d r) (branch_of-split (box d r) (outlet d r) b).0 end refl)) b).0

      boxed : (r : ℕ) → kind d r ≡ box_exit → scenario d (box d r) r ≡ true
      boxed r k = and_intro (le-leb (box d r) r (let l = has-below r (box d r) (stack d r) (good r) w.2 in omega arith))
          (decide (ltb r e) (λ z. z) (λ z. absurd (late (ltb-false r e z))))
        where
          e : ℕ
          e = first_outlet d (box d r)

          w : (kind d (box d r) ≡ box_open) × (tally (box d r) (stack d r) ≡ 0) × (has (box d r) (stack d r) ≡ true)
          w = exit-box r k

          late : e ≤ r → ⊥
          late l =
              let f = first-outlet r k in
              let n : e ≢ r = λ z. not-kind d r k branch refl (subst (λ x. kind d x ≡ branch) z (branch_of-split (box d r) e f).0) in
              let m : suc e + (r - suc e) ≡ r = omega arith in
              tallied (box d r) e (r - suc e) f (rw m w.1)

      escape : (r x Y : ℕ) → kind d r ≡ box_exit → scenario d (box d r) x ≡ false → side d Y r ≢ 0 → side d Y x ≢ 0 → side d Y r ≡ side d Y (box d r)
      unfolding stack
      escape r x Y k out = let w = exit-box r k in let b = branch_of-split (box d r) (first_outlet d (box d r)) (first-outlet r k) in
          let l = ltb-true r (first_outlet d (box d r)) (and_right (leb (box d r) r) _ (boxed r k)) in
          leaving (box d r) (first_outlet d (box d r)) r x Y (rw w.0) (top (first_outlet d (box d r)) (forked (first_outlet d (box d r)) b.0)) b.1 (omega arith) (not-open r k refl) (rw k) w.2 out

      lawful : Laws d
      lawful = record {
        seq = seq;
        lands = lands;
        kin = kin;
        or_first = or_first;
        back = back;
        shut = shut;
        other_in = other_in;
        and_in = and_in;
        and_own = and_own;
        self = self;
        first = first;
        mine = mine;
        sided = sided;
        nest = nest;
        within = within;
        quiet = quiet;
        killer = killer;
        looped = looped;
        exit = exit;
        boxed = boxed;
        led = led;
        escape = escape;
      }

  pub laws : well_nested d ≡ true → Laws d
  laws acc = lawful (walk d acc) (leading d acc)
