-- Where an accepted diagram's rows lead: every row that a move enters is there, and a BRANCH stands between its open and its close.
use Prim.Native.Nat.{ℕ, zero, suc, ◌+◌, ◌-◌, ◌≤◌, ◌<◌}
use Rattle.std.specs.Prelude.{◌≡◌, ◌≢◌, ◌⊎◌, Bool, cond, ◌&&◌, ◌||◌, ltb, eqb, leb}
use Rattle.std.proofs.Math.Path.{refl, sym}
use Rattle.std.proofs.Common.{◌∙◌, ap, subst, add-zero, add-suc}
use Rattle.std.proofs.Math.Logic.{inl, inr}
use Rattle.std.proofs.Math.Bool.{true, false}
use mathlib.Core.List.{List, [], ◌∷◌}
use native.Mathlib.Omega.{arith}
use borrow.Author.Tests.{ltb-true, ltb-false, eqb-true, eqb-false, eq-eqb, ne_eqb, leb-true, lt-ltb}
use Rattle.effbd.specs.Ranges.{all_below, only, within}
use Rattle.effbd.specs.Diagrams.{Diagram, Kind, box_close, box_exit, box_open, function, and_open, branch, and_close, kills, or_open, or_close, it_open, it_close, lp_open, lp_close, loop_exit, end, row_count, kind, is_kind, same_kind}
use Rattle.effbd.specs.Frames.{Frame, Role, closing, innermost_open, is_closing, is_opening, opening, passing, pop, push, role, staying, turn_to, turning}
use Rattle.effbd.specs.Nesting.{box, first_outlet, killer_empty, outlet, stack, owner, branch_ended, is_close, close, branch_of, innermost_is, in_and_or}
use Rattle.effbd.specs.States.{ends_killer, entered, entered_as, entered_row, killed}
use Rattle.ranges.specs.Tests.{and_intro, decide, clash, and_left, and_right, not-true, or_left, or_split}
use Rattle.ranges.specs.RangeLaws.{least-found, only-refl}
use Rattle.agreement.specs.Basics.{kind-in, not-kind, same-eq, eq-same}
use Rattle.agreement.specs.Nested.{may_stand, walk, well_nested}
use Rattle.agreement.specs.Structure.{opens, Laws}
use Rattle.agreement.proofs.TokenSteps.{branch_in, branch-kind, branch-owner}
use Rattle.agreement.specs.NestingLaws.{Good, branched, good, has-below, laws, ruled, has, absent, gone, Top, shutting, top-by, owner-top, until}

module _ (d : Diagram) (acc : well_nested d ≡ true) where
  law : Laws d
  law = laws d acc

  ended : (ltb 0 (row_count d) && is_kind d end (row_count d - 1)) ≡ true
  ended = and_right (all_below (row_count d) (λ q. may_stand d (kind d q) q (stack d q))) _ (walk d acc)

  pub stands : (k : Kind) (q : ℕ) → kind d q ≡ k → same_kind k end ≡ false → may_stand d k q (stack d q) ≡ true
  stands k q = ruled d (walk d acc) q k

  -- the last row is END
  pub next-in : (q : ℕ) → kind d q ≢ end → suc q < row_count d
  next-in q n = let b = kind-in d q n in decide (eqb (suc q) (row_count d))
      (λ e. let z = eqb-true (suc q) (row_count d) e in let y : row_count d - 1 ≡ q = omega arith in
      absurd (n (ap (kind d) (sym y) ∙ same-eq (kind d (row_count d - 1)) end (and_right (ltb 0 (row_count d)) _ ended))))
      (λ e. let z = eqb-false (suc q) (row_count d) e in omega arith)

  shuts : (c : ℕ) → is_close d c ≡ true → kind d c ≢ end
  shuts c h z = clash h (ap (λ (k : Kind). is_closing (role k)) z)

  pub close-in : (o : ℕ) → opens d o ≡ true → suc (close d o) < row_count d
  close-in o h = next-in (close d o) (shuts (close d o) (law.shut o h).0)

  -- a BRANCH stands in a construct
  in-branch : (b : ℕ) → kind d b ≡ branch → Top d (walk d acc) b
  in-branch b e = top-by d (walk d acc) b (λ fs. in_and_or d fs || innermost_is d box_open fs) refl (and_left _ _ (stands branch b e refl))

  pub branch-opens : (b : ℕ) → kind d b ≡ branch → opens d (owner d b) ≡ true
  branch-opens b e = let w = in-branch b e in rw (owner-top d (walk d acc) b w) w.ok.opener

  -- behind its close a construct is open no more
  away : (m c : ℕ) → c < m → is_close d c ≡ true → has d (walk d acc) (owner d c) (stack d m) ≡ false
  away m c b h =
      let w = shutting d (walk d acc) c h in
      let x = w.earlier in
      let e : suc c + (m - suc c) ≡ m = omega arith in
      rw e at (gone d (walk d acc) (owner d c) (suc c) (m - suc c) (rw w.after (absent d (walk d acc) (owner d c) (owner d c) (omega arith))) (omega arith))

  -- a BRANCH of o stands behind o and before each close of o
  pub branch-behind : (o b : ℕ) → branch_of d o b ≡ true → o < b
  unfolding branch_of
  branch-behind o b h =
      let w = in-branch b (same-eq (kind d b) branch (and_left (is_kind d branch b) _ h)) in
      let e = eqb-true (owner d b) o (and_right (is_kind d branch b) _ h) in
      let x = w.ok.below in let y = owner-top d (walk d acc) b w in omega arith

  there : {o q : ℕ} (w : Top d (walk d acc) q) → w.frame.opened ≡ o → has d (walk d acc) o (stack d q) ≡ true
  unfolding has
  there {o} w e = rw (w.here, e) (or_left (has d (walk d acc) o w.rest) (only-refl o))

  pub branch-before : (o b c : ℕ) → branch_of d o b ≡ true → is_close d c ≡ true → owner d c ≡ o → b < c
  unfolding branch_of
  branch-before o b c h s e =
      let k = same-eq (kind d b) branch (and_left (is_kind d branch b) _ h) in
      let w = in-branch b k in
      let f : owner d b ≡ o = eqb-true (owner d b) o (and_right (is_kind d branch b) _ h) in
      decide (ltb b c) (λ y. ltb-true b c y)
      (λ y. let z = ltb-false b c y in decide (eqb b c)
      (λ i. absurd (clash (rw (← eqb-true b c i) at s) (rw k)))
      (λ i. let j = eqb-false b c i in
      clash (there w (sym (owner-top d (walk d acc) b w) ∙ (f ∙ sym e))) (away b c (omega arith) s)))

  -- the latest BRANCH of the construct that row o opens, among the frames that are open: a row leaves it or is the next one
  latest_of : ℕ → List Frame → ℕ
  latest_of o [] = 0
  latest_of o (f ∷ fs) = cond (only o f.opened) f.latest (latest_of o fs)

  latest-pushed : (o q : ℕ) (fs : List Frame) → Good d q fs → has d (walk d acc) o fs ≡ true → latest_of o (push q fs) ≡ latest_of o fs
  unfolding latest_of
  latest-pushed o q fs g h = let b = has-below d (walk d acc) q o fs g h in rw (ne_eqb q o (λ z. absurd (omega arith)))

  latest-turned : (o q : ℕ) (fs : List Frame) → has d (walk d acc) o fs ≡ true → (latest_of o (turn_to q fs) ≡ latest_of o fs) ⊎ (latest_of o (turn_to q fs) ≡ q)
  unfolding latest_of has
  latest-turned o q [] h = clash h refl
  latest-turned o q (f ∷ fs) h = decide (only o f.opened) (λ e. inr (rw e)) (λ e. inl (rw e))

  latest-popped : (o q : ℕ) (fs : List Frame) → Good d q fs → has d (walk d acc) o (pop fs) ≡ true → latest_of o (pop fs) ≡ latest_of o fs
  unfolding latest_of
  latest-popped o q [] g h = refl
  latest-popped o q (f ∷ fs) g h = decide (only o f.opened)
      (λ e. let z = eqb-true f.opened o e in clash h (rw g.0.tail (absent d (walk d acc) f.opened o (omega arith))))
      (λ e. rw e)

  latest-passed : (o q : ℕ) (p : Role) (fs : List Frame) → Good d q fs → has d (walk d acc) o fs ≡ true → has d (walk d acc) o (passing p q fs) ≡ true
      → (latest_of o (passing p q fs) ≡ latest_of o fs) ⊎ (latest_of o (passing p q fs) ≡ q)
  latest-passed o q opening fs g h i = inl (latest-pushed o q fs g h)
  latest-passed o q turning fs g h i = latest-turned o q fs h
  latest-passed o q closing fs g h i = inl (latest-popped o q fs g i)
  latest-passed o q staying fs g h i = inl refl

  -- behind a BRANCH of o, as long as o is open, the latest is that one or a later one
  latest-own : (o x : ℕ) → branch_of d o x ≡ true → latest_of o (stack d (suc x)) ≡ x
  unfolding branch_of stack latest_of
  latest-own o x b =
      let k = same-eq (kind d x) branch (and_left (is_kind d branch x) _ b) in
      let w = in-branch x k in
      let e : w.frame.opened ≡ o = sym (owner-top d (walk d acc) x w) ∙ eqb-true (owner d x) o (and_right (is_kind d branch x) _ b) in
      rw (k, w.here, e, only-refl o)

  latest-next : (o m : ℕ) → o < m → has d (walk d acc) o (stack d (suc m)) ≡ true
      → (has d (walk d acc) o (stack d m) ≡ true) × ((latest_of o (stack d (suc m)) ≡ latest_of o (stack d m)) ⊎ (latest_of o (stack d (suc m)) ≡ m))
  unfolding stack
  latest-next o m l h = (here, latest-passed o m (role (kind d m)) (stack d m) (good d (walk d acc) m) here h)
    where
      here : has d (walk d acc) o (stack d m) ≡ true
      here = decide (has d (walk d acc) o (stack d m)) (λ e. e) (λ e. let z : m + 1 ≡ suc m = omega arith in clash h (rw z at (gone d (walk d acc) o m 1 e l)))

  latest-behind : (o x n : ℕ) → branch_of d o x ≡ true → has d (walk d acc) o (stack d (suc x + n)) ≡ true → (x ≤ latest_of o (stack d (suc x + n))) × (latest_of o (stack d (suc x + n)) < suc x + n)
  latest-behind o x zero b h = let e = latest-own o x b in rw (add-zero (suc x)) (omega arith, omega arith)
  latest-behind o x (suc n) b h = rw (add-suc (suc x) n) (go (latest-behind o x n b next.0) next.1)
    where
      next : (has d (walk d acc) o (stack d (suc x + n)) ≡ true) × ((latest_of o (stack d (suc (suc x + n))) ≡ latest_of o (stack d (suc x + n))) ⊎ (latest_of o (stack d (suc (suc x + n))) ≡ suc x + n))
      next = latest-next o (suc x + n) (let w = branch-behind o x b in omega arith) (rw (add-suc (suc x) n) at h)

      go : (x ≤ latest_of o (stack d (suc x + n))) × (latest_of o (stack d (suc x + n)) < suc x + n)
          → (latest_of o (stack d (suc (suc x + n))) ≡ latest_of o (stack d (suc x + n))) ⊎ (latest_of o (stack d (suc (suc x + n))) ≡ suc x + n)
          → (x ≤ latest_of o (stack d (suc (suc x + n)))) × (latest_of o (stack d (suc (suc x + n))) < suc (suc x + n))
      go p (inl z) = let w = p.0 in let v = p.1 in (omega arith, omega arith)
      go p (inr z) = let w = p.0 in (omega arith, omega arith)

  -- so the branch that a BRANCH or close of o ends is the last one before it
  ended-last : (o x c : ℕ) → branch_of d o x ≡ true → x < c → Top d (walk d acc) c → owner d c ≡ o → (x ≤ branch_ended d c) × (branch_ended d c < c)
  unfolding latest_of
  ended-last o x c b l t e =
      let f : t.frame.opened ≡ o = sym (owner-top d (walk d acc) c t) ∙ e in
      let z : suc x + (c - suc x) ≡ c = omega arith in
      let w = rw z at (latest-behind o x (c - suc x) b (rw z (there t f))) in
      let same : branch_ended d c ≡ t.frame.latest = rw t.here in
      rw same (rw (t.here, f, only-refl o) at w)

  pub last-branch : (o x c : ℕ) → branch_of d o x ≡ true → is_close d c ≡ true → owner d c ≡ o → x ≤ branch_ended d c
  last-branch o x c b h e = (ended-last o x c b (branch-before o x c b h e) (shutting d (walk d acc) c h).top e).0

  pub next-branch : (o x b : ℕ) → branch_of d o x ≡ true → branch_of d o b ≡ true → x < b → (x ≤ branch_ended d b) × (branch_ended d b < b)
  unfolding branch_of
  next-branch o x b h i l = ended-last o x b h l (in-branch b (same-eq (kind d b) branch (and_left (is_kind d branch b) _ i))) (eqb-true (owner d b) o (and_right (is_kind d branch b) _ i))

  -- the row that entering q changes: q itself, the BRANCH row of the branch that it ends, or the close of its OR or box
  pub entered_by : (C : ℕ → Type 0) (q : ℕ) → C q → (Top d (walk d acc) q → kind d (owner d q) ≡ and_open → C (branch_ended d q))
      → (kind d q ≡ branch → kind d (owner d q) ≢ and_open → C (close d (owner d q))) → C (entered_row d q)
  unfolding entered_row
  entered_by C q own ends shut = go (kind d q) (is_kind d and_open (owner d q)) refl refl
    where
      go : (k : Kind) (x : Bool) → kind d q ≡ k → is_kind d and_open (owner d q) ≡ x → C (entered_as d k x q)
      go function x e h = own
      go and_open x e h = own
      go branch true e h = ends (in-branch q e) (same-eq (kind d (owner d q)) and_open h)
      go branch false e h = shut e (λ z. clash (eq-same (kind d (owner d q)) and_open z) h)
      go and_close x e h = ends (shutting d (walk d acc) q (rw e)).top (law.mine q e)
      go or_open x e h = own
      go or_close x e h = own
      go it_open x e h = own
      go it_close x e h = own
      go lp_open x e h = own
      go lp_close x e h = own
      go loop_exit x e h = own
      go end x e h = own
      go box_open x e h = own
      go box_close x e h = own
      go box_exit x e h = own

  -- of an AND's frame
  frame_and : {q : ℕ} (t : Top d (walk d acc) q) → kind d (owner d q) ≡ and_open → is_kind d and_open t.frame.opened ≡ true
  frame_and {q} t k = eq-same (kind d t.frame.opened) and_open (rw (owner-top d (walk d acc) q t) at k)

  -- a BRANCH or close of an AND ends a branch of that
  ended-own : (o c : ℕ) → kind d o ≡ and_open → Top d (walk d acc) c → owner d c ≡ o → branch_of d o (branch_ended d c) ≡ true
  unfolding branch_of
  ended-own o c k t e =
      let w = t.ok.sided (frame_and t (ap (kind d) e ∙ k)) in
      let f : owner d t.frame.latest ≡ o = w.1 ∙ (sym (owner-top d (walk d acc) c t) ∙ e) in
      rw t.here (and_intro (eq-same (kind d t.frame.latest) branch w.0) (eq-eqb (owner d t.frame.latest) o f))

  pub last-own : (o c : ℕ) → kind d o ≡ and_open → is_close d c ≡ true → owner d c ≡ o → branch_of d o (branch_ended d c) ≡ true
  last-own o c k h e = ended-own o c k (shutting d (walk d acc) c h).top e

  pub next-own : (o b : ℕ) → kind d o ≡ and_open → branch_of d o b ≡ true → branch_of d o (branch_ended d b) ≡ true
  unfolding branch_of
  next-own o b k h = ended-own o b k (in-branch b (same-eq (kind d b) branch (and_left (is_kind d branch b) _ h))) (eqb-true (owner d b) o (and_right (is_kind d branch b) _ h))

  -- entering q ends a branch that kills exactly where the row that it changes is the BRANCH of one
  pub ends-killer : (q : ℕ) → (is_kind d branch (entered_row d q) && kills d (entered_row d q)) ≡ ends_killer d q
  unfolding entered_row ends_killer
  ends-killer q = go (kind d q) (is_kind d and_open (owner d q)) refl refl
    where
      own : (k : Kind) → kind d q ≡ k → same_kind k branch ≡ false → (is_kind d branch q && kills d q) ≡ false
      own k e n = rw (e, n)

      latest : Top d (walk d acc) q → kind d (owner d q) ≡ and_open → (is_kind d branch (branch_ended d q) && kills d (branch_ended d q)) ≡ kills d (branch_ended d q)
      latest t k = rw (t.here, eq-same (kind d t.frame.latest) branch (t.ok.sided (frame_and t k)).0)

      shut : kind d q ≡ branch → (is_kind d branch (close d (owner d q)) && kills d (close d (owner d q))) ≡ false
      shut e = decide (is_kind d branch (close d (owner d q)))
          (λ z. clash (law.shut (owner d q) (branch-opens q e)).0 (rw (same-eq (kind d (close d (owner d q))) branch z)))
          (λ z. rw z)

      go : (k : Kind) (x : Bool) → kind d q ≡ k → is_kind d and_open (owner d q) ≡ x
          → (is_kind d branch (entered_as d k x q) && kills d (entered_as d k x q)) ≡ ((same_kind k branch || same_kind k and_close) && (x && kills d (branch_ended d q)))
      go function x e h = own function e refl
      go and_open x e h = own and_open e refl
      go branch true e h = latest (in-branch q e) (same-eq (kind d (owner d q)) and_open h)
      go branch false e h = shut e
      go and_close true e h = latest (shutting d (walk d acc) q (rw e)).top (same-eq (kind d (owner d q)) and_open h)
      go and_close false e h = clash (eq-same (kind d (owner d q)) and_open (law.mine q e)) h
      go or_open x e h = own or_open e refl
      go or_close x e h = own or_close e refl
      go it_open x e h = own it_open e refl
      go it_close x e h = own it_close e refl
      go lp_open x e h = own lp_open e refl
      go lp_close x e h = own lp_close e refl
      go loop_exit x e h = own loop_exit e refl
      go end x e h = own end e refl
      go box_open x e h = own box_open e refl
      go box_close x e h = own box_close e refl
      go box_exit x e h = own box_exit e refl

  pub entered-in : (q : ℕ) → q < row_count d → entered_row d q < row_count d
  entered-in q b = entered_by (λ x. x < row_count d) q b
      (λ t k. let w = (t.ok.sided (frame_and t k)).3 in rw t.here (omega arith))
      (λ e n. let z = close-in (owner d q) (branch-opens q e) in omega arith)

  -- behind a construct the same is open as before it; the row that entering what follows it changes stands outside
  pub behind : (o : ℕ) → opens d o ≡ true → stack d (suc (close d o)) ≡ stack d o
  behind o h = let s = law.shut o h in (shutting d (walk d acc) (close d o) s.0).after ∙ ap (stack d) s.1

  top-there : {q : ℕ} (t : Top d (walk d acc) q) → has d (walk d acc) (owner d q) (stack d q) ≡ true
  top-there {q} t = there t (sym (owner-top d (walk d acc) q t))

  pub beyond : (o : ℕ) → opens d o ≡ true → (entered_row d (suc (close d o)) < o) ⊎ (close d o < entered_row d (suc (close d o)))
  beyond o h = entered_by (λ x. (x < o) ⊎ (close d o < x)) (suc (close d o)) (inr (omega arith))
      (λ t k. let w = (subst (Good d o) (sym (behind o h) ∙ t.here) (good d (walk d acc) o)).0.sided (frame_and t k) in
      let l = w.3 in
      let n : t.frame.latest ≢ o = λ z. clash h (ap (λ (j : Kind). is_opening (role j)) (ap (kind d) (sym z) ∙ w.0)) in
      inl (rw t.here (omega arith)))
      (λ e n. let u = until d (walk d acc) (owner d (suc (close d o))) (suc (close d o)) (branch-opens (suc (close d o)) e) (top-there (in-branch (suc (close d o)) e)) in inr (omega arith))

  -- an EXIT's outlet: the row that it makes ready is not in the scenario
  pub outside : (r : ℕ) → kind d r ≡ box_exit → first_outlet d (box d r) ≤ entered_row d (suc (outlet d r))
  unfolding owner first_outlet
  outside r k = entered_by (λ x. first_outlet d (box d r) ≤ x) (suc b) (let l = low in omega arith)
      (λ t z. absurd (not-kind d (owner d b) (ap (kind d) own ∙ (law.led r k).0) and_open refl (rw (branched d (walk d acc) b kb).after at z)))
      (λ e n. let u = until d (walk d acc) (owner d (suc b)) (suc b) (branch-opens (suc b) e) (top-there (in-branch (suc b) e)) in let l = low in omega arith)
    where
      b : ℕ
      b = outlet d r

      kb : kind d b ≡ branch
      kb = branch-kind d (box d r) b (law.led r k).1

      own : owner d b ≡ box d r
      own = branch-owner d (box d r) b (law.led r k).1

      low : first_outlet d (box d r) ≤ b
      low = (least-found (row_count d) (branch_of d (box d r)) b (branch_in d (box d r) b (law.led r k).1) (law.led r k).1).1

  -- and every row that it makes active or clears is there
  pub active-in : (q x : ℕ) → q < row_count d → entered d q x ≡ true → x < row_count d
  unfolding entered
  active-in q x b h = decide (ends_killer d q)
      (λ e. branch_in d (owner d q) x (rw e at h))
      (λ e. let z = eqb-true x (entered_row d q) (rw e at h) in let y = entered-in q b in omega arith)

  pub killed-in : (q x : ℕ) → killed d q x ≡ true → x < row_count d
  unfolding killed
  killed-in q x h =
      let k = (law.killer q (and_left (ends_killer d q) _ h)).0 in
      let c = close-in (owner d q) (rw k) in
      let l = ltb-true x (close d (owner d q)) (and_right (ltb (owner d q) x) _ (and_right (ends_killer d q) _ h)) in omega arith

  -- entering row 0 ends no branch
  pub quiet-start : ends_killer d 0 ≡ false
  unfolding ends_killer owner stack
  quiet-start = decide (ends_killer d 0)
      (λ e. let k : kind d 0 ≡ and_open = (law.killer 0 e).0 in clash (and_left (is_kind d branch 0 || is_kind d and_close 0) _ e) (rw k))
      (λ e. e)

  -- a branch that kills is not empty: entering the row behind a BRANCH ends none
  pub behind-branch : (b : ℕ) → kind d b ≡ branch → ends_killer d (suc b) ≡ false
  unfolding ends_killer killer_empty owner
  behind-branch b e = decide (ends_killer d (suc b)) (λ h. go (rw (branched d (walk d acc) b e).after at h)) (λ h. h)
    where
      go : ((is_kind d branch (suc b) || is_kind d and_close (suc b)) && (is_kind d and_open (owner d b) && kills d b)) ≡ true → ends_killer d (suc b) ≡ false
      go h = clash (and_intro (eq-same (kind d b) branch e) (and_intro (and_right (is_kind d and_open (owner d b)) _ (and_right (is_kind d branch (suc b) || is_kind d and_close (suc b)) _ h))
          (and_left (is_kind d branch (suc b) || is_kind d and_close (suc b)) _ h)))
          (not-true (killer_empty d b) (and_right (in_and_or d (stack d b) || innermost_is d box_open (stack d b)) _ (stands branch b e refl)))

  -- the AND of a branch that kills is open where that ends, and not the construct that closes there
  killer-there : (q : ℕ) → ends_killer d q ≡ true → has d (walk d acc) (owner d q) (stack d q) ≡ true
  unfolding ends_killer
  killer-there q k = top-there (or_split (is_kind d branch q) (is_kind d and_close q) (and_left (is_kind d branch q || is_kind d and_close q) _ k)
      (λ e. in-branch q (same-eq (kind d q) branch e)) (λ n e. (shutting d (walk d acc) q (rw (same-eq (kind d q) and_close e))).top))

  pub killer-around : (c : ℕ) → is_close d c ≡ true → ends_killer d (suc c) ≡ true → owner d (suc c) ≢ owner d c
  killer-around c h k z = clash (killer-there (suc c) k) (rw z (away (suc c) c (omega arith) h))

  -- where the row behind a construct ends a branch that kills, the construct's rows are among those that are killed
  pub covered : (o x : ℕ) → opens d o ≡ true → ends_killer d (suc (close d o)) ≡ true → within o (close d o) x ≡ true → killed d (suc (close d o)) x ≡ true
  unfolding killed ends_killer
  covered o x h k w =
      let a = has-below d (walk d acc) o A (stack d o) (good d (walk d acc) o) (rw (behind o h) at here) in
      let b = until d (walk d acc) A q (rw (law.killer q k).0) here in
      let l = leb-true o x (and_left (leb o x) _ w) in
      let m = leb-true x (close d o) (and_right (leb o x) _ w) in
      and_intro k (and_intro (lt-ltb A x (omega arith)) (lt-ltb x (close d A) (omega arith)))
    where
      q : ℕ
      q = suc (close d o)

      A : ℕ
      A = owner d q

      here : has d (walk d acc) A (stack d q) ≡ true
      here = killer-there q k

  -- an IT close or LP close makes its open ready, which is entering it
  innermost-owner : (k : Kind) (fs : List Frame) → innermost_is d k fs ≡ true → kind d (innermost_open fs) ≡ k
  innermost-owner k [] h = clash h refl
  innermost-owner k (f ∷ fs) h = same-eq (kind d f.opened) k h

  pub opened-by : (k j : Kind) (q : ℕ) → kind d q ≡ k → same_kind k end ≡ false → may_stand d k q (stack d q) ≡ innermost_is d j (stack d q) → kind d (owner d q) ≡ j
  unfolding owner
  opened-by k j q e n m = innermost-owner j (stack d q) (sym m ∙ stands k q e n)

  -- the close of an AND open is an AND close
  pub and-closed : (o : ℕ) → kind d o ≡ and_open → kind d (close d o) ≡ and_close
  and-closed o k = let shut = law.shut o (rw k) in among (close d o) shut.0 (rw shut.1 k)
    where
      other : {C : Type 0} (c : ℕ) (k j : Kind) → kind d c ≡ k → same_kind k end ≡ false → may_stand d k c (stack d c) ≡ innermost_is d j (stack d c)
          → kind d (owner d c) ≡ and_open → same_kind and_open j ≡ false → C
      other c k j e n w m f = clash (ap (same_kind and_open) (sym (opened-by k j c e n w) ∙ m)) f

      among : (c : ℕ) → is_close d c ≡ true → kind d (owner d c) ≡ and_open → kind d c ≡ and_close
      among c y m = go (kind d c) refl y
        where
          go : (k : Kind) → kind d c ≡ k → is_closing (role k) ≡ true → kind d c ≡ and_close
          go function e z = clash z refl
          go and_open e z = clash z refl
          go branch e z = clash z refl
          go and_close e z = e
          go or_open e z = clash z refl
          go or_close e z = other c or_close or_open e refl refl m refl
          go it_open e z = clash z refl
          go it_close e z = other c it_close it_open e refl refl m refl
          go lp_open e z = clash z refl
          go lp_close e z = other c lp_close lp_open e refl refl m refl
          go loop_exit e z = clash z refl
          go end e z = clash z refl
          go box_open e z = clash z refl
          go box_close e z = other c box_close box_open e refl refl m refl
          go box_exit e z = clash z refl
