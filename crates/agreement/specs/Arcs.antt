-- The arcs of weights and of clears: what they weigh and clear at each place, and that a net file can hold them.
use Prim.Native.Nat.{ℕ, zero, suc, ◌+◌, ◌≤◌, ◌<◌, zero-le}
use Rattle.std.specs.Prelude.{◌≡◌, ◌≢◌, Bool, cond, ◌&&◌, ◌||◌, leb, ltb, eqb}
use Rattle.std.proofs.Math.Path.{refl}
use Rattle.std.proofs.Common.{sym, ◌∙◌, ap, subst, arith}
use Rattle.std.proofs.Math.Bool.{true, false}
use mathlib.Core.List.{List, [], ◌∷◌, ◌++◌, append_assoc}
use borrow.Author.Tests.{ltb-true, ltb-false, leb-true, leb-false, eqb-true, eqb-false, lt-ltb, le-ltb, le-leb, lt-leb, eq-eqb, ne_eqb}
use Rattle.effbd.specs.Ranges.{only, within}
use Rattle.effbd.specs.Nets.{Arc, arc_due, arc_fine, above}
use Rattle.effbd.specs.Firing.{weight_at, cleared_at}
use Rattle.effbd.specs.Patterns.{arcs_of, clear_range, join_range, ranges_from}
use Rattle.ranges.specs.Tests.{decide, and_intro, and_left, and_right}
use Rattle.ranges.specs.RangeLaws.{only-refl}
use Rattle.agreement.specs.Formed.{fits_word, arcs_fine}

pub weight-append : (k : ℕ) (a b : List Arc) (p : ℕ) → weight_at k (a ++ b) p ≡ weight_at k a p + weight_at k b p
unfolding weight_at
weight-append k [] b p = omega arith
weight-append k (x ∷ xs) b p = rw (weight-append k xs b p) (omega arith)

pub cleared-append : (a b : List Arc) (p : ℕ) → cleared_at (a ++ b) p ≡ (cleared_at a p || cleared_at b p)
unfolding cleared_at
cleared-append [] b p = refl
cleared-append (x ∷ xs) b p = rw (cleared-append xs b p) (assoc (eqb x.kind 36 && within x.first x.second p) (cleared_at xs p) (cleared_at b p))
  where
    assoc : (a b c : Bool) → (a || (b || c)) ≡ ((a || b) || c)
    assoc true b c = refl
    assoc false b c = refl

-- the arcs of a weight at each place
module _ (k : ℕ) (w : ℕ → ℕ) where
  -- the arc of place n, if it weighs something
  last_arc : ℕ → List Arc
  last_arc n = cond (eqb (w n) 0) [] (record { kind = k; first = n; second = w n } ∷ [])

  weight-all : (n p : ℕ) → weight_at k (arcs_of k n w) p ≡ cond (ltb p n) (w p) 0
  unfolding arcs_of weight_at last_arc
  weight-all zero p = rw (le-ltb p 0 (omega arith))
  weight-all (suc n) p = weight-append k (arcs_of k n w) (last_arc n) p ∙ (rw (weight-all n p) (decide (eqb n p)
      (λ e. let z = eqb-true n p e in rw (← z, le-ltb n n (omega arith), lt-ltb n (suc n) (omega arith)) own)
      (λ e. let ne = eqb-false n p e in decide (ltb p n)
      (λ f. let l = ltb-true p n f in rw (f, lt-ltb p (suc n) (omega arith), other e) (omega arith))
      (λ f. let l = ltb-false p n f in rw (f, le-ltb p (suc n) (omega arith), other e)))))
    where
      own : 0 + weight_at k (last_arc n) n ≡ w n
      own = decide (eqb (w n) 0) (λ e. rw e (sym (eqb-true (w n) 0 e))) (λ e. rw (e, eq-eqb k k refl, only-refl n) (omega arith))

      other : eqb n p ≡ false → weight_at k (last_arc n) p ≡ 0
      other f = decide (eqb (w n) 0) (λ e. rw e) (λ e. rw (e, eq-eqb k k refl, f))

  pub weight-own : (n p : ℕ) → p < n → weight_at k (arcs_of k n w) p ≡ w p
  weight-own n p l = weight-all n p ∙ rw (lt-ltb p n l)

  pub weight-other : (j : ℕ) → eqb k j ≡ false → (n p : ℕ) → weight_at j (arcs_of k n w) p ≡ 0
  unfolding arcs_of weight_at last_arc
  weight-other j e zero p = refl
  weight-other j e (suc n) p = weight-append j (arcs_of k n w) (last_arc n) p
      ∙ rw (weight-other j e n p) (decide (eqb (w n) 0) (λ z. rw z) (λ z. rw (z, e)))

  pub cleared-none : eqb k 36 ≡ false → (n p : ℕ) → cleared_at (arcs_of k n w) p ≡ false
  unfolding arcs_of cleared_at last_arc
  cleared-none e zero p = refl
  cleared-none e (suc n) p = cleared-append (arcs_of k n w) (last_arc n) p
      ∙ rw (cleared-none e n p) (decide (eqb (w n) 0) (λ z. rw z) (λ z. rw (z, e)))

-- the ranges of a test: each is one clear
abbrev Clears : List Arc → Type 0
Clears [] = Unit {0}
Clears (x ∷ xs) = (x.kind ≡ 36) × (x.first ≤ x.second)

module _ (f : ℕ → Bool) where
  join-clears : (p : ℕ) (l : List Arc) → Clears l → Clears (join_range p l)
  join-clears p [] c = (refl, omega arith)
  join-clears p (x ∷ xs) c = decide (eqb x.first (suc p))
      (λ e. let z = eqb-true x.first (suc p) e in let l = c.1 in rw e (refl, omega arith))
      (λ e. rw e (refl, omega arith))

  ranges-clear : (n p : ℕ) → Clears (ranges_from n p f)
  unfolding ranges_from
  ranges-clear zero p = tt
  ranges-clear (suc n) p = decide (f p) (λ e. rw e (join-clears p (ranges_from n (suc p) f) (ranges-clear n (suc p)))) (λ e. rw e (ranges-clear n (suc p)))

  join-weight : (k : ℕ) → eqb 36 k ≡ false → (p q : ℕ) (l : List Arc) → weight_at k l q ≡ 0 → weight_at k (join_range p l) q ≡ 0
  unfolding weight_at
  join-weight k e p q [] h = rw e
  join-weight k e p q (x ∷ xs) h = decide (eqb x.first (suc p)) (λ z. rw (z, e) (omega arith)) (λ z. rw (z, e) (omega arith))

  pub weight-clear : (k : ℕ) → eqb 36 k ≡ false → (n p q : ℕ) → weight_at k (ranges_from n p f) q ≡ 0
  unfolding ranges_from
  weight-clear k e zero p q = unfold weight_at in refl
  weight-clear k e (suc n) p q = decide (f p)
      (λ z. rw z (join-weight k e p q (ranges_from n (suc p) f) (weight-clear k e n (suc p) q)))
      (λ z. rw z (weight-clear k e n (suc p) q))

  one_more : (p b q : ℕ) → p ≤ b → within p b q ≡ (only p q || within (suc p) b q)
  one_more p b q l = decide (eqb q p)
      (λ e. let z = eqb-true q p e in rw (e, le-leb p q (omega arith), le-leb q b (omega arith)))
      (λ e. let z = eqb-false q p e in rw e (decide (leb p q)
      (λ h. let y = leb-true p q h in rw (h, le-leb (suc p) q (omega arith)))
      (λ h. let y = leb-false p q h in rw (h, lt-leb (suc p) q (omega arith)))))

  within-one : (p q : ℕ) → within p p q ≡ only p q
  within-one p q = decide (eqb q p)
      (λ e. let z = eqb-true q p e in rw (e, le-leb p q (omega arith), le-leb q p (omega arith)))
      (λ e. let z = eqb-false q p e in rw e (decide (leb p q)
      (λ h. let y = leb-true p q h in rw (h, lt-leb q p (omega arith)))
      (λ h. rw h)))

  join-cleared : (p q : ℕ) (l : List Arc) → Clears l → cleared_at (join_range p l) q ≡ (only p q || cleared_at l q)
  unfolding cleared_at
  join-cleared p q [] c = rw (within-one p q)
  join-cleared p q (x ∷ xs) c = decide (eqb x.first (suc p))
      (λ e. let z = eqb-true x.first (suc p) e in let l = c.1 in
      rw (e, c.0, z, one_more p x.second q (omega arith)) (assoc (only p q) (within (suc p) x.second q) (cleared_at xs q)))
      (λ e. rw (e, within-one p q))
    where
      assoc : (a b c : Bool) → ((a || b) || c) ≡ (a || (b || c))
      assoc true b c = refl
      assoc false b c = refl

  cleared-all : (n p q : ℕ) → cleared_at (ranges_from n p f) q ≡ (leb p q && (ltb q (p + n) && f q))
  unfolding ranges_from
  cleared-all zero p q = unfold cleared_at in (decide (leb p q)
      (λ e. let l = leb-true p q e in rw (e, le-ltb q (p + 0) (omega arith)))
      (λ e. rw e))
  cleared-all (suc n) p q = decide (f p)
      (λ e. rw e (join-cleared p q (ranges_from n (suc p) f) (ranges-clear n (suc p)) ∙ rw (cleared-all n (suc p) q) (decide (eqb q p)
      (λ z. let y = eqb-true q p z in rw (z, y, le-leb p p (omega arith), lt-ltb p (p + suc n) (omega arith), e))
      (λ z. rw z (elsewhere z)))))
      (λ e. rw (e, cleared-all n (suc p) q) (decide (eqb q p)
      (λ z. let y = eqb-true q p z in rw (y, lt-leb (suc p) p (omega arith), e) (sym (off (leb p p) (ltb p (p + suc n)))))
      (λ z. elsewhere z)))
    where
      off : (a b : Bool) → (a && (b && false)) ≡ false
      off true true = refl
      off true false = refl
      off false b = refl

      elsewhere : eqb q p ≡ false → (leb (suc p) q && (ltb q (suc p + n) && f q)) ≡ (leb p q && (ltb q (p + suc n) && f q))
      elsewhere z = let ne = eqb-false q p z in decide (leb p q)
          (λ e. let l = leb-true p q e in rw (e, le-leb (suc p) q (omega arith), same))
          (λ e. let l = leb-false p q e in rw (e, lt-leb (suc p) q (omega arith)))
        where
          same : ltb q (suc p + n) ≡ ltb q (p + suc n)
          same = ap (ltb q) (let y : suc p + n ≡ p + suc n = omega arith in y)

  pub cleared-own : (n q : ℕ) → q < n → cleared_at (ranges_from n 0 f) q ≡ f q
  cleared-own n q l = cleared-all n 0 q ∙ rw (le-leb 0 q zero-le, lt-ltb q (0 + n) (omega arith))

-- a net file of N places can hold them
module _ (N : ℕ) where
  pub record Parts (k from : ℕ) (x : Arc) (xs : List Arc) : Type 0 where
    pub due : arc_due k x.kind ≡ true
    pub fine : arc_fine N k from x ≡ true
    pub fits : fits_word x.second ≡ true
    pub rest : arcs_fine N x.kind (above x) xs ≡ true

  parts : (k from : ℕ) (x : Arc) (xs : List Arc) → arcs_fine N k from (x ∷ xs) ≡ true → Parts k from x xs
  unfolding arcs_fine
  parts k from x xs e =
      let a = and_right (arc_due k x.kind) _ e in
      let b = and_right (arc_fine N k from x) _ a in
      record { due = and_left (arc_due k x.kind) _ e; fine = and_left (arc_fine N k from x) _ a; fits = and_left (fits_word x.second) _ b; rest = and_right (fits_word x.second) _ b }

  whole : (k from : ℕ) (x : Arc) (xs : List Arc) → Parts k from x xs → arcs_fine N k from (x ∷ xs) ≡ true
  unfolding arcs_fine
  whole k from x xs p = and_intro p.due (and_intro p.fine (and_intro p.fits p.rest))

  floor-fine : (k j from from' : ℕ) (x : Arc) → cond (eqb x.kind j) from' 0 ≤ cond (eqb x.kind k) from 0 → arc_fine N k from x ≡ true → arc_fine N j from' x ≡ true
  unfolding arc_fine
  floor-fine k j from from' x l e =
      let a = leb-true (cond (eqb x.kind k) from 0) x.first (and_left (leb (cond (eqb x.kind k) from 0) x.first) _ e) in
      and_intro (le-leb (cond (eqb x.kind j) from' 0) x.first (omega arith)) (and_right (leb (cond (eqb x.kind k) from 0) x.first) _ e)

  cond-le : (b : Bool) (m n : ℕ) → m ≤ n → cond b m 0 ≤ cond b n 0
  cond-le true m n l = l
  cond-le false m n l = zero-le

  -- a lower start
  lower : (k from from' : ℕ) (xs : List Arc) → from' ≤ from → arcs_fine N k from xs ≡ true → arcs_fine N k from' xs ≡ true
  lower k from from' [] l e = unfold arcs_fine in refl
  lower k from from' (x ∷ xs) l e = let p = parts k from x xs e in
      whole k from' x xs (record { due = p.due; fine = floor-fine k k from from' x (cond-le (eqb x.kind k) from' from l) p.fine; fits = p.fits; rest = p.rest })

  -- arcs of a later kind
  pub later : (k j from : ℕ) (xs : List Arc) → k < j → arcs_fine N j 0 xs ≡ true → arcs_fine N k from xs ≡ true
  later k j from [] l e = unfold arcs_fine in refl
  later k j from (x ∷ xs) l e = let p = parts j 0 x xs e in
      whole k from x xs (record { due = due' p.due; fine = floor-fine j k 0 from x (rw (other p.due) zero-le) p.fine; fits = p.fits; rest = p.rest })
    where
      due' : arc_due j x.kind ≡ true → arc_due k x.kind ≡ true
      due' d = unfold arc_due in (let a = leb-true j x.kind (and_left (leb j x.kind) _ (unfold arc_due in d)) in
          and_intro (le-leb k x.kind (omega arith)) (and_right (leb j x.kind) _ (unfold arc_due in d)))

      other : arc_due j x.kind ≡ true → eqb x.kind k ≡ false
      other d = let a = leb-true j x.kind (and_left (leb j x.kind) (leb x.kind 37) (unfold arc_due in d)) in ne_eqb x.kind k (λ z. absurd (let y = z in omega arith))

  module _ (k : ℕ) (top : k ≤ 37) (not_clear : eqb k 36 ≡ false) (w : ℕ → ℕ) (small : (p : ℕ) → w p ≤ 65535) where
    one-made : (n : ℕ) → n < N → w n ≢ 0 → (ys : List Arc) → arcs_fine N k (suc n) ys ≡ true → Parts k n (record { kind = k; first = n; second = w n }) ys
    unfolding arc_due arc_fine above
    one-made n l y ys e = record {
      due = and_intro (le-leb k k (omega arith)) (le-leb k 37 top);
      fine = rw (eq-eqb k k refl, not_clear) (and_intro (le-leb n n (omega arith)) (and_intro (lt-ltb n N l) (le-leb 1 (w n) (omega arith))));
      fits = le-leb (w n) 65535 (small n);
      rest = rw not_clear e;
    }

    -- the arcs of a weight, before arcs that follow them
    pub arcs-made : (n : ℕ) → n ≤ N → (ys : List Arc) → arcs_fine N k n ys ≡ true → arcs_fine N k 0 (arcs_of k n w ++ ys) ≡ true
    unfolding arcs_of
    arcs-made zero l ys e = e
    arcs-made (suc n) l ys e = rw append_assoc
        (arcs-made n (omega arith) (cond (eqb (w n) 0) [] (record { kind = k; first = n; second = w n } ∷ []) ++ ys) (decide (eqb (w n) 0)
        (λ z. rw z (lower k (suc n) n ys (omega arith) e))
        (λ z. rw z (whole k n (record { kind = k; first = n; second = w n }) ys (one-made n l (eqb-false (w n) 0 z) ys e)))))

  module _ (f : ℕ → Bool) (small : N ≤ 65536) (ys : List Arc) (e : arcs_fine N 37 0 ys ≡ true) where
    -- a range from p on, before arcs that follow it
    range-made : (p b : ℕ) → p ≤ b → b < N → (xs : List Arc) → arcs_fine N 36 (suc b) xs ≡ true → arcs_fine N 36 p (clear_range p b ∷ xs) ≡ true
    range-made p b l m xs h = whole 36 p (clear_range p b) xs (record {
      due = unfold arc_due in refl;
      fine = unfold arc_fine in and_intro (le-leb p p (omega arith)) (and_intro (le-leb p b l) (lt-ltb b N m));
      fits = le-leb b 65535 (omega arith);
      rest = unfold above in h;
    })

    join-made : (p : ℕ) → p < N → (l : List Arc) → Clears l → arcs_fine N 36 (suc p) (l ++ ys) ≡ true → arcs_fine N 36 p (join_range p l ++ ys) ≡ true
    join-made p m [] c h = range-made p p (omega arith) m ys h
    join-made p m (x ∷ xs) c h = decide (eqb x.first (suc p))
        (λ z. let y = eqb-true x.first (suc p) z in let o = c.1 in
        rw z (range-made p x.second (omega arith) (ltb-true x.second N below) (xs ++ ys) rest))
        (λ z. rw z (range-made p p (omega arith) m (x ∷ (xs ++ ys)) h))
      where
        t : Parts 36 (suc p) x (xs ++ ys)
        t = parts 36 (suc p) x (xs ++ ys) h

        below : ltb x.second N ≡ true
        below = and_right (leb x.first x.second) _ (and_right (leb (cond (eqb x.kind 36) (suc p) 0) x.first) _
            (subst (λ (b : Bool). (leb (cond (eqb x.kind 36) (suc p) 0) x.first && cond b (leb x.first x.second && ltb x.second N) (ltb x.first N && leb 1 x.second)) ≡ true)
            (eq-eqb x.kind 36 c.0) (unfold arc_fine in t.fine)))

        rest : arcs_fine N 36 (suc x.second) (xs ++ ys) ≡ true
        rest = let r : arcs_fine N x.kind (suc (cond (eqb x.kind 36) x.second x.first)) (xs ++ ys) ≡ true = unfold above in t.rest in rw c.0 at r

    -- the ranges of a test, before arcs of the next kind
    pub ranges-made : (n p : ℕ) → p + n ≤ N → arcs_fine N 36 p (ranges_from n p f ++ ys) ≡ true
    unfolding ranges_from
    ranges-made zero p l = later 36 37 p ys (omega arith) e
    ranges-made (suc n) p l = decide (f p)
        (λ z. rw z (join-made p (omega arith) (ranges_from n (suc p) f) (ranges-clear f n (suc p)) (ranges-made n (suc p) (omega arith))))
        (λ z. rw z (lower 36 (suc p) p (ranges_from n (suc p) f ++ ys) (omega arith) (ranges-made n (suc p) (omega arith))))
