-- What the walks compute is what the definitions say by the number of a place: enabled, takes and clears, gives, sums.
use Prim.Native.Nat.{ℕ, zero, suc, ◌+◌, ◌-◌, ◌≤◌, ◌<◌, min}
use mathlib.Core.Path.{◌≡◌, refl, sym, ◌∙◌, ap}
use mathlib.Core.Logic.{◌≢◌}
use mathlib.Core.Bool.{Bool, true, false, cond, ◌&&◌, ◌||◌}
use mathlib.Core.List.{List, [], ◌∷◌}
use native.Mathlib.Omega.{arith}
use lib.ListN.{length, get_or, set, length-set}
use lib.Seq.{get_or-set_same, get_or-set_other, ext_get_or}
use lib.Dec.{leb, ltb, eqb}
use borrow.Author.Tests.{leb-true, ltb-true, eqb-true, eqb-false, ne_eqb, le-leb, lt-leb, le-ltb, lt-ltb}
use Rattle.ranges.specs.Tests.{decide, clash}
use Rattle.ranges.specs.RangeLaws.{length-tab, get_d-tab}
use Rattle.effbd.specs.Ranges.{only, within, tabulate}
use Rattle.effbd.specs.Moves.{most_word}
use Rattle.effbd.specs.Nets.{Arc, Transition, take_arc, clear_arc, give_arc}
use Rattle.effbd.specs.Firing.{Behaviour, weight_at, cleared_at, effect_of, taken_and_cleared}
use Rattle.net_walk.specs.Walked.{zeros, changed, changed_if, applied, reduced}

-- numbers of 16 bits
pub record Words (marks : List ℕ) : Type 0 where
  pub each : (p : ℕ) → get_or marks p 0 ≤ most_word

-- one arc at one place
module _ (marks : List ℕ) (p : ℕ) (l : p < length marks) where
  set_at : (first v : ℕ) → get_or (set marks first v) p 0 ≡ cond (only p first) v (get_or marks p 0)
  set_at first v = decide (only p first)
      (λ e. let z = eqb-true first p e in rw (e, z, get_or-set_same marks p v 0 l))
      (λ e. rw (e, get_or-set_other marks first p v 0 (λ z. eqb-false first p e (sym z))))

zeros-length : (n first : ℕ) (marks : List ℕ) → length (zeros n first marks) ≡ length marks
unfolding zeros
zeros-length zero first marks = refl
zeros-length (suc n) first marks = zeros-length n (first + 1) (set marks first 0) ∙ length-set marks first 0

zeros-at : (n first : ℕ) (marks : List ℕ) (p : ℕ) → p < length marks → get_or (zeros n first marks) p 0 ≡ cond (leb first p && ltb p (first + n)) 0 (get_or marks p 0)
unfolding zeros
zeros-at zero first marks p l = go (leb first p) refl
  where
    go : (b : Bool) → leb first p ≡ b → get_or marks p 0 ≡ cond (b && ltb p (first + 0)) 0 (get_or marks p 0)
    go true e = let z = leb-true first p e in rw (le-ltb p (first + 0) (omega arith))
    go false e = refl
zeros-at (suc n) first marks p l =
    zeros-at n (first + 1) (set marks first 0) p (rw (length-set marks first 0) l) ∙ (rw (set_at marks p l first 0) go)
  where
    go : cond (leb (first + 1) p && ltb p (first + 1 + n)) 0 (cond (only p first) 0 (get_or marks p 0)) ≡ cond (leb first p && ltb p (first + suc n)) 0 (get_or marks p 0)
    go = decide (eqb first p)
        (λ e. let z = eqb-true first p e in rw (e, lt-leb (first + 1) p (omega arith), le-leb first p (omega arith), lt-ltb p (first + suc n) (omega arith)))
        (λ e. let z : first ≢ p = eqb-false first p e in let y : first + 1 + n ≡ first + suc n = omega arith in
        rw (e, y, same z))
      where
        same : first ≢ p → leb (first + 1) p ≡ leb first p
        same z = decide (leb first p) (λ q. let y = leb-true first p q in rw (q, le-leb (first + 1) p (omega (arith, z)))) (λ q. rw q (decide (leb (first + 1) p) (λ y. let w = leb-true (first + 1) p y in clash (le-leb first p (omega arith)) q) (λ y. y)))

changed-length : (kind first second : ℕ) (marks : List ℕ) → length (changed kind first second marks) ≡ length marks
unfolding changed
changed-length kind first second marks = decide (eqb kind take_arc)
    (λ e. rw e (length-set marks first (get_or marks first 0 - second)))
    (λ e. rw e (decide (eqb kind clear_arc) (λ f. rw f (zeros-length (second + 1 - first) first marks)) (λ f. rw f (length-set marks first (min most_word (get_or marks first 0 + second))))))

if-length : (kind : ℕ) (x : Arc) (marks : List ℕ) → length (changed_if kind x marks) ≡ length marks
unfolding changed_if
if-length kind x marks = decide (eqb x.kind kind) (λ e. rw e (changed-length x.kind x.first x.second marks)) (λ e. rw e)

pub applied-length : (kind : ℕ) (xs : List Arc) (marks : List ℕ) → length (applied kind xs marks) ≡ length marks
unfolding applied
applied-length kind [] marks = refl
applied-length kind (x ∷ xs) marks = applied-length kind xs (changed_if kind x marks) ∙ if-length kind x marks

pub reduced-length : (xs : List Arc) (marks : List ℕ) → length (reduced xs marks) ≡ length marks
unfolding reduced
reduced-length xs marks = applied-length clear_arc xs (applied take_arc xs marks) ∙ applied-length take_arc xs marks

module _ (x : Arc) (marks : List ℕ) (p : ℕ) (l : p < length marks) where
  take_at : get_or (changed_if take_arc x marks) p 0 ≡ get_or marks p 0 - cond (eqb x.kind take_arc && only p x.first) x.second 0
  unfolding changed_if changed
  take_at = decide (eqb x.kind take_arc)
      (λ e. rw (e, set_at marks p l x.first (get_or marks x.first 0 - x.second)) (go (only p x.first) refl))
      (λ e. rw e (omega arith))
    where
      go : (b : Bool) → only p x.first ≡ b → cond b (get_or marks x.first 0 - x.second) (get_or marks p 0) ≡ get_or marks p 0 - cond b x.second 0
      go true e = ap (λ (q : ℕ). get_or marks q 0 - x.second) (eqb-true x.first p e)
      go false e = omega arith

  clear_at : get_or (changed_if clear_arc x marks) p 0 ≡ cond (eqb x.kind clear_arc && within x.first x.second p) 0 (get_or marks p 0)
  unfolding changed_if changed
  clear_at = decide (eqb x.kind clear_arc)
      (λ e. let z = eqb-true x.kind clear_arc e in
      rw (e, ne_eqb x.kind take_arc (omega arith), zeros-at (x.second + 1 - x.first) x.first marks p l) (ap (λ (b : Bool). cond b 0 (get_or marks p 0)) range))
      (λ e. rw e)
    where
      range : (leb x.first p && ltb p (x.first + (x.second + 1 - x.first))) ≡ within x.first x.second p
      range = decide (leb x.first p)
          (λ e. let z = leb-true x.first p e in rw e (decide (leb p x.second)
          (λ f. let y = leb-true p x.second f in rw (f, lt-ltb p (x.first + (x.second + 1 - x.first)) (omega arith)))
          (λ f. rw f (decide (ltb p (x.first + (x.second + 1 - x.first))) (λ g. let w = ltb-true p (x.first + (x.second + 1 - x.first)) g in clash (le-leb p x.second (omega arith)) f) (λ g. g)))))
          (λ e. rw e)

  give_at : get_or marks p 0 ≤ most_word → get_or (changed_if give_arc x marks) p 0 ≡ min most_word (get_or marks p 0 + cond (eqb x.kind give_arc && only p x.first) x.second 0)
  unfolding changed_if changed
  give_at h = decide (eqb x.kind give_arc)
      (λ e. let z = eqb-true x.kind give_arc e in
      rw (e, ne_eqb x.kind take_arc (omega arith), ne_eqb x.kind clear_arc (omega arith), set_at marks p l x.first (min most_word (get_or marks x.first 0 + x.second))) (go (only p x.first) refl))
      (λ e. rw e (omega arith))
    where
      go : (b : Bool) → only p x.first ≡ b → cond b (min most_word (get_or marks x.first 0 + x.second)) (get_or marks p 0) ≡ min most_word (get_or marks p 0 + cond b x.second 0)
      go true e = ap (λ (q : ℕ). min most_word (get_or marks q 0 + x.second)) (eqb-true x.first p e)
      go false e = omega arith

-- all arcs at one place
pub takes_at : (xs : List Arc) (marks : List ℕ) (p : ℕ) → p < length marks → get_or (applied take_arc xs marks) p 0 ≡ get_or marks p 0 - weight_at take_arc xs p
unfolding applied weight_at
takes_at [] marks p l = omega arith
takes_at (x ∷ xs) marks p l = takes_at xs (changed_if take_arc x marks) p (rw (if-length take_arc x marks) l) ∙ (rw (take_at x marks p l) (omega arith))

pub clears-at : (xs : List Arc) (marks : List ℕ) (p : ℕ) → p < length marks → get_or (applied clear_arc xs marks) p 0 ≡ cond (cleared_at xs p) 0 (get_or marks p 0)
unfolding applied cleared_at
clears-at [] marks p l = refl
clears-at (x ∷ xs) marks p l = clears-at xs (changed_if clear_arc x marks) p (rw (if-length clear_arc x marks) l)
    ∙ (rw (clear_at x marks p l) (go (eqb x.kind clear_arc && within x.first x.second p) (cleared_at xs p)))
  where
    go : (a b : Bool) → cond b 0 (cond a 0 (get_or marks p 0)) ≡ cond (a || b) 0 (get_or marks p 0)
    go true true = refl
    go true false = refl
    go false true = refl
    go false false = refl

pub gives_at : (xs : List Arc) (marks : List ℕ) (p : ℕ) → p < length marks → get_or marks p 0 ≤ most_word → get_or (applied give_arc xs marks) p 0 ≡ min most_word (get_or marks p 0 + weight_at give_arc xs p)
unfolding applied weight_at
gives_at [] marks p l h = omega arith
gives_at (x ∷ xs) marks p l h =
    let e = give_at x marks p l h in
    gives_at xs (changed_if give_arc x marks) p (rw (if-length give_arc x marks) l) (omega arith) ∙ (rw e (omega arith))

-- THEOREM: takes and clears, arc by arc, are takes and clears by place
pub reduced-is : (n : Behaviour) (t : Transition) (marks : List ℕ) → length marks ≡ n.places → taken_and_cleared n (effect_of t) marks ≡ reduced t.arcs marks
unfolding taken_and_cleared effect_of reduced
reduced-is n t marks e = ext_get_or 0 (tabulate n.places f) (applied clear_arc t.arcs (applied take_arc t.arcs marks))
    (length-tab n.places f ∙ sym (applied-length clear_arc t.arcs (applied take_arc t.arcs marks) ∙ (applied-length take_arc t.arcs marks ∙ e)))
    (λ p l. let h : p < n.places = rw (length-tab n.places f) at l in let m : p < length marks = omega arith in
    get_d-tab n.places f p 0 h ∙ sym (clears-at t.arcs (applied take_arc t.arcs marks) p (rw (applied-length take_arc t.arcs marks) m)
    ∙ ap (λ (x : ℕ). cond (cleared_at t.arcs p) 0 x) (takes_at t.arcs marks p m)))
  where
    f : ℕ → ℕ
    f p = cond (cleared_at t.arcs p) 0 (get_or marks p 0 - weight_at take_arc t.arcs p)
