-- Where places rise, one arc of a kind at most stands at a place: enabled and sums, arc by arc, are those by place.
use Prim.Native.Nat.{ℕ, suc, ◌+◌, ◌≤◌, ◌<◌, min}
use mathlib.Core.Path.{◌≡◌, refl, sym, ◌∙◌, ap, ap₂, subst}
use mathlib.Core.Logic.{◌≢◌}
use mathlib.Core.Bool.{Bool, true, false, not, cond, ◌&&◌}
use mathlib.Core.List.{List, [], ◌∷◌}
use native.Mathlib.Nat.{zero-add}
use native.Mathlib.Omega.{arith}
use lib.ListN.{length, get_or, get_or-eq_default}
use lib.Seq.{ext_get_or}
use lib.Dec.{leb, ltb, eqb}
use borrow.Author.Tests.{leb-true, ltb-true, ltb-false, eqb-true, eqb-false, eq-eqb, ne_eqb, le-leb, lt-leb}
use Rattle.ranges.specs.Tests.{decide, and_left, and_right}
use Rattle.ranges.specs.RangeLaws.{all-elim, length-tab, get_d-tab, all-ext, all-intro, all-fail, all_but, least-is, least-ext}
use Rattle.effbd.specs.Ranges.{all_below, least, only, tabulate}
use Rattle.effbd.specs.Answers.{Outcome, accepted, refused}
use Rattle.effbd.specs.Moves.{most_word}
use Rattle.effbd.specs.Nets.{Arc, Transition, take_arc, clear_arc, give_arc, arc_due, arc_fine, above}
use Rattle.effbd.specs.Firing.{Behaviour, NetState, weight_at, cleared_at, effect_of, covers, taken_and_cleared, overflows, fired_state}
use Rattle.agreement.specs.Formed.{fits_word, arcs_fine}
use Rattle.net_walk.specs.Walked.{covered, applied, reduced, too_much, sums}
use Rattle.net_walk.proofs.Effects.{Words, applied-length, reduced-length, takes_at, clears-at, gives_at}

-- what fine arcs say of the first
pub record First (count k from : ℕ) (x : Arc) (xs : List Arc) : Type 0 where
  pub due : k ≤ x.kind
  pub low : x.kind ≡ k → from ≤ x.first
  pub inside : (x.kind ≡ clear_arc → ⊥) → x.first < count
  pub next : (x.kind ≡ clear_arc → ⊥) → above x ≡ suc x.first
  pub rest : arcs_fine count x.kind (above x) xs ≡ true

first : (count k from : ℕ) (x : Arc) (xs : List Arc) → arcs_fine count k from (x ∷ xs) ≡ true → First count k from x xs
unfolding arcs_fine arc_due arc_fine above
first count k from x xs e =
    let d = and_left (leb k x.kind && leb x.kind 37) _ e in
    let r = and_right (leb k x.kind && leb x.kind 37) _ e in
    let f = and_left (leb (cond (eqb x.kind k) from 0) x.first && _) _ r in
    record {
      due = leb-true k x.kind (and_left (leb k x.kind) (leb x.kind 37) d);
      low = λ q. leb-true from x.first (rw (eq-eqb x.kind k q) at (and_left (leb (cond (eqb x.kind k) from 0) x.first) _ f));
      inside = λ q. ltb-true x.first count (and_left (ltb x.first count) (leb 1 x.second) (rw (ne_eqb x.kind clear_arc q) at (and_right (leb (cond (eqb x.kind k) from 0) x.first) _ f)));
      next = λ q. rw (ne_eqb x.kind clear_arc q);
      rest = and_right (fits_word x.second) _ (and_right (leb (cond (eqb x.kind k) from 0) x.first && _) _ r);
    }

module _ (count : ℕ) where
  -- behind an arc of a later kind there is none of an earlier
  no-weight : (j k from : ℕ) (xs : List Arc) (p : ℕ) → j < k → arcs_fine count k from xs ≡ true → weight_at j xs p ≡ 0
  unfolding weight_at
  no-weight j k from [] p l e = refl
  no-weight j k from (x ∷ xs) p l e =
      let f = first count k from x xs e in let d = f.due in
      rw (ne_eqb x.kind j (omega arith), no-weight j x.kind (above x) xs p (omega arith) f.rest)

  -- and of the same kind none at a lower place (takes and gives)
  low-weight : (k from : ℕ) (xs : List Arc) (p : ℕ) → (k ≡ clear_arc → ⊥) → p < from → arcs_fine count k from xs ≡ true → weight_at k xs p ≡ 0
  unfolding weight_at
  low-weight k from [] p c l e = refl
  low-weight k from (x ∷ xs) p c l e =
      let f = first count k from x xs e in let d = f.due in
      decide (eqb x.kind k)
      (λ q. let z = eqb-true x.kind k q in let y = f.low z in
      let r : arcs_fine count k (above x) xs ≡ true = subst (λ (j : ℕ). arcs_fine count j (above x) xs ≡ true) z f.rest in
      let n = f.next (λ w. c (sym z ∙ w)) in
      rw (q, ne_eqb x.first p (omega arith), low-weight k (above x) xs p c (omega arith) r))
      (λ q. let z : x.kind ≢ k = eqb-false x.kind k q in
      rw (q, no-weight k x.kind (above x) xs p (omega (arith, z)) f.rest))

  -- at an arc's own place there is no other of its kind
  own-weight : (k from : ℕ) (x : Arc) (xs : List Arc) → (x.kind ≡ clear_arc → ⊥) → First count k from x xs → weight_at x.kind xs x.first ≡ 0
  own-weight k from x xs c f = let n = f.next c in low-weight x.kind (above x) xs x.first c (omega arith) f.rest

  -- enabled
  abbrev enough : List Arc → List ℕ → ℕ → Bool
  enough xs marks p = leb (weight_at take_arc xs p) (get_or marks p 0)

  covered-is : (k from : ℕ) (xs : List Arc) (marks : List ℕ) → 35 ≤ k → arcs_fine count k from xs ≡ true → all_below count (enough xs marks) ≡ covered xs marks
  unfolding covered weight_at
  covered-is k from [] marks h e = all-intro count (enough [] marks) (λ p l. le-leb 0 (get_or marks p 0) (omega arith))
  covered-is k from (x ∷ xs) marks h e = decide (eqb x.kind take_arc)
      (λ q. let z = eqb-true x.kind take_arc q in
      let c : x.kind ≢ clear_arc = λ y. omega arith in
      let o : weight_at take_arc xs x.first ≡ 0 = subst (λ (j : ℕ). weight_at j xs x.first ≡ 0) z (own-weight k from x xs c f) in
      let here : enough (x ∷ xs) marks x.first ≡ leb x.second (get_or marks x.first 0) = rw (q, eq-eqb x.first x.first refl, o) (ap (λ (w : ℕ). leb w (get_or marks x.first 0)) (let y : x.second + 0 ≡ x.second = omega arith in y)) in
      rw q (all_but count (enough (x ∷ xs) marks) (enough xs marks) x.first (f.inside c) (rw o (le-leb 0 (get_or marks x.first 0) (omega arith)))
      (λ p l ne. rw (q, ne_eqb x.first p (λ y. ne (sym y))) (ap (λ (w : ℕ). leb w (get_or marks p 0)) (let y : 0 + weight_at take_arc xs p ≡ weight_at take_arc xs p = omega arith in y)))
      ∙ (rw here (ap (λ (b : Bool). leb x.second (get_or marks x.first 0) && b) (covered-is x.kind (above x) xs marks (omega arith) f.rest)))))
      (λ q. let z : x.kind ≢ take_arc = eqb-false x.kind take_arc q in let d = f.due in
      rw q (all-intro count (enough (x ∷ xs) marks)
      (λ p l. rw (q, no-weight take_arc x.kind (above x) xs p (omega (arith, z)) f.rest) (le-leb (0 + 0) (get_or marks p 0) (omega arith)))))
    where
      f : First count k from x xs
      f = first count k from x xs e

  -- sums
  abbrev high : List Arc → List ℕ → ℕ → Bool
  high xs marks p = not (leb (get_or marks p 0 + weight_at give_arc xs p) most_word)

  -- 25 at the lowest place at which f holds, 0 where it holds at none
  abbrev pub lowest_over : (ℕ → Bool) → Outcome ℕ
  lowest_over f = cond (all_below count (λ p. not (f p))) (accepted 0) (refused 25 (least count f))

  over-ext : (f g : ℕ → Bool) → ((p : ℕ) → p < count → f p ≡ g p) → lowest_over f ≡ lowest_over g
  over-ext f g h = ap₂ (λ (b : Bool) (p : ℕ). cond b (accepted 0) (refused 25 p)) (all-ext count (λ p. not (f p)) (λ p. not (g p)) (λ p l. ap not (h p l))) (least-ext count f g h)

  over-at : (f : ℕ → Bool) (q : ℕ) → q < count → f q ≡ true → ((p : ℕ) → p < q → f p ≡ false) → lowest_over f ≡ refused 25 q
  over-at f q l e h = ap₂ (λ (b : Bool) (p : ℕ). cond b (accepted 0) (refused 25 p)) (all-fail count (λ p. not (f p)) q l (rw e)) (least-is count f q l e h)

  over_none : (f : ℕ → Bool) → ((p : ℕ) → p < count → f p ≡ false) → lowest_over f ≡ accepted 0
  over_none f h = rw (all-intro count (λ p. not (f p)) (λ p l. rw (h p l)))

  sums-are : (k from : ℕ) (xs : List Arc) (marks : List ℕ) → 35 ≤ k → Words marks → arcs_fine count k from xs ≡ true → lowest_over (high xs marks) ≡ sums xs marks
  unfolding sums weight_at too_much
  sums-are k from [] marks h w e = over_none (high [] marks) (λ p l. rw (le-leb (get_or marks p 0 + 0) most_word (let y = w.each p in omega arith)))
  sums-are k from (x ∷ xs) marks h w e = let f = first count k from x xs e in let d = f.due in
      go (sums-are x.kind (above x) xs marks (omega arith) w f.rest) (eqb x.kind give_arc) (ltb most_word (get_or marks x.first 0 + x.second)) refl refl
    where
      f : First count k from x xs
      f = first count k from x xs e

      go : lowest_over (high xs marks) ≡ sums xs marks → (a b : Bool) → eqb x.kind give_arc ≡ a → ltb most_word (get_or marks x.first 0 + x.second) ≡ b
          → lowest_over (high (x ∷ xs) marks) ≡ cond (a && b) (refused 25 x.first) (sums xs marks)
      go ih false b q r = over-ext (high (x ∷ xs) marks) (high xs marks) (λ p l. rw q (ap (λ (v : ℕ). not (leb (get_or marks p 0 + v) most_word)) (zero-add (weight_at give_arc xs p)))) ∙ ih
      go ih true b q r = give ih b q r
        where
          give : lowest_over (high xs marks) ≡ sums xs marks → (b : Bool) → eqb x.kind give_arc ≡ true → ltb most_word (get_or marks x.first 0 + x.second) ≡ b
              → lowest_over (high (x ∷ xs) marks) ≡ cond b (refused 25 x.first) (sums xs marks)
          give ih true q r = over-at (high (x ∷ xs) marks) x.first inside
              (rw (q, eq-eqb x.first x.first refl, lt-leb (get_or marks x.first 0 + (x.second + weight_at give_arc xs x.first)) most_word (let y = ltb-true most_word (get_or marks x.first 0 + x.second) r in omega arith)))
              (λ p l. rw (q, ne_eqb x.first p (omega arith), below p l, le-leb (get_or marks p 0 + 0) most_word (let y = w.each p in omega arith)))
            where
              z : x.kind ≡ give_arc
              z = eqb-true x.kind give_arc q

              c : x.kind ≢ clear_arc
              c y = let u = z in omega arith

              inside : x.first < count
              inside = f.inside c

              below : (p : ℕ) → p < x.first → weight_at give_arc xs p ≡ 0
              below p l = let n = f.next c in subst (λ (j : ℕ). weight_at j xs p ≡ 0) z (low-weight x.kind (above x) xs p c (omega arith) f.rest)
          give ih false q r = over-ext (high (x ∷ xs) marks) (high xs marks)
              (λ p l. decide (only p x.first)
              (λ y. let u = eqb-true x.first p y in
              rw (q, ← u, eq-eqb x.first x.first refl, own) (rw (
                le-leb (get_or marks x.first 0 + (x.second + 0)) most_word (let v = ltb-false most_word (get_or marks x.first 0 + x.second) r in omega arith),
                le-leb (get_or marks x.first 0 + 0) most_word (let v = w.each x.first in omega arith),
              )))
              (λ y. rw (q, y) (ap (λ (v : ℕ). not (leb (get_or marks p 0 + v) most_word)) (zero-add (weight_at give_arc xs p))))) ∙ ih
            where
              z : x.kind ≡ give_arc
              z = eqb-true x.kind give_arc q

              own : weight_at give_arc xs x.first ≡ 0
              own = subst (λ (j : ℕ). weight_at j xs x.first ≡ 0) z (own-weight k from x xs (λ y. let u = z in omega arith) f)

-- THEOREM: a transition is enabled if the takes that stand first are covered
pub enabled-is : (n : Behaviour) (t : Transition) (marks : List ℕ) → arcs_fine n.places take_arc 0 t.arcs ≡ true → covers n (effect_of t) marks ≡ covered t.arcs marks
unfolding covers effect_of
enabled-is n t marks e = covered-is n.places take_arc 0 t.arcs marks (omega arith) e

module _ (n : Behaviour) (t : Transition) (s : NetState) (mid : List ℕ) (reached : taken_and_cleared n (effect_of t) s.marks ≡ mid) (words : Words mid) where
  -- THEOREM: the first give that passes 65,535 is at the lowest place that does: the walk over the gives answers what the definition does
  pub sums-is : arcs_fine n.places take_arc 0 t.arcs ≡ true → lowest_over n.places (overflows n (effect_of t) s) ≡ sums t.arcs mid
  unfolding overflows effect_of
  sums-is e = over-ext n.places (overflows n (effect_of t) s) (high n.places t.arcs mid)
      (λ p l. ap (λ (m : List ℕ). not (leb (get_or m p 0 + weight_at give_arc t.arcs p) most_word)) reached)
      ∙ (sums-are n.places take_arc 0 t.arcs mid (omega arith) words e)

  -- THEOREM: where all sums fit, gives that stop at 65,535 are the sums
  pub given_is : (j : ℕ) → length mid ≡ n.places → all_below n.places (λ p. not (overflows n (effect_of t) s p)) ≡ true
      → (fired_state n j (effect_of t) s).marks ≡ applied give_arc t.arcs mid
  unfolding fired_state overflows effect_of
  given_is j e fit = ext_get_or 0 (tabulate n.places f) (applied give_arc t.arcs mid)
      (length-tab n.places f ∙ sym (applied-length give_arc t.arcs mid ∙ e))
      (λ p l. let h : p < n.places = rw (length-tab n.places f) at l in
      get_d-tab n.places f p 0 h ∙ (ap (λ (m : List ℕ). get_or m p 0 + weight_at give_arc t.arcs p) reached
      ∙ (let b = bounded p h in let z : get_or mid p 0 + weight_at give_arc t.arcs p ≡ min most_word (get_or mid p 0 + weight_at give_arc t.arcs p) = omega arith in
      z ∙ sym (gives_at t.arcs mid p (rw e h) (words.each p)))))
    where
      f : ℕ → ℕ
      f p = get_or (taken_and_cleared n (effect_of t) s.marks) p 0 + weight_at give_arc t.arcs p

      bounded : (p : ℕ) → p < n.places → get_or mid p 0 + weight_at give_arc t.arcs p ≤ most_word
      bounded p h = leb-true (get_or mid p 0 + weight_at give_arc t.arcs p) most_word
          (rw reached at (not-false-of (leb (get_or (taken_and_cleared n (effect_of t) s.marks) p 0 + weight_at give_arc t.arcs p) most_word) (all-elim n.places (λ q. not (overflows n (effect_of t) s q)) fit p h)))
        where
          not-false-of : (b : Bool) → not (not b) ≡ true → b ≡ true
          not-false-of true q = refl
          not-false-of false q = q

-- takes and clears leave words words
pub reduced-words : (xs : List Arc) (marks : List ℕ) → Words marks → Words (reduced xs marks)
unfolding reduced
reduced-words xs marks w = record {
  each = λ p. decide (ltb p (length marks))
      (λ e. let l = ltb-true p (length marks) e in
      let c = clears-at xs (applied take_arc xs marks) p (rw (applied-length take_arc xs marks) l) in
      rw c (less (cleared_at xs p) (get_or (applied take_arc xs marks) p 0) (let t = takes_at xs marks p l in let b = w.each p in omega arith)))
      (λ e. let l = ltb-false p (length marks) e in
      rw (get_or-eq_default (applied clear_arc xs (applied take_arc xs marks)) 0 {n = p} (let y = reduced-length xs marks in unfold-length y l)) (omega arith));
}
  where
    less : (b : Bool) (x : ℕ) → x ≤ most_word → cond b 0 x ≤ most_word
    less true x h = omega arith
    less false x h = h

    unfold-length : length (applied clear_arc xs (applied take_arc xs marks)) ≡ length marks → {p : ℕ} → length marks ≤ p → length (applied clear_arc xs (applied take_arc xs marks)) ≤ p
    unfold-length y {p} l = rw y l
