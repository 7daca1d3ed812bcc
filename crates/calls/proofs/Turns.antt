-- One turn of the loop over a list of calls: the record at its start, lent alone, is the call that the rest of the list starts with.
use Prim.Native.Nat.{ℕ, zero, suc, ◌+◌, ◌-◌, ◌≤◌, ◌<◌}
use mathlib.Core.Path.{◌≡◌, refl, sym, ◌∙◌, ap, ap₂, subst}
use Rattle.std.specs.Prelude.{Some, None}
use mathlib.Core.Bool.{true, false, cond, ◌&&◌}
use mathlib.Core.List.{List, ◌++◌, append_assoc}
use native.Mathlib.Omega.{arith}
use lib.ListN.{length, take, drop, length-append, length-drop}
use lib.Seq.{length-take-le, take_at, drop_at}
use lib.Dec.{leb, eqb}
use borrow.Author.Tests.{eq-eqb, ne_eqb, leb-true, eqb-true}
use Rattle.effbd.specs.Answers.{Outcome}
use Rattle.effbd.specs.Records.{length_at, kind_at}
use Rattle.ranges.specs.RangeLaws.{tail-is}
use Rattle.ranges.specs.Tests.{decide, and_left, and_right}
use Rattle.calls.specs.CallList.{is_call, record_at, call_of, after_call}
use Rattle.calls.specs.LiveEnds.{Live, live_after, live_seen, Called, AllCalled}
use Rattle.calls.proofs.Lists.{Making, Made, making-turn, made-early}

offer-room : (call : List ℕ) → is_call call ≡ true → kind_at call ≡ 1 → 8 ≤ length_at call
unfolding is_call
offer-room call is o = decide (leb 8 (length_at call)) (λ t. leb-true 8 (length_at call) t)
    (λ t. let z : false ≡ true = (rw (eq-eqb (kind_at call) 1 o, t, ne_eqb (kind_at call) 2 (λ z. omega arith)) at
    (and_right (leb 4 (length call) && leb (length_at call) (length call)) _ is)) in absurd (let y : ◌≡◌ {A = ℕ} 0 1 = cc in omega arith))

-- what a record that is a call has
pub record Sized (rest : List ℕ) : Type 0 where
  pub least : 4 ≤ length_at rest
  pub within : length_at rest ≤ length rest

pub sized : (rest : List ℕ) → is_call rest ≡ true → Sized rest
unfolding is_call
sized rest is = record {
  least = decide (leb 4 (length_at rest)) (λ t. leb-true 4 (length_at rest) t)
      (λ t. decide (eqb (kind_at rest) 1)
      (λ u. let h = offer-room rest is (eqb-true (kind_at rest) 1 u) in omega arith)
      (λ u. let z : (eqb (kind_at rest) 2 && false) ≡ true = (rw (u, t) at (and_right (leb 4 (length rest) && leb (length_at rest) (length rest)) _ is)) in
      let y : false ≡ true = and_right (eqb (kind_at rest) 2) false z in absurd (let w : ◌≡◌ {A = ℕ} 0 1 = cc in omega arith)));
  within = leb-true (length_at rest) (length rest) (and_right (leb 4 (length rest)) _ (and_left (leb 4 (length rest) && leb (length_at rest) (length rest)) _ is));
}

-- what `call_length` answers: none exactly where the list ends
pub ends-here : (rest : List ℕ) → None ≡ cond (is_call rest) (Some (length_at rest)) None → is_call rest ≡ false
ends-here rest e = decide (is_call rest) (λ t. let z : None ≡ Some (length_at rest) = e ∙ rw t in absurd (cc)) (λ t. t)

pub goes_on : (rest : List ℕ) (n : ℕ) → Some n ≡ cond (is_call rest) (Some (length_at rest)) None → (is_call rest ≡ true) × (n ≡ length_at rest)
goes_on rest n e = decide (is_call rest) (λ t. (t, let z : Some n ≡ Some (length_at rest) = e ∙ rw t in cc)) (λ t. let z : Some n ≡ None = e ∙ rw t in absurd (cc))

pub live-is : (w : Live) (l f : List ℕ) (s t : ℕ) → l ≡ w.leader → s ≡ w.sent → f ≡ w.follower → t ≡ w.taken → record { leader = l; sent = s; follower = f; taken = t } ≡ w
live-is w l f s t a b c d = ap₂ (λ (x : List ℕ) (y : ℕ). record { leader = x; sent = y; follower = f; taken = t }) a b
    ∙ ap₂ (λ (x : List ℕ) (y : ℕ). record { leader = w.leader; sent = w.sent; follower = x; taken = y }) c d

-- what a turn finds at the start of what is left of the list
pub record Front (calls : List ℕ) (at n : ℕ) : Type 0 where
  pub is : is_call (drop at calls) ≡ true
  pub size : n ≡ length_at (drop at calls)
  pub least : 4 ≤ n
  pub fits : at + n ≤ length calls

part-long : (calls : List ℕ) (at n : ℕ) → at + n ≤ length calls → length (take n (drop at calls)) ≡ n
part-long calls at n l = length-take-le n (drop at calls) (rw (length-drop at calls) (omega arith))

pub front : (calls : List ℕ) (at n : ℕ) → at ≤ length calls → is_call (drop at calls) ≡ true → n ≡ length_at (drop at calls) → Front calls at n
front calls at n w is e = let s = sized (drop at calls) is in record {
  is = is;
  size = e;
  least = let l = s.least in omega arith;
  fits = let l = s.within in let m = length-drop at calls in omega arith;
}

pub found : (calls : List ℕ) (at n : ℕ) → at ≤ length calls
    → Some n ≡ cond (is_call (take (length calls - at) (drop at calls))) (Some (length_at (take (length calls - at) (drop at calls)))) None → Front calls at n
found calls at n w e = let g = goes_on (drop at calls) n (e ∙ ap (λ (l : List ℕ). cond (is_call l) (Some (length_at l)) None) (tail-is at calls)) in front calls at n w g.0 g.1

module _ (file net : List ℕ) (station : ℕ) (v₀ : Live) (calls₀ : List ℕ) where
  pub all_made : (v : Live) (calls : List ℕ) → Made file net station v₀ calls₀ v calls
      → AllCalled file net station v₀ calls₀ v.leader v.follower calls v.sent v.taken
  all_made v calls m = record { live = sym m.live; list = sym m.list }

  pub ended : (left at : ℕ) (v : Live) (calls : List ℕ) → Making file net station v₀ calls₀ left at v calls
      → None ≡ cond (is_call (take (length calls - at) (drop at calls))) (Some (length_at (take (length calls - at) (drop at calls)))) None
      → AllCalled file net station v₀ calls₀ v.leader v.follower calls v.sent v.taken
  ended left at v calls m e = all_made v calls (made-early file net station v₀ calls₀ left at v calls m
      (ends-here (drop at calls) (e ∙ ap (λ (l : List ℕ). cond (is_call l) (Some (length_at l)) None) (tail-is at calls))))

  pub turned : (left at n : ℕ) (v : Live) (calls leader follower after : List ℕ) (answer : Outcome ℕ) (sent took : ℕ) → Making file net station v₀ calls₀ left at v calls → 0 < left
      → Front calls at n → Called file net station v (take n (drop at calls)) leader follower after answer sent took
      → length after ≡ n
      → Making file net station v₀ calls₀ (left - 1) (at + n) (record { leader = leader; sent = sent; follower = follower; taken = took }) (take at calls ++ (after ++ drop n (drop at calls)))
  turned zero at n v calls leader follower after answer sent took m p f c l = absurd (omega arith)
  turned (suc most) at n v calls leader follower after answer sent took m p f c l =
      let rest = drop at calls in
      let same : take n rest ≡ record_at rest = ap (λ (x : ℕ). take x rest) f.size in
      let e : suc most - 1 ≡ most = omega arith in
      let q : at + length_at rest ≡ at + n = ap (λ (x : ℕ). at + x) (sym f.size) in
      let fr : length (take at calls ++ after) ≡ at + length_at rest = length-append (take at calls) after ∙ (ap₂ (λ (a b : ℕ). a + b) (length-take-le at calls m.within) l ∙ sym q) in
      let grouped = append_assoc (take at calls) after (drop n rest) in
      subst (λ (k : ℕ). Making file net station v₀ calls₀ k (at + n) (record { leader = leader; sent = sent; follower = follower; taken = took }) (take at calls ++ (after ++ drop n rest))) (sym e)
      (subst (λ (k : ℕ). Making file net station v₀ calls₀ most k (record { leader = leader; sent = sent; follower = follower; taken = took }) (take at calls ++ (after ++ drop n rest))) q
      (making-turn file net station v₀ calls₀ most at v (record { leader = leader; sent = sent; follower = follower; taken = took }) calls (take at calls ++ (after ++ drop n rest)) m f.is
      (live-is _ leader follower sent took c.leader-holds c.sent_is c.follower-holds c.taken_is ∙ ap (λ (x : List ℕ). live_after file net station v (call_of x)) same)
      (let a = length-append (take at calls) (after ++ drop n rest) in let b = length-append after (drop n rest) in let d = length-drop n rest in let g = length-drop at calls in
      let h = length-take-le at calls m.within in let i = f.fits in omega arith)
      (let i = f.fits in omega arith)
      (ap (take (at + length_at rest)) (sym grouped) ∙ (take_at (take at calls ++ after) (drop n rest) (at + length_at rest) fr
      ∙ ap (λ (x : List ℕ). take at calls ++ x) (c.record-holds ∙ ap (λ (x : List ℕ). after_call x (live_seen file net station v (call_of x))) same)))
      (ap (drop (at + length_at rest)) (sym grouped) ∙ (drop_at (take at calls ++ after) (drop n rest) (at + length_at rest) fr ∙ ap (λ (x : ℕ). drop x rest) f.size))))

  -- the same where the lent part's end is written as a sum
  turned-lent : (left at n k : ℕ) (v : Live) (calls leader follower after : List ℕ) (answer : Outcome ℕ) (sent took : ℕ) → Making file net station v₀ calls₀ left at v calls → 0 < left
      → Front calls at n → k ≡ n → Called file net station v (take k (drop at calls)) leader follower after answer sent took
      → length after ≡ length (take k (drop at calls))
      → Making file net station v₀ calls₀ (left - 1) (at + n) (record { leader = leader; sent = sent; follower = follower; taken = took }) (take at calls ++ (after ++ drop k (drop at calls)))
  turned-lent left at n k v calls leader follower after answer sent took m p f e c l =
      subst (λ (x : ℕ). Making file net station v₀ calls₀ (left - 1) (at + n) (record { leader = leader; sent = sent; follower = follower; taken = took }) (take at calls ++ (after ++ drop x (drop at calls)))) (sym e)
      (turned left at n v calls leader follower after answer sent took m p f
      (subst (λ (x : ℕ). Called file net station v (take x (drop at calls)) leader follower after answer sent took) e c)
      (l ∙ (ap (λ (x : ℕ). length (take x (drop at calls))) e ∙ part-long calls at n f.fits)))

  -- and where how many are left is written in another way
  pub turned-next : (left at n k next : ℕ) (v : Live) (calls leader follower after : List ℕ) (answer : Outcome ℕ) (sent took : ℕ) → Making file net station v₀ calls₀ left at v calls → 0 < left
      → Front calls at n → k ≡ n → Called file net station v (take k (drop at calls)) leader follower after answer sent took
      → length after ≡ length (take k (drop at calls)) → next ≡ left - 1
      → Making file net station v₀ calls₀ next (at + n) (record { leader = leader; sent = sent; follower = follower; taken = took }) (take at calls ++ (after ++ drop k (drop at calls)))
  turned-next left at n k next v calls leader follower after answer sent took m p f e c l s =
      subst (λ (x : ℕ). Making file net station v₀ calls₀ x (at + n) (record { leader = leader; sent = sent; follower = follower; taken = took }) (take at calls ++ (after ++ drop k (drop at calls)))) (sym s)
      (turned-lent left at n k v calls leader follower after answer sent took m p f e c l)
