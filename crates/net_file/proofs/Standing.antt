-- Where the reader of transitions and arcs stands, from the places to the end.
use Prim.Native.Nat.{ℕ, suc, ◌+◌, ◌-◌, ◌*◌, ◌≤◌, ◌<◌}
use mathlib.Core.Path.{◌≡◌, refl, sym, ◌∙◌, ap, subst}
use mathlib.Core.Logic.{◌≢◌}
use mathlib.Core.Bool.{Bool, true, false, cond, ◌&&◌}
use mathlib.Core.List.{List}
use native.Mathlib.Omega.{arith}
use lib.ListN.{length, drop, length-drop}
use lib.Dec.{leb, ltb, eqb}
use borrow.Author.Tests.{leb-true, ltb-true, eqb-true, eqb-false, eq-eqb}
use Rattle.ranges.specs.Tests.{decide, and_left, and_right}
use Rattle.effbd.specs.Answers.{accepted, refused, unless}
use Rattle.effbd.specs.Records.{length_at, kind_at}
use Rattle.effbd.specs.Nets.{Arc, take_arc, clear_arc, most_places, most_transitions, arc_fine, above, arc_at}
use Rattle.net_file.specs.declared.Due.{Due}
use Rattle.net_file.specs.Due.{start, fault_in, behind_arc, behind_transition, ended, verdict, answering, Lent, places_end}
use Rattle.ranges.specs.Outcomes.{unless-none, unless-refused}
use Rattle.net_file.proofs.Tails.{arc-read, transition-read}
use Rattle.net_file.proofs.Turns.{Way, arc, over, transition, way, fault-arc, fault-over, fault-transition, next_due, next-arc, next-transition, turn, at-end, Right}

-- the bytes of a transition with all the arcs that it can have: of each of 3 kinds one a place at most, since their places rise
abbrev most_transition : ℕ
most_transition = 10 + 3 * 8 * most_places

abbrev most_bytes : ℕ
most_bytes = places_end + most_transition * most_transitions

-- a bound on what has been read, by what is still due, so that every offset fits 32 bits
pub record Near (total : ℕ) (due : Due) (rest : List ℕ) : Type 0 where
  pub least : take_arc ≤ due.kind
  pub low : due.from ≤ most_places
  pub width : most_places * (due.kind - take_arc) + due.from ≤ 3 * most_places
  pub inside : length rest ≤ total
  pub bound : total + most_transition * due.transitions ≤ length rest + most_bytes + 8 * (most_places * (due.kind - take_arc) + due.from)

pub near-offset : (total : ℕ) (due : Due) (rest : List ℕ) → Near total due rest → total - length rest < 4294967296
near-offset total due rest n = let a = n.width in let b = n.bound in omega arith

-- one more arc of the same kind has a higher place
arc-rises : (count k from : ℕ) (x : Arc) → arc_fine count k from x ≡ true → (above x ≤ count) × (x.kind ≡ k → from < above x)
unfolding arc_fine above
arc-rises count k from x e = go (eqb x.kind clear_arc) (and_right (leb (cond (eqb x.kind k) from 0) x.first) _ e)
  where
    low : (b : Bool) → leb (cond b from 0) x.first ≡ true → b ≡ true → from ≤ x.first
    low true h q = leb-true from x.first h
    low false h q = absurd (let z : ◌≡◌ {A = Bool} true false = sym q in let y : ◌≡◌ {A = ℕ} 0 1 = cc in omega arith)

    first : x.kind ≡ k → from ≤ x.first
    first q = low (eqb x.kind k) (and_left (leb (cond (eqb x.kind k) from 0) x.first) _ e) (eq-eqb x.kind k q)

    go : (b : Bool) → cond b (leb x.first x.second && ltb x.second count) (ltb x.first count && leb 1 x.second) ≡ true
        → (suc (cond b x.second x.first) ≤ count) × (x.kind ≡ k → from < suc (cond b x.second x.first))
    go true h =
        let a = leb-true x.first x.second (and_left (leb x.first x.second) (ltb x.second count) h) in
        (ltb-true x.second count (and_right (leb x.first x.second) (ltb x.second count) h), (λ q. let z = first q in omega arith))
    go false h = (ltb-true x.first count (and_left (ltb x.first count) (leb 1 x.second) h), (λ q. let z = first q in omega arith))

-- a record without fault: the bound is kept, and bytes are passed
pub record Passed (total : ℕ) (due : Due) (rest : List ℕ) : Type 0 where
  pub near : Near total (next_due due rest) (drop (length_at rest) rest)
  pub shorter : length (drop (length_at rest) rest) < length rest

module _ (count total : ℕ) (few : count ≤ most_places) (due : Due) (rest : List ℕ) (near : Near total due rest) where
  passed : fault_in count due rest ≡ 0 → Passed total due rest
  unfolding behind_arc behind_transition
  passed e = go (way due rest)
    where
      by : (d : Due) (n : ℕ) → next_due due rest ≡ d → length_at rest ≡ n → 1 ≤ n → n ≤ length rest → Near total d (drop n rest) → Passed total due rest
      by d n p q l m h = record {
        near = subst (λ (i : ℕ). Near total (next_due due rest) (drop i rest)) (sym q) (subst (λ (z : Due). Near total z (drop n rest)) (sym p) h);
        shorter = rw q (rw (length-drop n rest) (omega arith));
      }

      go : Way due rest → Passed total due rest
      go (arc a) =
          let r = arc-read count total due.kind due.from rest near.least a (sym (fault-arc count total due rest a) ∙ e) in
          let w = r.whole in let b = near.bound in let i = near.inside in
          let l = r.kinds.least in let m = r.kinds.most in let s = r.rising in let f = near.low in
          let x = arc-rises count due.kind due.from (arc_at rest) r.fine in
          let y = x.0 in
          let h : most_places * (due.kind - take_arc) + due.from < most_places * (kind_at rest - take_arc) + above (arc_at rest) = decide (eqb (kind_at rest) due.kind)
          (λ q. let t = x.1 (eqb-true (kind_at rest) due.kind q) in let u = eqb-true (kind_at rest) due.kind q in omega arith)
          (λ q. let u = eqb-false (kind_at rest) due.kind q in let v : 1 ≤ above (arc_at rest) = unfold above in omega arith in omega (arith, u)) in
          by _ 8 (next-arc count total due rest l) r.eight (omega arith) w
          (record { least = l; low = omega arith; width = omega arith; inside = rw (length-drop 8 rest) (omega arith); bound = rw (length-drop 8 rest) (omega arith) })
      go (over a t) = absurd (let z = sym (fault-over count total due rest a t) ∙ e in omega (arith, z))
      go (transition a t) =
          let r = transition-read count total due.label rest (sym (fault-transition count total due rest a t) ∙ e) in
          let w = r.whole in let z = eqb-false due.transitions 0 t in let b = near.bound in let i = near.inside in let d = near.width in
          by _ 10 (next-transition count total due rest r.kind) r.ten (omega arith) w
          (record { least = omega arith; low = omega arith; width = omega arith; inside = rw (length-drop 10 rest) (omega arith); bound = rw (length-drop 10 rest) (omega (arith, z)) })

-- what is left is answered as all that stands behind the places
pub record Stands (count total transitions : ℕ) (behind : List ℕ) (due : Due) (rest : List ℕ) : Type 0 where
  pub near : Near total due rest
  pub same : verdict count total due rest ≡ verdict count total (start transitions) behind

pub first-due : (count total transitions : ℕ) (behind : List ℕ) (due : Due) → Lent total count transitions places_end behind → due ≡ start transitions
    → Stands count total transitions behind due behind
unfolding start
first-due count total transitions behind due lent e = rw e
    (let i = lent.inside in let n = lent.near in let m = lent.more in
    record { near = record { least = omega arith; low = omega arith; width = omega arith; inside = i; bound = omega arith }; same = refl })

module _ (count total transitions : ℕ) (behind : List ℕ) (few : count ≤ most_places) (due : Due) (rest : List ℕ) (at : Stands count total transitions behind due rest) where
  turned : ended due rest ≡ false
      → unless (fault_in count due rest) (total - length rest) (verdict count total (next_due due rest) (drop (length_at rest) rest)) ≡ verdict count total (start transitions) behind
  turned e = sym (turn count total due rest at.near.least e) ∙ at.same

  module _ (size : ℕ) (next : Due) (more : List ℕ) (right : Right count due rest size next) (em : more ≡ drop size rest) where
    behind-it : more ≡ drop (length_at rest) rest
    behind-it = em ∙ ap (λ (n : ℕ). drop n rest) right.long

    pub go_on : ended due rest ≡ false → Stands count total transitions behind next more
    go_on e = rw (behind-it, right.next)
        (record {
          near = (passed count total few due rest at.near right.none).near;
          same = sym (unless-none (fault_in count due rest) (total - length rest) _ right.none) ∙ turned e;
        })

    pub shrinks : length more < length rest
    shrinks = rw behind-it (passed count total few due rest at.near right.none).shorter

  pub stop : (wrong : ℕ) → ended due rest ≡ false → fault_in count due rest ≢ 0 → wrong ≡ fault_in count due rest
      → refused wrong (total - length rest) ≡ answering (count + transitions) (verdict count total (start transitions) behind)
  stop wrong e h w = ap (λ (n : ℕ). refused n (total - length rest)) w
      ∙ ap (answering (count + transitions)) (sym (unless-refused (fault_in count due rest) (total - length rest) _ h) ∙ turned e)

  pub done : ended due rest ≡ true → accepted (count + transitions) ≡ answering (count + transitions) (verdict count total (start transitions) behind)
  done e = ap (answering (count + transitions)) (sym (at-end count total due rest e) ∙ at.same)
