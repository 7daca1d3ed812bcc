-- The reader of places: one more, a fault, and what follows them.
use Prim.Native.Nat.{ℕ, suc, ◌+◌, ◌-◌, ◌*◌, ◌≤◌, ◌<◌}
use mathlib.Core.Path.{◌≡◌, refl, sym, ◌∙◌, ap}
use mathlib.Core.Logic.{◌≢◌}
use mathlib.Core.Bool.{true, ◌&&◌}
use mathlib.Core.List.{List}
use native.Mathlib.Nat.{sub-zero}
use native.Mathlib.Omega.{arith}
use lib.ListN.{length, drop, length-drop}
use lib.Dec.{eqb}
use borrow.Author.Tests.{eqb-true, eq-eqb}
use Rattle.effbd.specs.Answers.{Outcome, accepted, refused, unless, and_then}
use Rattle.effbd.specs.Records.{word, length_at, kind_at, length_of, kind_table, entry_in, Got, adding, read_many}
use Rattle.effbd.specs.Nets.{most_places, mark_at, mark_fault, net_head_fault}
use Rattle.net_file.specs.Contents.{head_fine}
use Rattle.ranges.specs.Tests.{and_left, and_right}
use Rattle.net_file.specs.Due.{start, own_length, place_fault, size_by, head_size, place_size, verdict, places_verdict, answering, Lent, head_end, places_end}
use Rattle.agreement.specs.ByteLaws.{Clean, clean-none, none-clean}
use Rattle.ranges.specs.Outcomes.{unless-none, unless-refused, unless-then}
use Rattle.net_file.proofs.Turns.{own-length, sized, has-size, through}

-- a place without fault
pub record PlaceRead (rest : List ℕ) : Type 0 where
  pub kind : kind_at rest ≡ 33
  pub six : length_at rest ≡ 6
  pub whole : 6 ≤ length rest

pub place_read : (rest : List ℕ) → mark_fault rest ≡ 0 → PlaceRead rest
unfolding mark_fault length_of entry_in kind_table
place_read rest e =
    let c = none-clean rest (eqb (kind_at rest) 33) (eqb (length_at rest) 6) true 4 e in
    let s : length_at rest ≡ 6 = eqb-true (length_at rest) 6 c.is_right in
    let z = c.whole in
    record { kind = eqb-true (kind_at rest) 33 c.is_due; six = s; whole = omega arith }

place-fault : (rest : List ℕ) → place_fault rest ≡ mark_fault rest
unfolding place_fault mark_fault
place-fault rest = own-length rest 33 5 true

pub six : length_of 33 ≡ 6
unfolding length_of entry_in kind_table
six = refl

clean-place : (rest : List ℕ) → Clean rest (eqb (kind_at rest) 33) (eqb (length_at rest) (length_of 33)) true → mark_fault rest ≡ 0
unfolding mark_fault
clean-place rest c = clean-none rest (eqb (kind_at rest) 33) (eqb (length_at rest) (length_of 33)) true 5 c

-- a size that is not 0 is that of a place without fault; where it is 0 there is a fault
right-place : (size : ℕ) (rest : List ℕ) → size ≡ place_size rest → size ≢ 0 → (mark_fault rest ≡ 0) × (size ≡ 6)
unfolding place_size
right-place size rest e h =
    let t = through (eqb (kind_at rest) 33) size _ e h in
    let k = eqb-true (kind_at rest) 33 t.test in
    let s = sized (kind_at rest) size rest t.is h in
    let y : length_of (kind_at rest) ≡ 6 = ap length_of k ∙ six in
    let l = s.whole in let z = s.has in (
      clean-place rest (record { long = omega arith; is_due = t.test; is_right = eq-eqb (length_at rest) (length_of 33) (z ∙ ap length_of k); whole = omega arith; is_fine = refl }),
      s.own ∙ y,
    )

wrong-place : (size : ℕ) (rest : List ℕ) → size ≡ place_size rest → size ≡ 0 → mark_fault rest ≢ 0
unfolding place_size
wrong-place size rest e h z =
    let p = place_read rest z in
    let y : length_of (kind_at rest) ≡ 6 = ap length_of p.kind ∙ six in let w = p.whole in let x = p.six in
    let s : size ≡ 6 = e ∙ rw (eq-eqb (kind_at rest) 33 p.kind) (has-size (kind_at rest) rest (omega arith) (omega arith) ∙ y) in
    omega arith

-- the same of the head
pub eight : length_of 32 ≡ 8
unfolding length_of entry_in kind_table
eight = refl

pub head-there : (kind size : ℕ) (net : List ℕ) → kind ≡ 32 → size ≡ size_by kind net → size ≢ 0 → 8 ≤ length net
head-there kind size net ek es h = let s = sized kind size net es h in let y = ap length_of ek ∙ eight in let l = s.whole in omega arith

pub right-head : (size : ℕ) (net : List ℕ) → size ≡ head_size net → size ≢ 0 → (0 ≡ net_head_fault net) × (size ≡ own_length net)
unfolding head_size net_head_fault head_fine
right-head size net e h =
    let t = through (eqb (kind_at net) 32 && head_fine (word net 4) (word net 6)) size _ e h in
    let k = and_left (eqb (kind_at net) 32) (head_fine (word net 4) (word net 6)) t.test in
    let s = sized (kind_at net) size net t.is h in
    let y : length_of (kind_at net) ≡ 8 = ap length_of (eqb-true (kind_at net) 32 k) ∙ eight in
    let l = s.whole in let z = s.has in (
      sym (clean-none net (eqb (kind_at net) 32) (eqb (length_at net) (length_of 32)) (head_fine (word net 4) (word net 6)) 4
          (record { long = omega arith; is_due = k; is_right = eq-eqb (length_at net) (length_of 32) (z ∙ ap length_of (eqb-true (kind_at net) 32 k)); whole = omega arith; is_fine = and_right (eqb (kind_at net) 32) (head_fine (word net 4) (word net 6)) t.test })),
      s.own,
    )

pub wrong-head : (net : List ℕ) → 0 ≡ head_size net → net_head_fault net ≢ 0
unfolding head_size net_head_fault head_fine
wrong-head net e z =
    let c = none-clean net (eqb (kind_at net) 32) (eqb (length_at net) (length_of 32)) (head_fine (word net 4) (word net 6)) 3 z in
    let k = eqb-true (kind_at net) 32 c.is_due in
    let y : length_of (kind_at net) ≡ 8 = ap length_of k ∙ eight in
    let x = eqb-true (length_at net) (length_of 32) c.is_right in let w = c.whole in let v = eight in
    let s : ◌≡◌ {A = ℕ} 0 8 = e ∙ rw (c.is_due, c.is_fine) (has-size (kind_at net) net (omega arith) (omega arith) ∙ y) in
    omega arith

pub place-faulty : (size : ℕ) (rest : List ℕ) → size ≡ place_size rest → size ≡ 0 → place_fault rest ≢ 0
place-faulty size rest e h z = wrong-place size rest e h (sym (place-fault rest) ∙ z)

adding-then : {A : Type 0} {B : Type 0} (a : A) (o : Outcome (Got (List A))) (g : List ℕ → Outcome B)
    → and_then (adding a o) (λ got. g got.rest) ≡ and_then o (λ got. g got.rest)
adding-then a (accepted got) g = refl
adding-then a (refused n v) g = refl

module _ (count total transitions : ℕ) where
  -- one place more is its fault, or what is answered behind it
  turn : (n : ℕ) (rest : List ℕ)
      → places_verdict count total transitions (suc n) rest ≡ unless (mark_fault rest) (total - length rest) (places_verdict count total transitions n (drop (length_at rest) rest))
  unfolding places_verdict read_many
  turn n rest =
      unless-then (mark_fault rest) (total - length rest) (adding (mark_at rest) (read_many mark_fault mark_at total n (drop (length_at rest) rest))) (λ got. verdict count total (start transitions) got.rest)
      ∙ ap (unless (mark_fault rest) (total - length rest)) (adding-then (mark_at rest) (read_many mark_fault mark_at total n (drop (length_at rest) rest)) (verdict count total (start transitions)))

  none-due : (rest : List ℕ) → places_verdict count total transitions 0 rest ≡ verdict count total (start transitions) rest
  unfolding places_verdict read_many
  none-due rest = refl

-- where the reader stands with n of the places read
pub record AtPlace (count total transitions : ℕ) (behind : List ℕ) (n : ℕ) (rest : List ℕ) : Type 0 where
  pub few : n ≤ count
  pub inside : length rest ≤ total
  pub near : total ≤ length rest + head_end + 6 * n
  pub same : places_verdict count total transitions (count - n) rest ≡ places_verdict count total transitions count behind

pub first-place : (count total transitions : ℕ) (behind : List ℕ) → Lent total count transitions head_end behind → AtPlace count total transitions behind 0 behind
first-place count total transitions behind lent =
    let n = lent.near in
    record { few = omega arith; inside = lent.inside; near = omega arith; same = rw sub-zero }

module _ (count total transitions : ℕ) (behind : List ℕ) (few : count ≤ most_places) (n : ℕ) (rest : List ℕ) (at : AtPlace count total transitions behind n rest) where
  pub place-offset : total - length rest < 4294967296
  place-offset = let a = at.near in let b = at.few in omega arith

  module _ (size : ℕ) (l : n < count) (es : size ≡ place_size rest) where
    turned : unless (mark_fault rest) (total - length rest) (places_verdict count total transitions (count - (n + 1)) (drop (length_at rest) rest))
        ≡ places_verdict count total transitions count behind
    turned = sym (turn count total transitions (count - (n + 1)) rest)
        ∙ ((let z : suc (count - (n + 1)) ≡ count - n = omega arith in ap (λ (m : ℕ). places_verdict count total transitions m rest) z) ∙ at.same)

    pub place-off : (wrong : ℕ) → size ≡ 0 → wrong ≡ place_fault rest
        → refused wrong (total - length rest) ≡ answering (count + transitions) (places_verdict count total transitions count behind)
    place-off wrong h ew = ap (λ (m : ℕ). refused m (total - length rest)) (ew ∙ place-fault rest)
        ∙ ap (answering (count + transitions)) (sym (unless-refused (mark_fault rest) (total - length rest) _ (wrong-place size rest es h)) ∙ turned)

    pub one_more : (more : List ℕ) → size ≢ 0 → more ≡ drop size rest → AtPlace count total transitions behind (n + 1) more
    one_more more h em =
        let r = right-place size rest es h in
        let p = place_read rest r.0 in
        let w = p.whole in let a = at.near in let i = at.inside in
        let b : more ≡ drop 6 rest = em ∙ ap (λ (m : ℕ). drop m rest) r.1 in
        let d : length more ≡ length rest - 6 = ap length b ∙ length-drop 6 rest in
        record {
          few = omega arith;
          inside = omega arith;
          near = omega arith;
          same = ap (places_verdict count total transitions (count - (n + 1))) (b ∙ ap (λ (m : ℕ). drop m rest) (sym p.six))
              ∙ (sym (unless-none (mark_fault rest) (total - length rest) _ r.0) ∙ turned);
        }

  -- behind the last place
  pub places-done : count ≤ n → (said : Outcome ℕ) → said ≡ answering (count + transitions) (verdict count total (start transitions) rest)
      → said ≡ answering (count + transitions) (places_verdict count total transitions count behind)
  places-done l said e = e ∙ ap (answering (count + transitions))
      (sym (none-due count total transitions rest) ∙ ((let z : 0 ≡ count - n = omega arith in ap (λ (m : ℕ). places_verdict count total transitions m rest) z) ∙ at.same))

  pub lend-on : Lent total count transitions head_end behind → Lent total count transitions places_end rest
  lend-on lent =
      let a = at.near in let b = at.few in
      record { places = lent.places; more = lent.more; inside = at.inside; near = omega arith }
