-- A turn of the reader of transitions and arcs: one law for every record, by what is due.
use Prim.Native.Nat.{ℕ, zero, suc, ◌-◌, ◌≤◌}
use mathlib.Core.Path.{◌≡◌, refl, sym, ◌∙◌, ap}
use mathlib.Core.Logic.{◌≢◌}
use mathlib.Core.Bool.{Bool, true, false, not, cond, ◌&&◌}
use mathlib.Core.List.{List}
use native.Mathlib.Omega.{arith}
use lib.ListN.{length, drop, length-drop}
use lib.Dec.{leb, eqb}
use borrow.Author.Tests.{leb-true, eqb-true, eqb-false, eq-eqb, ne_eqb, le-leb}
use Rattle.ranges.specs.Tests.{decide, clash, and_left, and_right, not-true}
use Rattle.effbd.specs.Answers.{Outcome, accepted, refused, unless, returning_zero}
use Rattle.effbd.specs.Records.{word, length_at, kind_at, length_of, kind_table, entry_in, fault_at}
use Rattle.effbd.specs.Nets.{take_arc, arc_fine, transition_fine, above, arc_at, transition_at, Arc, Transition, Tail, with_arc, with_transition, arc_fault, transition_fault, read_tail}
use Rattle.net_file.specs.declared.Due.{Due}
use Rattle.net_file.specs.Due.{own_length, length_right, arc_next, size_by, arc_size, transition_size, fault_in, behind_arc, behind_transition, ended, verdict}
use Rattle.agreement.specs.ByteLaws.{Clean, clean-none}
use Rattle.ranges.specs.Outcomes.{unless-same}
use Rattle.net_file.proofs.Tails.{arc-kind, arc-length, arc-read, transition-read, tail-arc, tail-end, tail-over, tail-transition, tail-fuel}

-- what may stand next
pub data Way (due : Due) (rest : List ℕ) : Type 0 where
  arc : arc_next due.kind rest ≡ true → Way due rest
  over : arc_next due.kind rest ≡ false → eqb due.transitions 0 ≡ true → Way due rest
  transition : arc_next due.kind rest ≡ false → eqb due.transitions 0 ≡ false → Way due rest

pub way : (due : Due) (rest : List ℕ) → Way due rest
way due rest = decide (arc_next due.kind rest) (λ a. arc a)
    (λ a. decide (eqb due.transitions 0) (λ t. over a t) (λ t. transition a t))

-- where a kind is due, the length by the record's own kind is the length by the kind that is due
pub own-length : (rest : List ℕ) (kind number : ℕ) (fine : Bool)
    → fault_at rest (eqb (kind_at rest) kind) (length_right rest) fine number ≡ fault_at rest (eqb (kind_at rest) kind) (eqb (length_at rest) (length_of kind)) fine number
unfolding fault_at
own-length rest kind number fine = decide (eqb (kind_at rest) kind)
    (λ e. rw (eqb-true (kind_at rest) kind e))
    (λ e. rw e)

-- what is due behind the record at the start
unfoldable pub next_due : Due → List ℕ → Due
next_due due rest = cond (eqb (kind_at rest) 34) (behind_transition due rest) (behind_arc due rest)

module _ (count total : ℕ) where
  -- the fault that each way gives
  pub fault-arc : (due : Due) (rest : List ℕ) → arc_next due.kind rest ≡ true → fault_in count due rest ≡ arc_fault count total due.kind due.from rest
  unfolding fault_in arc_fault
  fault-arc due rest a = rw a

  pub fault-over : (due : Due) (rest : List ℕ) → arc_next due.kind rest ≡ false → eqb due.transitions 0 ≡ true → fault_in count due rest ≡ 6
  unfolding fault_in
  fault-over due rest a t = rw (a, t)

  pub fault-transition : (due : Due) (rest : List ℕ) → arc_next due.kind rest ≡ false → eqb due.transitions 0 ≡ false
      → fault_in count due rest ≡ transition_fault count total due.label rest
  unfolding fault_in transition_fault
  fault-transition due rest a t = rw (a, t) (own-length rest 34 5 (transition_fine due.label (transition_at rest)))

  -- what is due next, by the record that was read
  pub next-transition : (due : Due) (rest : List ℕ) → kind_at rest ≡ 34 → next_due due rest ≡ behind_transition due rest
  unfolding next_due
  next-transition due rest e = rw e

  pub next-arc : (due : Due) (rest : List ℕ) → 35 ≤ kind_at rest → next_due due rest ≡ behind_arc due rest
  unfolding next_due
  next-arc due rest h = rw (ne_eqb (kind_at rest) 34 (omega arith))

  -- the verdict over the numbers that are due
  abbrev behind : (transitions kind from label : ℕ) → List ℕ → Outcome ℕ
  behind transitions kind from label rest = returning_zero (read_tail count total (suc (length rest)) transitions kind from label rest)

  zero-unless : (f v : ℕ) (o : Outcome Tail) → returning_zero (unless f v o) ≡ unless f v (returning_zero o)
  zero-unless zero v o = refl
  zero-unless (suc f) v o = refl

  zero-arc : (x : Arc) (o : Outcome Tail) → returning_zero (with_arc x o) ≡ returning_zero o
  zero-arc x (accepted t) = refl
  zero-arc x (refused n v) = refl

  zero-transition : (x : Transition) (o : Outcome Tail) → returning_zero (with_transition x o) ≡ returning_zero o
  zero-transition x (accepted t) = refl
  zero-transition x (refused n v) = refl

  behind-arc : (transitions kind from label : ℕ) (rest : List ℕ) → 35 ≤ kind → arc_next kind rest ≡ true
      → behind transitions kind from label rest
      ≡ unless (arc_fault count total kind from rest) (total - length rest) (behind transitions (kind_at rest) (above (arc_at rest)) label (drop 8 rest))
  behind-arc transitions kind from label rest h a =
      ap returning_zero (tail-arc count total (length rest) transitions kind from label rest a)
      ∙ (zero-unless (arc_fault count total kind from rest) (total - length rest) _
      ∙ unless-same (arc_fault count total kind from rest) (total - length rest) _ _
      (λ e. let w = (arc-read count total kind from rest h a e).whole in
      zero-arc (arc_at rest) (read_tail count total (length rest) transitions (kind_at rest) (above (arc_at rest)) label (drop 8 rest)) ∙ ap returning_zero (tail-fuel count total (length rest) (suc (length (drop 8 rest))) transitions (kind_at rest) (above (arc_at rest)) label (drop 8 rest) (rw (length-drop 8 rest) (omega arith)) (omega arith))))

  behind-transition : (transitions kind from label : ℕ) (rest : List ℕ) → arc_next kind rest ≡ false → eqb transitions 0 ≡ false
      → behind transitions kind from label rest
      ≡ unless (transition_fault count total label rest) (total - length rest) (behind (transitions - 1) take_arc 0 (word rest 4) (drop 10 rest))
  behind-transition zero kind from label rest a t = clash refl t
  behind-transition (suc more) kind from label rest a t = let z : suc more - 1 ≡ more = omega arith in rw z
      (ap returning_zero (tail-transition count total (length rest) more kind from label rest a)
      ∙ (zero-unless (transition_fault count total label rest) (total - length rest) _
      ∙ unless-same (transition_fault count total label rest) (total - length rest) _ _
      (λ e. let w = (transition-read count total label rest e).whole in
      zero-transition (transition_at rest) (read_tail count total (length rest) more take_arc 0 (word rest 4) (drop 10 rest)) ∙ ap returning_zero (tail-fuel count total (length rest) (suc (length (drop 10 rest))) more take_arc 0 (word rest 4) (drop 10 rest) (rw (length-drop 10 rest) (omega arith)) (omega arith)))))

  behind-over : (transitions kind from label : ℕ) (rest : List ℕ) → arc_next kind rest ≡ false → eqb transitions 0 ≡ true → (length rest ≡ 0 → ⊥)
      → behind transitions kind from label rest ≡ refused 6 (total - length rest)
  behind-over transitions kind from label rest a t h = rw (eqb-true transitions 0 t, tail-over count total (length rest) kind from label rest h a)

  left_over : (due : Due) (rest : List ℕ) → ended due rest ≡ false → eqb due.transitions 0 ≡ true → length rest ≡ 0 → ⊥
  unfolding ended
  left_over due rest e t z = let q : eqb (length rest) 0 ≡ false = rw t at e in eqb-false (length rest) 0 q z

  -- THEOREM: the verdict is the fault of the next record, or the verdict on what follows it
  pub turn : (due : Due) (rest : List ℕ) → 35 ≤ due.kind → ended due rest ≡ false
      → verdict count total due rest ≡ unless (fault_in count due rest) (total - length rest) (verdict count total (next_due due rest) (drop (length_at rest) rest))
  unfolding verdict behind_arc behind_transition
  turn due rest h e = go (way due rest)
    where
      go : Way due rest → behind due.transitions due.kind due.from due.label rest
          ≡ unless (fault_in count due rest) (total - length rest) (verdict count total (next_due due rest) (drop (length_at rest) rest))
      go (arc a) = rw (fault-arc due rest a) (behind-arc due.transitions due.kind due.from due.label rest h a
          ∙ unless-same (arc_fault count total due.kind due.from rest) (total - length rest) _ _
          (λ z. let w = arc-read count total due.kind due.from rest h a z in
          sym (ap (λ (d : Due). verdict count total d (drop (length_at rest) rest)) (next-arc due rest w.kinds.least)
          ∙ ap (λ (n : ℕ). behind due.transitions (kind_at rest) (above (arc_at rest)) due.label (drop n rest)) w.eight)))
      go (over a t) = rw (fault-over due rest a t) (behind-over due.transitions due.kind due.from due.label rest a t (left_over due rest e t))
      go (transition a t) = rw (fault-transition due rest a t) (behind-transition due.transitions due.kind due.from due.label rest a t
          ∙ unless-same (transition_fault count total due.label rest) (total - length rest) _ _
          (λ z. let w = transition-read count total due.label rest z in
          sym (ap (λ (d : Due). verdict count total d (drop (length_at rest) rest)) (next-transition due rest w.kind)
          ∙ ap (λ (n : ℕ). behind (due.transitions - 1) take_arc 0 (word rest 4) (drop n rest)) w.ten)))

  pub at-end : (due : Due) (rest : List ℕ) → ended due rest ≡ true → verdict count total due rest ≡ accepted 0
  unfolding verdict ended
  at-end due rest e =
      let t = eqb-true due.transitions 0 (and_left (eqb due.transitions 0) (eqb (length rest) 0) e) in
      let l = eqb-true (length rest) 0 (and_right (eqb due.transitions 0) (eqb (length rest) 0) e) in
      rw (t, tail-end count total (length rest) due.kind due.from due.label rest l)

-- a size that is not 0 is the length that the kind gives: the record has it, and stands whole
pub record Sized (kind size : ℕ) (rest : List ℕ) : Type 0 where
  pub own : size ≡ length_of kind
  pub has : length_at rest ≡ length_of kind
  pub whole : length_of kind ≤ length rest

pub sized : (kind size : ℕ) (rest : List ℕ) → size ≡ size_by kind rest → size ≢ 0 → Sized kind size rest
unfolding size_by
sized kind size rest e h = go (eqb (length_at rest) (length_of kind)) (leb (length_of kind) (length rest)) refl refl e
  where
    go : (a b : Bool) → eqb (length_at rest) (length_of kind) ≡ a → leb (length_of kind) (length rest) ≡ b → size ≡ cond (a && b) (length_of kind) 0 → Sized kind size rest
    go true true p q z = record { own = z; has = eqb-true (length_at rest) (length_of kind) p; whole = leb-true (length_of kind) (length rest) q }
    go true false p q z = absurd (h z)
    go false b p q z = absurd (h z)

pub has-size : (kind : ℕ) (rest : List ℕ) → length_at rest ≡ length_of kind → length_of kind ≤ length rest → size_by kind rest ≡ length_of kind
unfolding size_by
has-size kind rest e l = rw (eq-eqb (length_at rest) (length_of kind) e, le-leb (length_of kind) (length rest) l)

-- a test that lets a size through
pub record Through (b : Bool) (size given : ℕ) : Type 0 where
  pub test : b ≡ true
  pub is : size ≡ given

pub through : (b : Bool) (size given : ℕ) → size ≡ cond b given 0 → size ≢ 0 → Through b size given
through true size given e h = record { test = refl; is = e }
through false size given e h = absurd (h e)

-- the length of an arc that is due
pub arc-long : (due kind : ℕ) (rest : List ℕ) → 35 ≤ due → arc_next due rest ≡ true → kind ≡ kind_at rest → length_of kind ≡ 8
unfolding arc_next
arc-long due kind rest least a ek = ap length_of ek ∙ arc-length (kind_at rest) (arc-kind due (kind_at rest) least (and_right (leb 4 (length rest)) _ a)).0

-- the fields of an arc and of a transition that stands whole are there
pub arc-there : (due kind size : ℕ) (rest : List ℕ) → 35 ≤ due → arc_next due rest ≡ true → kind ≡ kind_at rest → size ≡ size_by kind rest → size ≢ 0 → 8 ≤ length rest
arc-there due kind size rest least a ek es h = let s = sized kind size rest es h in let y = arc-long due kind rest least a ek in let l = s.whole in omega arith

pub ten : length_of 34 ≡ 10
unfolding length_of entry_in kind_table
ten = refl

pub transition-there : (kind size : ℕ) (rest : List ℕ) → kind ≡ 34 → size ≡ size_by kind rest → size ≢ 0 → 10 ≤ length rest
transition-there kind size rest ek es h = let s = sized kind size rest es h in let y = ap length_of ek ∙ ten in let l = s.whole in omega arith

-- a record that is due and has nothing off: no fault, its length, and where to go on
pub record Right (count : ℕ) (due : Due) (rest : List ℕ) (size : ℕ) (behind : Due) : Type 0 where
  pub none : fault_in count due rest ≡ 0
  pub long : size ≡ length_at rest
  pub whole : 8 ≤ length rest
  pub next : behind ≡ next_due due rest

module _ (count : ℕ) (due : Due) (rest : List ℕ) (least : 35 ≤ due.kind) where
  pub right-arc : (size : ℕ) → size ≡ arc_size count due rest → size ≢ 0 → Right count due rest size (behind_arc due rest)
  unfolding arc_size arc_next
  right-arc size e h =
      let t = through (arc_next due.kind rest && arc_fine count due.kind due.from (arc_at rest)) size _ e h in
      let a = and_left (arc_next due.kind rest) _ t.test in
      let s = sized (kind_at rest) size rest t.is h in
      let k = (arc-kind due.kind (kind_at rest) least (and_right (leb 4 (length rest)) _ a)).0.least in
      let l = s.whole in let z = s.has in
      record {
        none = fault-arc count 0 due rest a ∙ (unfold arc_fault in
            clean-none rest true (length_right rest) (arc_fine count due.kind due.from (arc_at rest)) 5
            (record { long = leb-true 4 (length rest) (and_left (leb 4 (length rest)) _ a); is_due = refl; is_right = eq-eqb (length_at rest) (own_length rest) z; whole = omega arith; is_fine = and_right (arc_next due.kind rest) _ t.test }));
        long = s.own ∙ sym z;
        whole = arc-there due.kind (kind_at rest) size rest least a refl t.is h;
        next = sym (next-arc count 0 due rest k);
      }

  no-arc : kind_at rest ≡ 34 → arc_next due.kind rest ≡ false
  no-arc k = decide (arc_next due.kind rest)
      (λ a. let z = (arc-kind due.kind (kind_at rest) least (and_right (leb 4 (length rest)) _ (unfold arc_next in a))).0.least in absurd (omega arith))
      (λ a. a)

  clean-transition : Clean rest (eqb (kind_at rest) 34) (eqb (length_at rest) (length_of 34)) (transition_fine due.label (transition_at rest)) → transition_fault count 0 due.label rest ≡ 0
  unfolding transition_fault
  clean-transition c = clean-none rest (eqb (kind_at rest) 34) (eqb (length_at rest) (length_of 34)) (transition_fine due.label (transition_at rest)) 5 c

  pub right-transition : (size : ℕ) → size ≡ transition_size due rest → size ≢ 0 → Right count due rest size (behind_transition due rest)
  unfolding transition_size
  right-transition size e h =
      let t = through (eqb (kind_at rest) 34 && (not (eqb due.transitions 0) && transition_fine due.label (transition_at rest))) size _ e h in
      let q = and_right (eqb (kind_at rest) 34) _ t.test in
      let k = eqb-true (kind_at rest) 34 (and_left (eqb (kind_at rest) 34) _ t.test) in
      let s = sized (kind_at rest) size rest t.is h in
      let y : length_of (kind_at rest) ≡ 10 = ap length_of k ∙ ten in
      let l = s.whole in let z = s.has in
      record {
        none = fault-transition count 0 due rest (no-arc k) (not-true (eqb due.transitions 0) (and_left (not (eqb due.transitions 0)) _ q)) ∙ clean-transition
            (record { long = omega arith; is_due = eq-eqb (kind_at rest) 34 k; is_right = eq-eqb (length_at rest) (length_of 34) (z ∙ ap length_of k); whole = omega arith; is_fine = and_right (not (eqb due.transitions 0)) _ q });
        long = s.own ∙ sym z;
        whole = omega arith;
        next = sym (next-transition count 0 due rest k);
      }

  -- where neither is right there is a fault
  pub none_right : (a t : ℕ) → a ≡ arc_size count due rest → t ≡ transition_size due rest → a ≡ 0 → t ≡ 0 → fault_in count due rest ≢ 0
  unfolding arc_size transition_size
  none_right a t ea et za zt e = go (way due rest)
    where
      go : Way due rest → ⊥
      go (arc n) =
          let r = arc-read count 0 due.kind due.from rest least n (sym (fault-arc count 0 due rest n) ∙ e) in
          let y = arc-length (kind_at rest) r.kinds in let w = r.whole in let z = r.eight in
          let s : a ≡ 8 = ea ∙ rw (n, r.fine) (has-size (kind_at rest) rest (omega arith) (omega arith) ∙ y) in
          omega arith
      go (over n z) = let q = sym (fault-over count 0 due rest n z) ∙ e in omega (arith, q)
      go (transition n d) =
          let r = transition-read count 0 due.label rest (sym (fault-transition count 0 due rest n d) ∙ e) in
          let y : length_of (kind_at rest) ≡ 10 = ap length_of r.kind ∙ ten in let w = r.whole in let z = r.ten in
          let s : t ≡ 10 = et ∙ rw (eq-eqb (kind_at rest) 34 r.kind, d, r.fine) (has-size (kind_at rest) rest (omega arith) (omega arith) ∙ y) in
          omega arith
