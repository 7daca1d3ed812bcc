-- The reader of transitions and arcs, a record at a time.
use Prim.Native.Nat.{ℕ, zero, suc, ◌+◌, ◌-◌, ◌≤◌, ◌<◌}
use mathlib.Core.Path.{◌≡◌, refl, ◌∙◌}
use mathlib.Core.Logic.{◌≢◌}
use mathlib.Core.Bool.{true, false}
use mathlib.Core.List.{List}
use native.Mathlib.Omega.{arith}
use lib.ListN.{length, drop, length-drop}
use lib.Dec.{leb, eqb}
use borrow.Author.Tests.{leb-true, eqb-true, eqb-false, eq-eqb, ne_eqb, lt-leb, lt-ltb}
use Rattle.ranges.specs.Tests.{decide, and_left, and_right}
use Rattle.ranges.specs.RangeLaws.{all-elim}
use Rattle.effbd.specs.Ranges.{all_below}
use Rattle.effbd.specs.Answers.{accepted, refused, unless}
use Rattle.effbd.specs.Records.{word, length_at, kind_at, length_of, fault_at, kind_table, entry_in}
use Rattle.effbd.specs.Nets.{take_arc, arc_due, arc_fine, above, arc_at, transition_fine, transition_at, no_tail, with_arc, with_transition, arc_fault, transition_fault, read_tail}
use Rattle.net_file.specs.Due.{arc_next}
use Rattle.agreement.specs.ByteLaws.{none-clean}

-- the kinds of arcs
pub record Arcs (kind : ℕ) : Type 0 where
  pub least : 35 ≤ kind
  pub most : kind ≤ 37

pub arc-kind : (k j : ℕ) → 35 ≤ k → arc_due k j ≡ true → Arcs j × (k ≤ j)
unfolding arc_due
arc-kind k j h e =
    let a = leb-true k j (and_left (leb k j) (leb j 37) e) in
    let b = leb-true j 37 (and_right (leb k j) (leb j 37) e) in
    (record { least = omega arith; most = b }, a)

arc-lengths : all_below 3 (λ i. eqb (length_of (35 + i)) 8) ≡ true
unfolding length_of entry_in kind_table
arc-lengths = refl

pub arc-length : (k : ℕ) → Arcs k → length_of k ≡ 8
arc-length k a =
    let e : 35 + (k - 35) ≡ k = omega arith in
    rw e at (eqb-true (length_of (35 + (k - 35))) 8 (all-elim 3 (λ i. eqb (length_of (35 + i)) 8) arc-lengths (k - 35) (omega arith)))

module _ (count total : ℕ) where
  -- an arc without fault, a transition without fault
  pub record ArcRead (k from : ℕ) (rest : List ℕ) : Type 0 where
    pub kinds : Arcs (kind_at rest)
    pub rising : k ≤ kind_at rest
    pub eight : length_at rest ≡ 8
    pub whole : 8 ≤ length rest
    pub fine : arc_fine count k from (arc_at rest) ≡ true

  pub arc-read : (k from : ℕ) (rest : List ℕ) → 35 ≤ k → arc_next k rest ≡ true → arc_fault count total k from rest ≡ 0 → ArcRead k from rest
  unfolding arc_next arc_fault
  arc-read k from rest h next e =
      let c = none-clean rest true (eqb (length_at rest) (length_of (kind_at rest))) (arc_fine count k from (arc_at rest)) 4 e in
      let a = arc-kind k (kind_at rest) h (and_right (leb 4 (length rest)) (arc_due k (kind_at rest)) next) in
      let s : length_at rest ≡ 8 = eqb-true (length_at rest) (length_of (kind_at rest)) c.is_right ∙ arc-length (kind_at rest) a.0 in
      let z = c.whole in
      record { kinds = a.0; rising = a.1; eight = s; whole = omega arith; fine = c.is_fine }

  pub record TransitionRead (label : ℕ) (rest : List ℕ) : Type 0 where
    pub kind : kind_at rest ≡ 34
    pub ten : length_at rest ≡ 10
    pub whole : 10 ≤ length rest
    pub fine : transition_fine label (transition_at rest) ≡ true

  pub transition-read : (label : ℕ) (rest : List ℕ) → transition_fault count total label rest ≡ 0 → TransitionRead label rest
  unfolding transition_fault length_of entry_in kind_table
  transition-read label rest e =
      let c = none-clean rest (eqb (kind_at rest) 34) (eqb (length_at rest) 10) (transition_fine label (transition_at rest)) 4 e in
      let s : length_at rest ≡ 10 = eqb-true (length_at rest) 10 c.is_right in
      let z = c.whole in
      record { kind = eqb-true (kind_at rest) 34 c.is_due; ten = s; whole = omega arith; fine = c.is_fine }

  -- the four ways of `read_tail`: an arc next, the end, bytes left over, a transition due
  pub tail-arc : (fuel more k from label : ℕ) (rest : List ℕ) → arc_next k rest ≡ true
      → read_tail count total (suc fuel) more k from label rest
      ≡ unless (arc_fault count total k from rest) (total - length rest) (with_arc (arc_at rest) (read_tail count total fuel more (kind_at rest) (above (arc_at rest)) label (drop 8 rest)))
  unfolding read_tail arc_next
  tail-arc fuel zero k from label rest e =
      let l = leb-true 4 (length rest) (and_left (leb 4 (length rest)) (arc_due k (kind_at rest)) e) in
      rw (ne_eqb (length rest) 0 (omega arith), e)
  tail-arc fuel (suc more) k from label rest e = rw e

  pub tail-end : (fuel k from label : ℕ) (rest : List ℕ) → length rest ≡ 0 → read_tail count total (suc fuel) 0 k from label rest ≡ accepted no_tail
  unfolding read_tail
  tail-end fuel k from label rest e = rw (eq-eqb (length rest) 0 e)

  pub tail-over : (fuel k from label : ℕ) (rest : List ℕ) → (length rest ≡ 0 → ⊥) → arc_next k rest ≡ false → read_tail count total (suc fuel) 0 k from label rest ≡ refused 6 (total - length rest)
  unfolding read_tail arc_next
  tail-over fuel k from label rest h e = rw (ne_eqb (length rest) 0 h, e)

  pub tail-transition : (fuel more k from label : ℕ) (rest : List ℕ) → arc_next k rest ≡ false
      → read_tail count total (suc fuel) (suc more) k from label rest
      ≡ unless (transition_fault count total label rest) (total - length rest) (with_transition (transition_at rest) (read_tail count total fuel more take_arc 0 (word rest 4) (drop 10 rest)))
  unfolding read_tail arc_next
  tail-transition fuel more k from label rest e = rw e

  -- the fuel does not matter where it suffices
  no-head : (label : ℕ) (rest : List ℕ) → length rest ≡ 0 → transition_fault count total label rest ≡ 1
  unfolding transition_fault fault_at
  no-head label rest e = rw (lt-ltb (length rest) 4 (omega arith))

  pub tail-fuel : (f g more k from label : ℕ) (rest : List ℕ) → length rest < f → length rest < g
      → read_tail count total f more k from label rest ≡ read_tail count total g more k from label rest
  unfolding read_tail
  tail-fuel zero g more k from label rest h i = absurd (omega arith)
  tail-fuel (suc f) zero more k from label rest h i = absurd (omega arith)
  tail-fuel (suc f) (suc g) zero k from label rest h i = decide (eqb (length rest) 0) (λ e. rw e)
      (λ e. let z : length rest ≢ 0 = eqb-false (length rest) 0 e in
      rw (e, tail-fuel f g zero (kind_at rest) (above (arc_at rest)) label (drop 8 rest) (rw (length-drop 8 rest) (omega arith)) (rw (length-drop 8 rest) (omega arith))))
  tail-fuel (suc f) (suc g) (suc more) k from label rest h i = decide (eqb (length rest) 0)
      (λ e. let z = eqb-true (length rest) 0 e in rw (lt-leb 4 (length rest) (omega arith), no-head label rest z))
      (λ e. let z : length rest ≢ 0 = eqb-false (length rest) 0 e in
      rw (
        tail-fuel f g (suc more) (kind_at rest) (above (arc_at rest)) label (drop 8 rest) (rw (length-drop 8 rest) (omega arith)) (rw (length-drop 8 rest) (omega arith)),
        tail-fuel f g more 35 0 (word rest 4) (drop 10 rest) (rw (length-drop 10 rest) (omega arith)) (rw (length-drop 10 rest) (omega arith)),
      ))
