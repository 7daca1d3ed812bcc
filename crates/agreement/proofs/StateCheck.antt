-- A state that keeps the invariant passes the check of states.
use Rattle.std.specs.Prelude.{ℕ, ◌≡◌, refl, ◌≢◌, Bool, true, false, cond, leb, eqb}
use Rattle.std.proofs.Common.{arith, le-leb, eq-eqb}
use Rattle.std.proofs.lemmas.Bool.{eqb-false}
use Rattle.effbd.specs.Diagrams.{Diagram, Kind, and_close, and_open, box_close, box_exit, box_open, branch, end, function, is_kind, it_close, it_open, kind, loop_exit, lp_close, lp_open, or_close, or_open, row, row_count, same_kind}
use Rattle.effbd.specs.Counts.{count_total, tally}
use Rattle.effbd.specs.Nesting.{owner}
use Rattle.effbd.specs.States.{State, activity_fine, count_passes, row_passes, state_passes}
use Rattle.ranges.specs.Tests.{and_intro, clash, decide, or_left, or_right}
use Rattle.ranges.specs.RangeLaws.{all-intro}
use Rattle.agreement.specs.Basics.{eq-same, not-kind}
use Rattle.agreement.specs.Counts.{most-passes}
use Rattle.agreement.proofs.Matching.{Valid}

module _ (d : Diagram) (s : State) (v : Valid d s) (q : ℕ) where
  no2 : {k : Kind} → kind d q ≡ k → same_kind k function ≡ false → s.activity q ≢ 2
  no2 e n z = not-kind d q e function n (v.runs q z)

  no3 : {k : Kind} → kind d q ≡ k → same_kind k branch ≡ false → s.activity q ≢ 3
  no3 e n z = not-kind d q e branch n (v.done q z)

  -- idle or ready
  idle-or-ready : {k : Kind} → kind d q ≡ k → same_kind k function ≡ false → same_kind k branch ≡ false → leb (s.activity q) 1 ≡ true
  idle-or-ready e m n = let x = no2 e m in let y = no3 e n in let z = v.small q in le-leb (s.activity q) 1 (omega arith)

  acts : (k : Kind) (b : Bool) → kind d q ≡ k → is_kind d and_open (owner d q) ≡ b → activity_fine d k b (s.activity q) ≡ true
  acts function b e f = let y = no3 e refl in let z = v.small q in le-leb (s.activity q) 2 (omega arith)
  acts and_open b e f = idle-or-ready e refl refl
  acts branch true e f = decide (eqb (s.activity q) 3) (λ z. or_right (eqb (s.activity q) 0) z)
      (λ z. or_left (eqb (s.activity q) 3) (let x = no2 e refl in let y = eqb-false (s.activity q) 3 z in let w = v.small q in
      let u : s.activity q ≢ 1 = λ h. v.readies q h e in eq-eqb (s.activity q) 0 (omega arith)))
  acts branch false e f = let x = no2 e refl in let w = v.small q in
      let u : s.activity q ≢ 1 = λ h. v.readies q h e in
      let y : s.activity q ≢ 3 = λ h. clash (eq-same (kind d (owner d q)) and_open (v.forked q h)) f in eq-eqb (s.activity q) 0 (omega arith)
  acts and_close b e f = let x = no2 e refl in let y = no3 e refl in let w = v.small q in
      let u : s.activity q ≢ 1 = λ h. v.opened q h e in eq-eqb (s.activity q) 0 (omega arith)
  acts or_open b e f = idle-or-ready e refl refl
  acts or_close b e f = idle-or-ready e refl refl
  acts it_open b e f = idle-or-ready e refl refl
  acts it_close b e f = idle-or-ready e refl refl
  acts lp_open b e f = idle-or-ready e refl refl
  acts lp_close b e f = idle-or-ready e refl refl
  acts loop_exit b e f = idle-or-ready e refl refl
  acts end b e f = idle-or-ready e refl refl
  acts box_open b e f = idle-or-ready e refl refl
  acts box_close b e f = idle-or-ready e refl refl
  acts box_exit b e f = idle-or-ready e refl refl

  turns-ok : cond (is_kind d it_open q) (leb (s.turns q) (row d q).first) (eqb (s.turns q) 0) ≡ true
  turns-ok = decide (is_kind d it_open q) (λ e. rw e (le-leb (s.turns q) (row d q).first (v.turned q)))
      (λ e. rw e (eq-eqb (s.turns q) 0 (v.spun q (λ k. clash (eq-same (kind d q) it_open k) e))))

  clock-ok : cond (eqb (s.activity q) 2) (leb (s.clock q) (row d q).second) (eqb (s.clock q) 0) ≡ true
  clock-ok = decide (eqb (s.activity q) 2) (λ e. rw e (le-leb (s.clock q) (row d q).second (v.timely q)))
      (λ e. rw e (eq-eqb (s.clock q) 0 (v.still q (eqb-false (s.activity q) 2 e))))

  proper-row : row_passes d s q ≡ true
  proper-row = and_intro (acts (kind d q) (is_kind d and_open (owner d q)) refl refl) (and_intro turns-ok clock-ok)

pub valid-proper : (d : Diagram) (s : State) → Valid d s → state_passes d s ≡ true
valid-proper d s v = and_intro (all-intro (row_count d) (row_passes d s) (λ q l. proper-row d s v q))
    (all-intro (count_total d) (λ c. count_passes d (tally d c) (s.count c)) (λ c l. most-passes d (tally d c) (s.count c) (v.counted c l)))
