-- The leader's call, by what its stepper answered.
use Rattle.std.specs.Prelude.{ℕ, suc, ◌≤◌, ◌<◌, ◌≡◌, List, ◌++◌, length, drop}
use Rattle.std.proofs.Common.{sym, ap, arith}
use borrow.Author.Tests.{lt-ltb, le-ltb, le-leb, lt-leb}
use Rattle.effbd.specs.Answers.{Outcome, accepted, refused, returning_zero, afterwards}
use Rattle.effbd.specs.Moves.{step_diagram}
use Rattle.effbd.specs.BusEnds.{telegram, turned_away, offered}

-- what a stepper answered and left, by its outcome
pub accepted-by : (before after : List ℕ) (v : ℕ) (x : Outcome (List ℕ)) → accepted v ≡ returning_zero x → after ≡ afterwards before x → x ≡ accepted after
accepted-by before after v (accepted s) e l = ap accepted (sym l)
accepted-by before after v (refused n w) e l = absurd (let z : ◌≡◌ {A = ℕ} 0 1 = cc in omega arith)

pub record RefusedBy (before after : List ℕ) (n v : ℕ) (x : Outcome (List ℕ)) : Type 0 where
  pub outcome : x ≡ refused n v
  pub kept : after ≡ before

pub refused-by : (before after : List ℕ) (n v : ℕ) (x : Outcome (List ℕ)) → refused n v ≡ returning_zero x → after ≡ afterwards before x → RefusedBy before after n v x
refused-by before after n v (accepted s) e l = absurd (let z : ◌≡◌ {A = ℕ} 0 1 = cc in omega arith)
refused-by before after n v (refused m w) e l = record { outcome = cc; kept = l }

module _ (file state : List ℕ) (count station code argument : ℕ) (area : List ℕ) where
  pub offer-refused : (n v : ℕ) → step_diagram file code argument state ≡ refused n v → offered file state count station code argument area ≡ turned_away state area n v
  unfolding offered
  offer-refused n v e = rw e

  pub offer-accepted : (next : List ℕ) → step_diagram file code argument state ≡ accepted next → count < 4294967295 → 14 ≤ length area
      → offered file state count station code argument area ≡ record { answer = accepted (suc count); state = next; area = telegram (suc count) station code argument ++ drop 14 area }
  unfolding offered
  offer-accepted next e c l = rw (e, lt-ltb count 4294967295 c, le-leb 14 (length area) l)

  pub offer-27 : (next : List ℕ) → step_diagram file code argument state ≡ accepted next → 4294967295 ≤ count → offered file state count station code argument area ≡ turned_away state area 27 count
  unfolding offered
  offer-27 next e c = rw (e, le-ltb count 4294967295 c)

  pub offer-10 : (next : List ℕ) → step_diagram file code argument state ≡ accepted next → count < 4294967295 → length area < 14
      → offered file state count station code argument area ≡ turned_away state area 10 14
  unfolding offered
  offer-10 next e c l = rw (e, lt-ltb count 4294967295 c, lt-leb 14 (length area) l)
