-- One accepted move and the window: a wait, a step that is no start of the row, a start.
use Rattle.std.specs.Prelude.{ℕ, ◌+◌, ◌≡◌, ◌≢◌, true, false, ◌&&◌, List, eqb}
use Rattle.std.proofs.Common.{refl, ap, arith}
use borrow.Author.Tests.{eq-eqb, ne_eqb}
use Rattle.effbd.specs.Starts.{activity}
use Rattle.ranges.specs.Tests.{clash}
use Rattle.starts.specs.Windows.{Joining, Counted}
use Rattle.starts.specs.declared.spans.Window.{Window}
use Rattle.starts.specs.Counting.{waited, runs, Turning, Turned}

module _ (row code argument : ℕ) (words gaps : List ℕ) (w : Window) where
  pub turn-waits : code ≡ 2 → (r : Window) → r ≡ waited argument w → Turned row code argument words gaps gaps w r
  turn-waits c r e = record {
    counted = λ y. clash y (rw c);
    passed = λ y. (rw c e, refl);
  }

  no-time : w ≡ waited 0 w
  no-time = ap (λ (t : ℕ). record { time = t; latest = w.latest; since = w.since; starts = w.starts; from = w.from; to = w.to; most = w.most; at = w.at }) (let z : w.time ≡ w.time + 0 = omega arith in z)

  turn-rests : code ≢ 2 → (eqb argument row && eqb (activity words row) 2) ≡ false → Turned row code argument words gaps gaps w w
  turn-rests n e = record {
    counted = λ y. clash y (rw (ne_eqb code 2 n) e);
    passed = λ y. (rw (ne_eqb code 2 n) no-time, refl);
  }

  pub turn-elsewhere : code ≢ 2 → argument ≢ row → Turned row code argument words gaps gaps w w
  turn-elsewhere n a = turn-rests n (rw (ne_eqb argument row a))

  pub turn-not-running : code ≢ 2 → argument ≡ row → activity words row ≢ 2 → Turned row code argument words gaps gaps w w
  turn-not-running n a r = turn-rests n (rw (eq-eqb argument row a, ne_eqb (activity words row) 2 r))

  -- a step of the row, which runs
  module _ (n : code ≢ 2) (a : argument ≡ row) (r : activity words row ≡ 2) where
    running : runs row code argument words ≡ true
    running = rw (ne_eqb code 2 n, eq-eqb argument row a, eq-eqb (activity words row) 2 r)

    pub start-joins : Turning row code argument words gaps w → Joining gaps w
    start-joins t = t.joins running

    pub turn-starts : (next : List ℕ) (s : Window) → Counted gaps next w s → Turned row code argument words gaps next w s
    turn-starts next s c = record { counted = λ y. c; passed = λ y. clash running y }
