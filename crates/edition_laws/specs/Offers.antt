-- The telegrams of a leader's accepted offers, one after another, go down and up unharmed: all of them, and any stretch of them.
use Rattle.std.specs.Prelude.{ℕ, suc, ◌≤◌, ◌<◌, ◌≡◌, length}
use mathlib.Core.List.{List, [], ◌∷◌, ◌++◌}
use Rattle.effbd.specs.Answers.{accepted}
use Rattle.effbd.specs.BusEnds.{telegram, number_at, station_at, most_count}
use Rattle.effbd.specs.History.{Ends}
use Rattle.effbd.specs.Logs.{Setpoint}
use Rattle.effbd.specs.Editions.{upward, downward}

-- the telegrams of moves, numbered upward, each by itself; and telegrams one after another
abbrev pub telegrams_of : (station number : ℕ) → List Setpoint → List (List ℕ)
telegrams_of station number [] = []
telegrams_of station number (m ∷ ms) = telegram number station m.code m.argument ∷ telegrams_of station (suc number) ms

abbrev pub in_row : List (List ℕ) → List ℕ
in_row [] = []
in_row (t ∷ ts) = t ++ in_row ts

-- what the accepted offers wrote: a telegram for each count, from 1 on
pub record Sent (station : ℕ) (e : Ends) : Type 0 where
  pub moves : List Setpoint
  pub are : e.wrote ≡ telegrams_of station 1 moves
  pub count : length moves ≡ e.count
  pub counted : e.count ≤ most_count

-- what is proved in proofs/Offers.antt: after any list of calls, the telegrams of the accepted offers from index i on, j of them, are a run that is allowed downward, and
-- its station and first number give it back; the first number is one above i
pub record Unharmed (station number : ℕ) (run : List ℕ) : Type 0 where
  pub old : List ℕ
  pub down : downward run ≡ accepted old
  pub up : upward old (station_at run) (number_at run) ≡ accepted run
  pub told : 0 < length run → (station_at run ≡ station) × (number_at run ≡ number)
