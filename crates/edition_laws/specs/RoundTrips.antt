-- What a run is converted to and from, and what it is that gives a run back (proofs/RoundTrips.antt).
use Rattle.std.specs.Prelude.{ℕ, ◌+◌, ◌≤◌, ◌≡◌, true, List, length}
use Rattle.effbd.specs.Answers.{accepted}
use Rattle.effbd.specs.Records.{are_bytes}
use Rattle.effbd.specs.BusEnds.{number_at, station_at, most_count}
use Rattle.effbd.specs.Logs.{Setpoint}
use Rattle.effbd.specs.Editions.{upward}
use Rattle.edition_laws.specs.Runs.{new_run, old_run}

-- numbers that a run of n telegrams from `first` on may have
abbrev pub Numbered : (first n : ℕ) → Type 0
Numbered first n = first + n ≤ 4294967296

-- what is converted upward
pub record UpParts (old : List ℕ) (station first : ℕ) (new : List ℕ) : Type 0 where
  pub moves : List Setpoint
  pub is-old : old ≡ old_run moves
  pub is-new : new ≡ new_run station first moves
  pub numbered : Numbered first (length moves)

-- what is converted downward
pub record DownParts (run old : List ℕ) : Type 0 where
  pub moves : List Setpoint
  pub is-old : old ≡ old_run moves
  pub is-new : run ≡ new_run (station_at run) (number_at run) moves
  pub numbered : Numbered (number_at run) (length moves)

-- "Downward .. is allowed only where station and first number give all of them back"
pub record GivenBack (run : List ℕ) : Type 0 where
  pub old : List ℕ
  pub station : ℕ
  pub first : ℕ
  pub bytes : are_bytes old ≡ true
  pub counted : first ≤ most_count
  pub gives : upward old station first ≡ accepted run
