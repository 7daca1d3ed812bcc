-- Document 02, request 5: runs of telegrams of the old and the new edition, converted into each other (refusals 30, 46, 47, 10). Assumes nothing.
use Rattle.std.specs.Prelude.{ℕ, zero, suc, ◌+◌, ◌-◌, ◌/◌, min, Bool, cond, ◌&&◌, List, [], ◌++◌, length, take, drop, leb, eqb}
use Rattle.effbd.specs.Answers.{Outcome, accepted, refused, unless, and_then}
use Rattle.effbd.specs.Records.{word, word_bytes}
use Rattle.effbd.specs.BusEnds.{telegram_length, telegram, is_telegram, number_at, station_at, code_at, argument_at, most_count}

-- "Panels in the field speak the old edition: length 8, kind 47, setpoint"
abbrev pub old_length : ℕ
old_length = 8

abbrev pub old_kind : ℕ
old_kind = 47

unfoldable pub old_telegram : (code argument : ℕ) → List ℕ
old_telegram code argument = word_bytes old_length ++ (word_bytes old_kind ++ (word_bytes code ++ word_bytes argument))

abbrev pub is_old_telegram : List ℕ → Bool
is_old_telegram bytes = eqb (length bytes) old_length && (eqb (word bytes 0) old_length && eqb (word bytes 2) old_kind)

-- "Refusals, at the first telegram off, after 30 and before 10: 46 number not one above the last, or past 4,294,967,295; 47 station
-- differs from the first": at a telegram that is to have this number, upward and downward
unfoldable pub old_fault : ℕ → List ℕ → ℕ
old_fault number bytes = cond (is_old_telegram bytes) (cond (leb number most_count) 0 46) 30

unfoldable pub new_fault : (station : ℕ) → ℕ → List ℕ → ℕ
new_fault station number bytes = cond (is_telegram bytes) (cond (eqb (number_at bytes) number) (cond (eqb (station_at bytes) station) 0 47) 46) 30

-- "Convert a run of telegrams between editions": n telegrams of one size, the first with this number and index; "return the telegram's index"
abbrev pub joined : List ℕ → Outcome (List ℕ) → Outcome (List ℕ)
joined bytes (accepted later) = accepted (bytes ++ later)
joined bytes (refused number value) = refused number value

unfoldable pub convert_from : (size : ℕ) (fault : ℕ → List ℕ → ℕ) (made : ℕ → List ℕ → List ℕ) (number index n : ℕ) → List ℕ → Outcome (List ℕ)
convert_from size fault made number index zero run = accepted []
convert_from size fault made number index (suc n) run =
    unless (fault number (take size run)) index
    (joined (made number (take size run)) (convert_from size fault made (suc number) (suc index) n (drop size run)))

-- the telegrams of a run; bytes left over are one more, whose size is off
abbrev pub telegram_count : (size : ℕ) → List ℕ → ℕ
telegram_count size run = (length run + (size - 1)) / size

-- "Upward adds a given station and numbers from a given first one"
unfoldable pub new_of : (station number : ℕ) → List ℕ → List ℕ
new_of station number bytes = telegram number station (word bytes 4) (word bytes 6)

unfoldable pub upward : (old : List ℕ) (station first : ℕ) → Outcome (List ℕ)
upward old station first = convert_from old_length old_fault (new_of station) first 0 (telegram_count old_length old) old

-- "Downward drops them, and is allowed only where station and first number give all of them back": those of the first telegram,
-- "An empty run is empty, and downward its station and first number are 0"
unfoldable pub old_of : ℕ → List ℕ → List ℕ
old_of number bytes = old_telegram (code_at bytes) (argument_at bytes)

unfoldable pub downward : (run : List ℕ) → Outcome (List ℕ)
downward run = convert_from telegram_length (new_fault (station_at run)) old_of (number_at run) 0 (telegram_count telegram_length run) run

-- "A short area is 10", with the bytes needed
abbrev pub fitting : (area : List ℕ) → List ℕ → Outcome (List ℕ)
fitting area bytes = unless (cond (leb (length bytes) (length area)) 0 10) (length bytes) (accepted bytes)

-- a number of bytes or an index that the 32 bits of a value cannot hold (runs of gigabytes) is returned as the largest that they can
abbrev pub stopping : ℕ → ℕ
stopping n = min n most_count

-- what the call upward returns, the bytes written or a refusal, and what the lent area holds afterwards: "area bytes beyond a result keep
-- their values"
pub record Upped : Type 0 where
  pub answer : Outcome ℕ
  pub area : List ℕ

abbrev pub upped_as : (area : List ℕ) → Outcome (List ℕ) → Upped
upped_as area (accepted bytes) = record { answer = accepted (stopping (length bytes)); area = bytes ++ drop (length bytes) area }
upped_as area (refused number value) = record { answer = refused number (stopping value); area = area }

unfoldable pub telegrams_up : (old : List ℕ) (station first : ℕ) (area : List ℕ) → Upped
telegrams_up old station first area = upped_as area (and_then (upward old station first) (fitting area))

-- what the call downward returns, and what the lent area and the two lent numbers hold afterwards
pub record Downed : Type 0 where
  pub answer : Outcome ℕ
  pub area : List ℕ
  pub station : ℕ
  pub first : ℕ

abbrev pub downed_as : (run area : List ℕ) (station first : ℕ) → Outcome (List ℕ) → Downed
downed_as run area station first (accepted bytes) =
    record { answer = accepted (stopping (length bytes)); area = bytes ++ drop (length bytes) area; station = station_at run; first = number_at run }
downed_as run area station first (refused number value) =
    record { answer = refused number (stopping value); area = area; station = station; first = first }

unfoldable pub telegrams_down : (run area : List ℕ) (station first : ℕ) → Downed
telegrams_down run area station first = downed_as run area station first (and_then (downward run) (fitting area))
