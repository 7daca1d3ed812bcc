-- Document 01, "Bus ends": telegrams, the leader's call (refusals 27, 10), the follower's call (30 to 33). Assumes nothing.
use Rattle.std.specs.Prelude.{ℕ, suc, ◌+◌, ◌*◌, ◌/◌, ◌%◌, Bool, cond, ◌&&◌, List, ◌++◌, length, drop, leb, ltb, eqb}
use Rattle.effbd.specs.Answers.{Outcome, accepted, refused, unless}
use Rattle.effbd.specs.Records.{word, word_bytes}
use Rattle.effbd.specs.Moves.{step_diagram}
use Rattle.effbd.specs.Firing.{step_net}

-- "Telegram, 14 bytes: length 14, kind 48, number (32 bits), station, setpoint (move code, row or ticks)"
abbrev pub telegram_length : ℕ
telegram_length = 14

abbrev pub telegram_kind : ℕ
telegram_kind = 48

unfoldable pub telegram : (number station code argument : ℕ) → List ℕ
telegram number station code argument =
    word_bytes telegram_length ++ (word_bytes telegram_kind ++ (word_bytes (number % 65536) ++ (word_bytes (number / 65536)
    ++ (word_bytes station ++ (word_bytes code ++ word_bytes argument)))))

abbrev pub number_at : List ℕ → ℕ
number_at bytes = word bytes 4 + 65536 * word bytes 6

abbrev pub station_at : List ℕ → ℕ
station_at bytes = word bytes 8

abbrev pub code_at : List ℕ → ℕ
code_at bytes = word bytes 10

abbrev pub argument_at : List ℕ → ℕ
argument_at bytes = word bytes 12

-- not 30: "telegram's size, length or kind off"
abbrev pub is_telegram : List ℕ → Bool
is_telegram bytes = eqb (length bytes) telegram_length && (eqb (word bytes 0) telegram_length && eqb (word bytes 2) telegram_kind)

-- a telegram of this station: neither 30 nor 31
unfoldable pub is_ours : ℕ → List ℕ → Bool
is_ours station bytes = is_telegram bytes && eqb (station_at bytes) station

-- what a call of the leader returns, and what the lent state and area hold afterwards
pub record Offered : Type 0 where
  pub answer : Outcome ℕ
  pub state : List ℕ
  pub area : List ℕ

-- 27 "leader at 4,294,967,295, move otherwise accepted"
abbrev pub most_count : ℕ
most_count = 4294967295

abbrev pub turned_away : (state area : List ℕ) (number value : ℕ) → Offered
turned_away state area number value = record { answer = refused number value; state = state; area = area }

-- "The leader counts accepted moves from 0 and writes each, numbered with the new count, into the first 14 bytes of a lent area"
abbrev pub offered_as : (state : List ℕ) (count station code argument : ℕ) (area : List ℕ) → Outcome (List ℕ) → Offered
offered_as state count station code argument area (refused number value) = turned_away state area number value
offered_as state count station code argument area (accepted next) =
    cond (ltb count most_count)
    (cond (leb telegram_length (length area))
    (record { answer = accepted (suc count); state = next; area = telegram (suc count) station code argument ++ drop telegram_length area })
    (turned_away state area 10 telegram_length))
    (turned_away state area 27 count)

-- "Steps: file, 20, 21, 22 to 26, 27, 10"
unfoldable pub offered : (file state : List ℕ) (count station code argument : ℕ) (area : List ℕ) → Offered
offered file state count station code argument area = offered_as state count station code argument area (step_diagram file code argument state)

-- what a call of the follower returns, and what the lent state holds afterwards
pub record Taken : Type 0 where
  pub answer : Outcome ℕ
  pub state : List ℕ

-- "The follower counts those taken"
abbrev pub taken_as : (state : List ℕ) (count : ℕ) → Outcome (List ℕ) → Taken
taken_as state count (accepted next) = record { answer = accepted (suc count); state = next }
taken_as state count (refused number value) = record { answer = refused number value; state = state }

-- "Telegrams: 30 to 33, then the net's"
unfoldable pub taken : (net state : List ℕ) (count station : ℕ) (bytes : List ℕ) → Taken
taken net state count station bytes = taken_as state count
    (unless (cond (is_telegram bytes) 0 30) 0
    (unless (cond (eqb (station_at bytes) station) 0 31) (station_at bytes)
    (unless (cond (leb (number_at bytes) count) 32 0) count
    (unless (cond (leb (number_at bytes) (suc count)) 0 33) count
    (step_net net (code_at bytes) (argument_at bytes) state)))))
