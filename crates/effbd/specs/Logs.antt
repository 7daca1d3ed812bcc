-- Document 02, request 1: a log of moves, the state and the time that it leads to, what stands against it (refusals 40 and 42). Assumes nothing.
use Rattle.std.specs.Prelude.{ℕ, zero, suc, ◌+◌, ◌*◌, ◌/◌, ◌%◌, cond, ◌&&◌, List, [], ◌∷◌, length, drop, leb, eqb}
use Rattle.effbd.specs.Answers.{Outcome, accepted, refused, afterwards, and_then}
use Rattle.effbd.specs.Records.{word}
use Rattle.effbd.specs.Diagrams.{Diagram}
use Rattle.effbd.specs.States.{fresh_words}
use Rattle.effbd.specs.Moves.{move_of, move_words}

-- "setpoint (move code, row or ticks)"
pub record Setpoint : Type 0 where
  pub code : ℕ
  pub argument : ℕ

-- "a log (setpoints of 4 bytes one after another, from fresh)": number i of bytes; n of them; all of them
abbrev pub setpoint_at : List ℕ → ℕ → Setpoint
setpoint_at bytes i = record { code = word bytes (4 * i); argument = word bytes (4 * i + 2) }

unfoldable pub setpoints_at : ℕ → List ℕ → List Setpoint
setpoints_at zero bytes = []
setpoints_at (suc n) bytes = setpoint_at bytes 0 ∷ setpoints_at n (drop 4 bytes)

abbrev pub move_count : List ℕ → ℕ
move_count log = length log / 4

unfoldable pub setpoints : List ℕ → List Setpoint
setpoints log = setpoints_at (move_count log) log

-- 40 "log over 65,535 moves or not whole setpoints"
abbrev pub most_moves : ℕ
most_moves = 65535

unfoldable pub log_fault : List ℕ → ℕ
log_fault log = cond (eqb (length log % 4) 0 && leb (move_count log) most_moves) 0 40

-- "the sum of the waits": a wait's ticks; a step lets no time pass
abbrev pub ticks : Setpoint → ℕ
ticks m = cond (eqb m.code 2) m.argument 0

-- 42 "a move refused, with its index"
abbrev pub with_index : {A : Type 0} → ℕ → Outcome A → Outcome A
with_index i (accepted a) = accepted a
with_index i (refused number value) = refused 42 i

module _ (d : Diagram) where
  -- one move of a log, on the words of a state; the words after it (as they were, where it is refused)
  unfoldable pub made : Setpoint → List ℕ → Outcome (List ℕ)
  made m words = move_words d (move_of m.code m.argument) words

  abbrev pub after : Setpoint → List ℕ → List ℕ
  after m words = afterwards words (made m words)

  -- the state after moves: "from fresh"
  unfoldable pub state_from : List Setpoint → List ℕ → List ℕ
  state_from [] words = words
  state_from (m ∷ ms) words = state_from ms (after m words)

  abbrev pub state_after : List Setpoint → List ℕ
  state_after moves = state_from moves (fresh_words d)

  -- the moves from index i on: the last state, or 42 at the first move refused
  unfoldable pub played_from : ℕ → List Setpoint → List ℕ → Outcome (List ℕ)
  played_from i [] words = accepted words
  played_from i (m ∷ ms) words = and_then (with_index i (made m words)) (played_from (suc i) ms)

  abbrev pub played : List ℕ → Outcome (List ℕ)
  played log = played_from 0 (setpoints log) (fresh_words d)
