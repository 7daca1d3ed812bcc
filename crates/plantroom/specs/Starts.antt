-- Request 1's worked example: a pump that a loop starts again and again, and the starts of a log in any hour. Assumes nothing.
use Rattle.std.specs.Prelude.{ℕ, Bool, true, ◌&&◌, List, [], ◌∷◌, ◌++◌, eqb}
use Rattle.effbd.specs.Answers.{Outcome, accepted, refused}
use Rattle.effbd.specs.Starts.{log_starts}
use Rattle.plantroom.specs.Table.{file_of, head, row, function, same_answer}

-- LP open, the pump (row 1, α 1, β 36,000), LP close, END
abbrev pub pump_file : List ℕ
pump_file = file_of (head 4 0 ++ row 24 ++ function 1 36000 ++ row 25 ++ row 27)

-- once round the loop: the pump starts, runs so many ticks, ends
abbrev pub round : ℕ → List ℕ
round ticks = 1 ∷ 0 ∷ 1 ∷ 1 ∷ 2 ∷ ticks ∷ 1 ∷ 1 ∷ 1 ∷ 2 ∷ []

-- a log, a row, the answer, and what the number lent for t, 7 before, holds then
pub record Asked : Type 0 where
  pub log : List ℕ
  pub row : ℕ
  pub answer : Outcome ℕ
  pub at : ℕ

abbrev pub asked : List ℕ → ℕ → Outcome ℕ → ℕ → Asked
asked words r answer at = record { log = file_of words; row = r; answer = answer; at = at }

unfoldable pub questions : List Asked
questions =
    -- no move, no start
    asked [] 1 (accepted 0) 0
    -- starts at 0, 20,000 and 36,000: the last is not in the first one's hour
    ∷ asked (round 20000 ++ (round 16000 ++ round 1)) 1 (accepted 2) 0
    -- one tick less, and all three are
    ∷ asked (round 20000 ++ (round 15999 ++ round 1)) 1 (accepted 3) 0
    -- starts at 0, 36,000 and 36,001: the hour from 36,000 is the first with two
    ∷ asked (round 36000 ++ (round 1 ++ round 1)) 1 (accepted 2) 36000
    -- 41: an LP, and no row; 42: a wait of 0 ticks, at move 2; 40: two bytes over; each leaves the 7
    ∷ asked (round 1) 0 (refused 41 0) 7
    ∷ asked (round 1) 4 (refused 41 0) 7
    ∷ asked (1 ∷ 0 ∷ 1 ∷ 1 ∷ 2 ∷ 0 ∷ []) 1 (refused 42 2) 7
    ∷ asked (1 ∷ 0 ∷ 1 ∷ []) 0 (refused 40 0) 7
    ∷ []

unfoldable pub answered : List Asked → Bool
answered [] = true
answered (q ∷ qs) = let told = log_starts pump_file q.log q.row 7 in same_answer q.answer told.answer && (eqb q.at told.at && answered qs)

unfoldable pub starts_hold : Bool
starts_hold = answered questions
