-- What is printed of a list that is played: a head, a line for each call, a closing line. Assumes nothing.
use Rattle.std.specs.Prelude.{ℕ, zero, suc, ◌+◌, ◌-◌, cond, List, [], ◌∷◌, ◌++◌, length, ltb, eqb}
use Rattle.effbd.specs.Answers.{Outcome, accepted, refused}
use Rattle.effbd.specs.BusEnds.{is_telegram, number_at, station_at, code_at, argument_at}
use Rattle.effbd.specs.Transitions.{transition_diagram, transition_net}
use Rattle.effbd.specs.History.{Call, offer, hand}
use Rattle.effbd.specs.Annex.{number}
use Rattle.text.specs.Letters.{letters}
use Rattle.calls.specs.LiveEnds.{Live}

-- a move that is offered, bytes that are handed over
unfoldable pub move_text : (code argument : ℕ) → List ℕ
move_text code argument = cond (eqb code 1) (letters "offer step" ++ number argument)
    (cond (eqb code 2) (letters "offer wait" ++ number argument) ((letters "offer code" ++ number code) ++ (letters " argument" ++ number argument)))

unfoldable pub bytes_text : List ℕ → List ℕ
bytes_text bytes = cond (is_telegram bytes) ((letters "hand telegram" ++ number (number_at bytes)) ++ (letters " of station" ++ number (station_at bytes)))
    ((letters "hand" ++ number (length bytes)) ++ letters " bytes")

abbrev pub call_text : Call → List ℕ
call_text (offer code argument area) = move_text code argument
call_text (hand bytes) = bytes_text bytes

-- why a call was refused
unfoldable pub reason : ℕ → List ℕ
reason n =
    cond (eqb n 10) (letters ": area too short")
    (cond (eqb n 20) (letters ": state off")
    (cond (eqb n 21) (letters ": no move")
    (cond (eqb n 22) (letters ": step not standing")
    (cond (eqb n 23) (letters ": item short")
    (cond (eqb n 24) (letters ": ticks lacking")
    (cond (eqb n 25) (letters ": sum above 65,535")
    (cond (eqb n 26) (letters ": wait held")
    (cond (eqb n 27) (letters ": leader's count full")
    (cond (eqb n 30) (letters ": no telegram")
    (cond (eqb n 31) (letters ": other station")
    (cond (eqb n 32) (letters ": repeated or late")
    (cond (eqb n 33) (letters ": early") []))))))))))))

-- number and value of a refusal
abbrev pub refused_text : (n value : ℕ) → List ℕ
refused_text n value = (letters "refused" ++ number n) ++ number value

-- an accepted call with the new count, a refused one with number, value and reason
abbrev pub answer_text : Outcome ℕ → List ℕ
answer_text (accepted count) = letters "accepted: count" ++ number count
answer_text (refused n value) = refused_text n value ++ reason n

-- which transition of the annex the step in a call fires, asked before it is made: of an offer the leader's state knows a FUNCTION's, of a telegram the
-- follower's state knows every row's; 21 where there is no step
abbrev pub offer_fires : (file leader : List ℕ) (code argument : ℕ) → Outcome ℕ
offer_fires file leader code argument = cond (eqb code 1) (transition_diagram file argument leader) (refused 21 0)

abbrev pub hand_fires : (net follower bytes : List ℕ) → Outcome ℕ
hand_fires net follower bytes = cond (eqb (code_at bytes) 1) (transition_net net (argument_at bytes) follower) (refused 21 0)

abbrev pub call_fires : (file net leader follower : List ℕ) → Call → Outcome ℕ
call_fires file net leader follower (offer code argument area) = offer_fires file leader code argument
call_fires file net leader follower (hand bytes) = hand_fires net follower bytes

-- it is said of an accepted call
abbrev pub transition_text : (fired : Outcome ℕ) → List ℕ
transition_text (accepted t) = letters ", fires t" ++ number t
transition_text (refused n value) = []

abbrev pub fired_text : (answer fired : Outcome ℕ) → List ℕ
fired_text (accepted count) fired = transition_text fired
fired_text (refused n value) fired = []

-- the words of a state, each after a space
unfoldable pub words_text : List ℕ → List ℕ
words_text [] = []
words_text (w ∷ words) = number w ++ words_text words

-- both ends: moves sent and taken, the words of both states
abbrev pub ends_text : Live → List ℕ
ends_text v = ((((letters "sent" ++ number v.sent) ++ (letters " taken" ++ number v.taken)) ++ letters " | leader") ++ words_text v.leader) ++ letters " | follower" ++ words_text v.follower

unfoldable pub spaces : ℕ → List ℕ
spaces zero = []
spaces (suc n) = 32 ∷ spaces n

-- how many spaces stand between a text that ends at `at` and the column: one at least
unfoldable pub gap : (at column : ℕ) → ℕ
gap at column = cond (ltb at column) (column - at) 1

abbrev pub up_to : (column : ℕ) → List ℕ → List ℕ
up_to column text = text ++ spaces (gap (length text) column)

-- a call, its answer with what it fires, and both ends after it, in columns
unfoldable pub line_text : Call → (answer fired : Outcome ℕ) → Live → List ℕ
line_text call answer fired v = (up_to 70 (up_to 34 (call_text call) ++ (answer_text answer ++ fired_text answer fired)) ++ ends_text v) ++ (10 ∷ [])

-- what is played
unfoldable pub head_text : (bytes station leader follower : ℕ) → List ℕ
head_text bytes station leader follower = (((letters "a diagram of" ++ number bytes) ++ (letters " bytes at station" ++ number station))
    ++ (letters ": the leader's state has" ++ number leader)) ++ (letters " words, the follower's" ++ number follower) ++ (10 ∷ [])

-- the telegrams that were sent and never taken: the follower takes them in order
unfoldable pub closing_text : (sent taken : ℕ) → List ℕ
closing_text sent taken = cond (ltb taken sent)
    (cond (eqb sent (taken + 1)) ((letters "lost: telegram" ++ number sent) ++ letters " was sent and never taken\n")
    (((letters "lost: telegrams" ++ number (taken + 1)) ++ (letters " to" ++ number sent)) ++ letters " were sent and never taken\n"))
    (letters "none lost: every telegram sent was taken\n")
