-- Request 6's worked example: which transition fires, told by the diagram's state and by the net's, at each step through one row of every kind but
-- LP and LE. Assumes nothing.
use Rattle.std.specs.Prelude.{ℕ, Bool, true, false, ◌&&◌, List, [], ◌∷◌, ◌++◌}
use Rattle.effbd.specs.Answers.{Outcome, accepted, afterwards, refused}
use Rattle.effbd.specs.Diagrams.{Diagram}
use Rattle.effbd.specs.Nesting.{read_diagram}
use Rattle.effbd.specs.States.{fresh_words}
use Rattle.effbd.specs.Moves.{step_diagram}
use Rattle.effbd.specs.Nets.{net_bytes}
use Rattle.effbd.specs.Firing.{fresh_net_words, step_net}
use Rattle.effbd.specs.Patterns.{net_of}
use Rattle.effbd.specs.Transitions.{transition_diagram, transition_net}
use Rattle.plantroom.specs.Table.{file_of, file_a, function, head, row, same_answer}

-- a FUNCTION, an OR whose second branch has a FUNCTION, an IT of 2 turns, an AND whose first branch has a FUNCTION, END
abbrev pub plant_file : List ℕ
plant_file = file_of (head 14 0 ++ function 0 1 ++ row 20 ++ row 18 ++ row 18 ++ function 1 9 ++ row 21 ++ (6 ∷ 22 ∷ 2 ∷ []) ++ row 23
    ++ row 17 ++ row 18 ++ function 0 9 ++ row 18 ++ row 19 ++ row 27)

-- a row that is asked, what both calls answer, and the move that is made then
pub record Turn : Type 0 where
  pub row : ℕ
  pub by_diagram : Outcome ℕ
  pub by_net : Outcome ℕ
  pub code : ℕ
  pub argument : ℕ

-- asked of a FUNCTION and stepped; of another row, which the net alone knows; asked in vain; a wait
abbrev functions : (r number : ℕ) → Turn
functions r number = record { row = r; by_diagram = accepted number; by_net = accepted number; code = 1; argument = r }

abbrev others : (r number : ℕ) → Turn
others r number = record { row = r; by_diagram = refused 22 r; by_net = accepted number; code = 1; argument = r }

abbrev idle : ℕ → Turn
idle r = record { row = r; by_diagram = refused 22 r; by_net = refused 22 r; code = 0; argument = 0 }

abbrev running : (r number ticks : ℕ) → Turn
running r number ticks = record { row = r; by_diagram = accepted number; by_net = accepted number; code = 2; argument = ticks }

unfoldable pub turns : List Turn
turns =
    -- it starts, and ends
    functions 0 0 ∷ idle 4 ∷ functions 0 1
    -- the OR's second BRANCH; its FUNCTION starts, is asked where its end is still refused, and ends
    ∷ others 3 3 ∷ functions 4 4 ∷ functions 4 5 ∷ running 4 5 1 ∷ functions 4 5 ∷ others 5 6
    -- the IT turns twice, and is left by its second transition
    ∷ others 6 7 ∷ others 7 9 ∷ others 6 7 ∷ others 7 9 ∷ others 6 8
    -- the AND: its FUNCTION, its close; END, and rows that there are not
    ∷ others 8 10 ∷ functions 10 11 ∷ functions 10 12 ∷ others 12 13 ∷ idle 13 ∷ idle 14 ∷ idle 65535 ∷ []

-- both calls answer so at every turn
unfoldable pub told : (file net words marks : List ℕ) → List Turn → Bool
told file net words marks [] = true
told file net words marks (t ∷ ts) = same_answer t.by_diagram (transition_diagram file t.row words) && (same_answer t.by_net (transition_net net t.row marks)
    && told file net (afterwards words (step_diagram file t.code t.argument words)) (afterwards marks (step_net net t.code t.argument marks)) ts)

abbrev pub told_of : List ℕ → Outcome Diagram → List Turn → Bool
told_of file (accepted d) ts = told file (net_bytes (net_of d)) (fresh_words d) (fresh_net_words (net_of d)) ts
told_of file (refused number value) ts = false

-- short of its item: the number is the start's, where the net has nothing to fire; then 20, of words too many and of a state that is none, and the file's own
unfoldable pub apart : Bool
apart = told_of (file_a 0) (read_diagram (file_a 0)) (record { row = 0; by_diagram = accepted 0; by_net = refused 22 0; code = 0; argument = 0 } ∷ [])
    && (same_answer (refused 20 0) (transition_diagram (file_a 3) 0 (1 ∷ 0 ∷ 0 ∷ 0 ∷ 0 ∷ 0 ∷ 3 ∷ 0 ∷ []))
    && (same_answer (refused 20 0) (transition_diagram (file_a 3) 9 (3 ∷ 0 ∷ 0 ∷ 0 ∷ 0 ∷ 0 ∷ 3 ∷ []))
    && same_answer (refused 1 0) (transition_diagram [] 9 [])))

unfoldable pub transitions_hold : Bool
transitions_hold = told_of plant_file (read_diagram plant_file) turns && apart
