-- Document 02, CR 2 to CR 7: closed examples of one diagram, and files that are turned away (document 02 gives none). Assumes nothing.
use Rattle.std.specs.Prelude.{ℕ, Bool, false, ◌&&◌, List, [], ◌∷◌, ◌++◌, eqb}
use Rattle.effbd.specs.Answers.{Outcome, accepted, refused}
use Rattle.effbd.specs.Diagrams.{Diagram}
use Rattle.effbd.specs.Nesting.{read_diagram}
use Rattle.plantroom.specs.Table.{Example, all_hold, file_of, function, head, item, row, step, wait, yes}

unfoldable pub requests : List Example
requests =
    -- CR 2: a door's order reaches fan and pump, each once
    record {
      file = file_of (head 8 1 ++ (6 ∷ 3 ∷ 0 ∷ []) ++ row 17 ++ row 18 ++ (14 ∷ 16 ∷ 0 ∷ 5 ∷ 0 ∷ 0 ∷ 1 ∷ []) ++ row 18 ++ (14 ∷ 16 ∷ 0 ∷ 9 ∷ 0 ∷ 1 ∷ 0 ∷ []) ++ row 19 ++ (14 ∷ 16 ∷ 0 ∷ 9 ∷ 0 ∷ 1 ∷ 0 ∷ []) ++ row 27);
      file_length = 78;
      net_length = 426;
      offers = step 0 yes yes ∷ step 4 (refused 23 0) (refused 22 4) ∷ step 2 yes yes ∷ step 2 yes yes ∷ step 4 yes yes ∷ step 4 yes yes ∷ [];
      diagram_after = 0 ∷ 0 ∷ 0 ∷ 3 ∷ 0 ∷ 0 ∷ 0 ∷ 0 ∷ 0 ∷ 3 ∷ 0 ∷ 0 ∷ 0 ∷ 0 ∷ 0 ∷ 0 ∷ 0 ∷ 0 ∷ 0 ∷ 0 ∷ 0 ∷ 0 ∷ 0 ∷ 0 ∷ 0 ∷ 0 ∷ 1 ∷ [];
      net_after = 0 ∷ 0 ∷ 0 ∷ 1 ∷ 0 ∷ 0 ∷ 0 ∷ 0 ∷ 0 ∷ 1 ∷ 0 ∷ 0 ∷ 0 ∷ 0 ∷ 0 ∷ 0 ∷ 0 ∷ 0 ∷ 0 ∷ 0 ∷ 0 ∷ 0 ∷ 0 ∷ 0 ∷ 0 ∷ 0 ∷ 1 ∷ 0 ∷ 0 ∷ 0 ∷ 0 ∷ 0 ∷ 0 ∷ 0 ∷ 0 ∷ [];
    }
    -- CR 2: 25 names the item, in the net the lowest place
    ∷ record {
      file = file_of (head 3 2 ++ (6 ∷ 3 ∷ 65535 ∷ []) ++ item 65535 ++ (20 ∷ 16 ∷ 0 ∷ 0 ∷ 0 ∷ 0 ∷ 1 ∷ 1 ∷ 0 ∷ 1 ∷ []) ++ (14 ∷ 16 ∷ 0 ∷ 0 ∷ 0 ∷ 1 ∷ 0 ∷ []) ++ row 27);
      file_length = 60;
      net_length = 208;
      offers = step 0 yes yes ∷ step 0 (refused 25 0) (refused 25 10) ∷ [];
      diagram_after = 2 ∷ 0 ∷ 0 ∷ 0 ∷ 0 ∷ 0 ∷ 0 ∷ 0 ∷ 0 ∷ 0 ∷ 65535 ∷ 65535 ∷ [];
      net_after = 0 ∷ 1 ∷ 0 ∷ 0 ∷ 0 ∷ 0 ∷ 0 ∷ 0 ∷ 0 ∷ 0 ∷ 65535 ∷ 65535 ∷ 0 ∷ 0 ∷ 0 ∷ 0 ∷ [];
    }
    -- CR 3: an IT ends a branch that kills; the other branch runs, and each R is given once
    ∷ record {
      file = file_of (head 8 0 ++ row 17 ++ row 28 ++ (6 ∷ 22 ∷ 2 ∷ []) ++ row 23 ++ row 18 ++ function 2 9 ++ row 19 ++ row 27);
      file_length = 48;
      net_length = 398;
      offers = step 0 yes yes ∷ step 5 yes yes ∷ step 2 yes yes ∷ step 3 yes yes ∷ step 2 yes yes ∷ step 3 yes yes ∷ step 2 yes yes ∷ step 5 (refused 22 5) (refused 22 5) ∷ step 6 yes yes ∷ [];
      diagram_after = 0 ∷ 0 ∷ 0 ∷ 0 ∷ 0 ∷ 0 ∷ 0 ∷ 0 ∷ 0 ∷ 0 ∷ 0 ∷ 0 ∷ 0 ∷ 0 ∷ 0 ∷ 0 ∷ 0 ∷ 0 ∷ 0 ∷ 0 ∷ 0 ∷ 1 ∷ 0 ∷ 0 ∷ [];
      net_after = 0 ∷ 0 ∷ 0 ∷ 0 ∷ 0 ∷ 0 ∷ 0 ∷ 0 ∷ 2 ∷ 0 ∷ 0 ∷ 0 ∷ 0 ∷ 0 ∷ 0 ∷ 0 ∷ 0 ∷ 0 ∷ 0 ∷ 0 ∷ 0 ∷ 1 ∷ 0 ∷ 0 ∷ 0 ∷ 0 ∷ 0 ∷ 0 ∷ 0 ∷ 0 ∷ 0 ∷ [];
    }
    -- CR 3: an LE ends a branch that kills; its own range, rows 2 to 9, is in that of the AND, rows 1 to 13
    ∷ record {
      file = file_of (head 16 0 ++ row 17 ++ row 28 ++ row 24 ++ row 20 ++ row 18 ++ row 26 ++ row 18 ++ function 1 9 ++ row 21 ++ row 25 ++ row 18 ++ (6 ∷ 22 ∷ 3 ∷ []) ++ function 1 9 ++ row 23 ++ row 19 ++ row 27);
      file_length = 84;
      net_length = 758;
      offers = step 0 yes yes ∷ step 2 yes yes ∷ step 11 yes yes ∷ step 12 yes yes ∷ step 6 yes yes ∷ step 7 yes yes ∷ wait 1 yes ∷ step 7 yes yes ∷ step 8 yes yes ∷ step 9 yes yes ∷ step 2 yes yes ∷ step 4 yes yes ∷ step 5 yes yes ∷ [];
      diagram_after = 0 ∷ 0 ∷ 0 ∷ 3 ∷ 0 ∷ 0 ∷ 0 ∷ 0 ∷ 0 ∷ 0 ∷ 0 ∷ 0 ∷ 0 ∷ 0 ∷ 0 ∷ 0 ∷ 0 ∷ 0 ∷ 0 ∷ 0 ∷ 0 ∷ 0 ∷ 0 ∷ 0 ∷ 0 ∷ 0 ∷ 0 ∷ 0 ∷ 0 ∷ 0 ∷ 3 ∷ 0 ∷ 0 ∷ 0 ∷ 0 ∷ 0 ∷ 0 ∷ 0 ∷ 0 ∷ 0 ∷ 0 ∷ 0 ∷ 0 ∷ 0 ∷ 0 ∷ 0 ∷ 0 ∷ 0 ∷ [];
      net_after = 0 ∷ 0 ∷ 0 ∷ 1 ∷ 0 ∷ 0 ∷ 0 ∷ 0 ∷ 0 ∷ 0 ∷ 0 ∷ 0 ∷ 0 ∷ 0 ∷ 0 ∷ 0 ∷ 0 ∷ 0 ∷ 0 ∷ 0 ∷ 0 ∷ 0 ∷ 0 ∷ 0 ∷ 0 ∷ 0 ∷ 0 ∷ 0 ∷ 0 ∷ 0 ∷ 1 ∷ 0 ∷ 0 ∷ 0 ∷ 0 ∷ 3 ∷ 0 ∷ 0 ∷ 0 ∷ 0 ∷ 0 ∷ 0 ∷ 0 ∷ 0 ∷ 0 ∷ 0 ∷ 0 ∷ 0 ∷ 0 ∷ 0 ∷ 0 ∷ 0 ∷ 0 ∷ 0 ∷ 0 ∷ 0 ∷ 0 ∷ 0 ∷ 0 ∷ 0 ∷ 0 ∷ 0 ∷ 0 ∷ [];
    }
    -- CR 3: a kill in a branch that kills: the inner one leaves the outer AND alone, then the inner close kills there
    ∷ record {
      file = file_of (head 18 0 ++ row 17 ++ row 28 ++ row 17 ++ row 28 ++ function 1 9 ++ row 18 ++ function 1 9 ++ row 19 ++ row 28 ++ row 20 ++ row 18 ++ row 18 ++ function 1 9 ++ row 21 ++ row 18 ++ function 1 9 ++ row 19 ++ row 27);
      file_length = 98;
      net_length = 834;
      offers = step 0 yes yes ∷ step 2 yes yes ∷ step 4 yes yes ∷ step 6 yes yes ∷ step 11 yes yes ∷ step 12 yes yes ∷ step 15 yes yes ∷ wait 1 yes ∷ step 4 yes yes ∷ step 7 yes yes ∷ [];
      diagram_after = 0 ∷ 0 ∷ 0 ∷ 3 ∷ 0 ∷ 0 ∷ 0 ∷ 0 ∷ 0 ∷ 0 ∷ 0 ∷ 0 ∷ 0 ∷ 0 ∷ 0 ∷ 0 ∷ 0 ∷ 0 ∷ 0 ∷ 0 ∷ 0 ∷ 0 ∷ 0 ∷ 0 ∷ 3 ∷ 0 ∷ 0 ∷ 0 ∷ 0 ∷ 0 ∷ 0 ∷ 0 ∷ 0 ∷ 0 ∷ 0 ∷ 0 ∷ 0 ∷ 0 ∷ 0 ∷ 0 ∷ 0 ∷ 0 ∷ 3 ∷ 0 ∷ 0 ∷ 0 ∷ 0 ∷ 0 ∷ 0 ∷ 0 ∷ 0 ∷ 0 ∷ 0 ∷ 0 ∷ [];
      net_after = 0 ∷ 0 ∷ 0 ∷ 1 ∷ 0 ∷ 0 ∷ 0 ∷ 0 ∷ 0 ∷ 0 ∷ 0 ∷ 0 ∷ 0 ∷ 0 ∷ 0 ∷ 0 ∷ 0 ∷ 0 ∷ 0 ∷ 0 ∷ 0 ∷ 0 ∷ 0 ∷ 0 ∷ 1 ∷ 0 ∷ 0 ∷ 0 ∷ 0 ∷ 0 ∷ 0 ∷ 0 ∷ 0 ∷ 0 ∷ 0 ∷ 0 ∷ 0 ∷ 0 ∷ 0 ∷ 0 ∷ 0 ∷ 0 ∷ 1 ∷ 0 ∷ 0 ∷ 0 ∷ 0 ∷ 0 ∷ 0 ∷ 0 ∷ 0 ∷ 0 ∷ 0 ∷ 0 ∷ 0 ∷ 0 ∷ 0 ∷ 0 ∷ 0 ∷ 0 ∷ 0 ∷ 0 ∷ 0 ∷ 0 ∷ 0 ∷ 0 ∷ 0 ∷ 0 ∷ 0 ∷ [];
    }
    -- CR 3: a trigger's copies outlast a kill
    ∷ record {
      file = file_of (head 7 1 ++ (6 ∷ 3 ∷ 0 ∷ []) ++ row 17 ++ row 28 ++ (14 ∷ 16 ∷ 0 ∷ 9 ∷ 0 ∷ 0 ∷ 1 ∷ []) ++ row 18 ++ (14 ∷ 16 ∷ 0 ∷ 9 ∷ 0 ∷ 1 ∷ 0 ∷ []) ++ row 19 ++ row 27);
      file_length = 64;
      net_length = 350;
      offers = step 0 yes yes ∷ step 2 yes yes ∷ step 2 yes yes ∷ step 4 (refused 22 4) (refused 22 4) ∷ step 5 yes yes ∷ [];
      diagram_after = 0 ∷ 0 ∷ 0 ∷ 0 ∷ 0 ∷ 0 ∷ 0 ∷ 0 ∷ 0 ∷ 0 ∷ 0 ∷ 0 ∷ 0 ∷ 0 ∷ 0 ∷ 0 ∷ 0 ∷ 0 ∷ 1 ∷ 0 ∷ 0 ∷ 0 ∷ 1 ∷ [];
      net_after = 0 ∷ 0 ∷ 0 ∷ 0 ∷ 0 ∷ 0 ∷ 0 ∷ 0 ∷ 0 ∷ 0 ∷ 0 ∷ 0 ∷ 0 ∷ 0 ∷ 0 ∷ 0 ∷ 0 ∷ 0 ∷ 1 ∷ 0 ∷ 0 ∷ 0 ∷ 1 ∷ 0 ∷ 0 ∷ 0 ∷ 0 ∷ 0 ∷ 0 ∷ [];
    }
    -- CR 4: a FUNCTION of α 2 in the inner one of two LPs is in both
    ∷ record {
      file = file_of (head 6 0 ++ row 24 ++ row 24 ++ function 2 5 ++ row 25 ++ row 25 ++ row 27);
      file_length = 38;
      net_length = 272;
      offers = step 0 yes yes ∷ step 1 yes yes ∷ step 2 yes yes ∷ step 2 (refused 24 2) (refused 24 2) ∷ wait 2 yes ∷ step 2 yes yes ∷ step 3 yes yes ∷ step 1 yes yes ∷ [];
      diagram_after = 0 ∷ 0 ∷ 0 ∷ 0 ∷ 0 ∷ 0 ∷ 1 ∷ 0 ∷ 0 ∷ 0 ∷ 0 ∷ 0 ∷ 0 ∷ 0 ∷ 0 ∷ 0 ∷ 0 ∷ 0 ∷ [];
      net_after = 0 ∷ 0 ∷ 0 ∷ 0 ∷ 0 ∷ 0 ∷ 1 ∷ 0 ∷ 0 ∷ 0 ∷ 0 ∷ 0 ∷ 0 ∷ 0 ∷ 0 ∷ 0 ∷ 0 ∷ 0 ∷ 0 ∷ 0 ∷ 0 ∷ 0 ∷ 0 ∷ 0 ∷ [];
    }
    -- CR 7: an EXIT out of an AND, each branch of which has one
    ∷ record {
      file = file_of (head 12 0 ++ row 29 ++ row 17 ++ row 18 ++ (6 ∷ 31 ∷ 1 ∷ []) ++ row 18 ++ (6 ∷ 31 ∷ 0 ∷ []) ++ row 19 ++ row 18 ++ function 0 3 ++ row 18 ++ row 30 ++ row 27);
      file_length = 66;
      net_length = 464;
      offers = step 0 yes yes ∷ step 1 yes yes ∷ step 5 yes yes ∷ step 3 (refused 22 3) (refused 22 3) ∷ step 8 yes yes ∷ step 8 yes yes ∷ step 10 yes yes ∷ [];
      diagram_after = 0 ∷ 0 ∷ 0 ∷ 0 ∷ 0 ∷ 0 ∷ 0 ∷ 0 ∷ 0 ∷ 0 ∷ 0 ∷ 0 ∷ 0 ∷ 0 ∷ 0 ∷ 0 ∷ 0 ∷ 0 ∷ 0 ∷ 0 ∷ 0 ∷ 0 ∷ 0 ∷ 0 ∷ 0 ∷ 0 ∷ 0 ∷ 0 ∷ 0 ∷ 0 ∷ 0 ∷ 0 ∷ 0 ∷ 1 ∷ 0 ∷ 0 ∷ [];
      net_after = 0 ∷ 0 ∷ 0 ∷ 0 ∷ 0 ∷ 0 ∷ 0 ∷ 0 ∷ 0 ∷ 0 ∷ 0 ∷ 0 ∷ 0 ∷ 0 ∷ 0 ∷ 0 ∷ 0 ∷ 0 ∷ 0 ∷ 0 ∷ 0 ∷ 0 ∷ 0 ∷ 0 ∷ 0 ∷ 0 ∷ 0 ∷ 0 ∷ 0 ∷ 0 ∷ 0 ∷ 0 ∷ 0 ∷ 1 ∷ 0 ∷ 0 ∷ 0 ∷ 0 ∷ 0 ∷ 0 ∷ 0 ∷ 0 ∷ 0 ∷ 0 ∷ [];
    }
    -- CR 7: a box ends a killing branch
    ∷ record {
      file = file_of (head 16 0 ++ row 17 ++ row 28 ++ row 29 ++ row 17 ++ row 18 ++ (6 ∷ 31 ∷ 0 ∷ []) ++ row 18 ++ (6 ∷ 31 ∷ 1 ∷ []) ++ row 19 ++ row 18 ++ row 18 ++ row 30 ++ row 18 ++ function 1 9 ++ row 19 ++ row 27);
      file_length = 82;
      net_length = 620;
      offers = step 0 yes yes ∷ step 13 yes yes ∷ step 2 yes yes ∷ step 3 yes yes ∷ step 5 yes yes ∷ step 11 yes yes ∷ step 14 yes yes ∷ [];
      diagram_after = 0 ∷ 0 ∷ 0 ∷ 0 ∷ 0 ∷ 0 ∷ 0 ∷ 0 ∷ 0 ∷ 0 ∷ 0 ∷ 0 ∷ 0 ∷ 0 ∷ 0 ∷ 0 ∷ 0 ∷ 0 ∷ 0 ∷ 0 ∷ 0 ∷ 0 ∷ 0 ∷ 0 ∷ 0 ∷ 0 ∷ 0 ∷ 0 ∷ 0 ∷ 0 ∷ 0 ∷ 0 ∷ 0 ∷ 0 ∷ 0 ∷ 0 ∷ 0 ∷ 0 ∷ 0 ∷ 0 ∷ 0 ∷ 0 ∷ 0 ∷ 0 ∷ 0 ∷ 1 ∷ 0 ∷ 0 ∷ [];
      net_after = 0 ∷ 0 ∷ 0 ∷ 0 ∷ 0 ∷ 0 ∷ 0 ∷ 0 ∷ 0 ∷ 0 ∷ 0 ∷ 0 ∷ 0 ∷ 0 ∷ 0 ∷ 0 ∷ 0 ∷ 0 ∷ 0 ∷ 0 ∷ 0 ∷ 0 ∷ 0 ∷ 0 ∷ 0 ∷ 0 ∷ 0 ∷ 0 ∷ 0 ∷ 0 ∷ 0 ∷ 0 ∷ 0 ∷ 0 ∷ 0 ∷ 0 ∷ 0 ∷ 0 ∷ 0 ∷ 0 ∷ 0 ∷ 0 ∷ 0 ∷ 0 ∷ 0 ∷ 1 ∷ 0 ∷ 0 ∷ 0 ∷ 0 ∷ 0 ∷ 0 ∷ 0 ∷ 0 ∷ 0 ∷ 0 ∷ 0 ∷ 0 ∷ [];
    }
    ∷ []

-- refused, with this number and value
abbrev pub turns_away : Outcome Diagram → (number value : ℕ) → Bool
turns_away (accepted d) number value = false
turns_away (refused n v) number value = eqb n number && eqb v value

unfoldable pub refusals : Bool
refusals = turns_away (read_diagram (file_of (head 2 1 ++ (6 ∷ 3 ∷ 0 ∷ []) ++ (14 ∷ 16 ∷ 0 ∷ 1 ∷ 0 ∷ 2 ∷ 0 ∷ []) ++ row 27))) 43 16
    && (turns_away (read_diagram (file_of (head 5 0 ++ row 17 ++ row 28 ++ row 18 ++ row 19 ++ row 27))) 44 1
    && (turns_away (read_diagram (file_of (head 6 0 ++ row 20 ++ row 28 ++ function 0 1 ++ row 18 ++ row 21 ++ row 27))) 7 1
    -- CR 4: an empty LP; an LP whose only FUNCTION has α 0; the inner one of two, with a FUNCTION of α 1 behind it; the lower of two; behind the walk
    && (turns_away (read_diagram (file_of (head 3 0 ++ row 24 ++ row 25 ++ row 27))) 45 0
    && (turns_away (read_diagram (file_of (head 5 0 ++ function 3 3 ++ row 24 ++ function 0 3 ++ row 25 ++ row 27))) 45 1
    && (turns_away (read_diagram (file_of (head 7 0 ++ row 24 ++ row 24 ++ function 0 1 ++ row 25 ++ function 1 1 ++ row 25 ++ row 27))) 45 1
    && (turns_away (read_diagram (file_of (head 6 0 ++ row 24 ++ row 24 ++ row 25 ++ row 25 ++ function 1 1 ++ row 27))) 45 0
    && turns_away (read_diagram (file_of (head 4 0 ++ row 24 ++ row 25 ++ row 25 ++ row 27))) 7 2))))))

-- CR 7, rule by rule: EXIT in no scenario; in an outlet; right in an LP
unfoldable pub box_refusals : Bool
box_refusals = turns_away (read_diagram (file_of (head 6 0 ++ row 20 ++ row 18 ++ (6 ∷ 31 ∷ 0 ∷ []) ++ row 18 ++ row 21 ++ row 27))) 48 2
    && (turns_away (read_diagram (file_of (head 7 0 ++ row 29 ++ (6 ∷ 31 ∷ 0 ∷ []) ++ row 18 ++ (6 ∷ 31 ∷ 1 ∷ []) ++ row 18 ++ row 30 ++ row 27))) 48 3
    && (turns_away (read_diagram (file_of (head 8 0 ++ row 29 ++ row 24 ++ (6 ∷ 31 ∷ 0 ∷ []) ++ row 25 ++ row 18 ++ row 18 ++ row 30 ++ row 27))) 48 2
    -- one outlet only; a BRANCH that kills as outlet; an LE whose loop is around its box
    && (turns_away (read_diagram (file_of (head 5 0 ++ row 29 ++ (6 ∷ 31 ∷ 0 ∷ []) ++ row 18 ++ row 30 ++ row 27))) 7 3
    && (turns_away (read_diagram (file_of (head 6 0 ++ row 29 ++ (6 ∷ 31 ∷ 0 ∷ []) ++ row 28 ++ row 18 ++ row 30 ++ row 27))) 7 2
    && (turns_away (read_diagram (file_of (head 14 0 ++ row 24 ++ row 29 ++ row 20 ++ row 18 ++ row 26 ++ row 18 ++ (6 ∷ 31 ∷ 0 ∷ []) ++ row 21 ++ row 18 ++ row 18 ++ row 30 ++ function 1 1 ++ row 25 ++ row 27))) 8 4
    -- two EXITs for one outlet; an outlet that is none; at a later box, before the 50 of an earlier one and the 45 of an LP
    && (turns_away (read_diagram (file_of (head 11 0 ++ row 29 ++ row 20 ++ row 18 ++ (6 ∷ 31 ∷ 0 ∷ []) ++ row 18 ++ (6 ∷ 31 ∷ 0 ∷ []) ++ row 21 ++ row 18 ++ row 18 ++ row 30 ++ row 27))) 49 0
    && (turns_away (read_diagram (file_of (head 11 0 ++ row 29 ++ row 20 ++ row 18 ++ (6 ∷ 31 ∷ 0 ∷ []) ++ row 18 ++ (6 ∷ 31 ∷ 2 ∷ []) ++ row 21 ++ row 18 ++ row 18 ++ row 30 ++ row 27))) 49 0
    && (turns_away (read_diagram (file_of (head 18 0 ++ row 24 ++ row 25 ++ row 29 ++ row 20 ++ row 18 ++ (6 ∷ 31 ∷ 0 ∷ []) ++ row 18 ++ (6 ∷ 31 ∷ 1 ∷ []) ++ row 21 ++ function 0 0 ++ row 18 ++ row 18 ++ row 30 ++ row 29 ++ row 18 ++ row 18 ++ row 30 ++ row 27))) 49 13
    -- an OR one of whose branches falls through; an AND with a killing branch that does; before the 45 of an LP
    && (turns_away (read_diagram (file_of (head 12 0 ++ row 29 ++ row 20 ++ row 18 ++ (6 ∷ 31 ∷ 0 ∷ []) ++ row 18 ++ (6 ∷ 31 ∷ 1 ∷ []) ++ row 18 ++ row 21 ++ row 18 ++ row 18 ++ row 30 ++ row 27))) 50 0
    && (turns_away (read_diagram (file_of (head 16 0 ++ row 29 ++ row 17 ++ row 28 ++ function 0 0 ++ row 18 ++ row 20 ++ row 18 ++ (6 ∷ 31 ∷ 0 ∷ []) ++ row 18 ++ (6 ∷ 31 ∷ 1 ∷ []) ++ row 21 ++ row 19 ++ row 18 ++ row 18 ++ row 30 ++ row 27))) 50 0
    && turns_away (read_diagram (file_of (head 14 0 ++ row 24 ++ row 25 ++ row 29 ++ row 20 ++ row 18 ++ (6 ∷ 31 ∷ 0 ∷ []) ++ row 18 ++ (6 ∷ 31 ∷ 1 ∷ []) ++ row 21 ++ function 0 0 ++ row 18 ++ row 18 ++ row 30 ++ row 27))) 50 2))))))))))

unfoldable pub requests_hold : Bool
requests_hold = all_hold requests && (refusals && box_refusals)
