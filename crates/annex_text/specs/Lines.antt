-- The lines of a net's text, from the bytes of its file: what the bytes say, whether a net file or not. Assumes nothing.
use Rattle.std.specs.Prelude.{ℕ, zero, suc, ◌+◌, ◌*◌, cond, List, [], ◌∷◌, ◌++◌, length, take, drop, ltb, eqb}
use Rattle.effbd.specs.Answers.{Outcome, accepted, refused}
use Rattle.effbd.specs.Records.{word, kind_at}
use Rattle.effbd.specs.Annex.{number, line, net_letters, marks_letters, t_letter, label_letters, from_letters, to_letters, arc_letters, refused_letters}

-- the line of a transition, number j
unfoldable pub transition_line : ℕ → List ℕ → List ℕ
transition_line j bytes = t_letter ++ (number j ++ (label_letters ++ (number (word bytes 4) ++ (from_letters ++ (number (word bytes 6) ++ (to_letters ++ (number (word bytes 8) ++ (10 ∷ []))))))))

-- the line of an arc
unfoldable pub arc_line : List ℕ → List ℕ
arc_line bytes = line (arc_letters (kind_at bytes)) (word bytes 4 ∷ word bytes 6 ∷ [])

-- a record of kind 34 is a transition, any other an arc: its line, its bytes, and by how much it raises the next transition's number
unfoldable pub record_line : ℕ → List ℕ → List ℕ
record_line j bytes = cond (eqb (kind_at bytes) 34) (transition_line j bytes) (arc_line bytes)

unfoldable pub record_size : List ℕ → ℕ
record_size bytes = cond (eqb (kind_at bytes) 34) 10 8

unfoldable pub transitions_at : List ℕ → ℕ
transitions_at bytes = cond (eqb (kind_at bytes) 34) 1 0

-- the lines of the transitions and arcs at the start of `rest`, at most `most` of them; the next transition is number j
unfoldable pub record_lines : (most j : ℕ) → List ℕ → List ℕ
record_lines zero j rest = []
record_lines (suc most) j rest =
    cond (ltb (length rest) 4) [] (record_line j rest ++ record_lines most (j + transitions_at rest) (drop (record_size rest) rest))

-- the marks of `n` places
unfoldable pub mark_numbers : ℕ → List ℕ → List ℕ
mark_numbers zero rest = []
mark_numbers (suc n) rest = number (word rest 4) ++ mark_numbers n (drop 6 rest)

-- behind the head and the places, each 6 bytes long, stand the transitions with their arcs
abbrev pub records_of : List ℕ → List ℕ
records_of net = drop (8 + 6 * word net 4) net

unfoldable pub net_text : List ℕ → List ℕ
net_text net =
    line net_letters (word net 4 ∷ word net 6 ∷ [])
    ++ ((marks_letters ++ (mark_numbers (word net 4) (drop 8 net) ++ (10 ∷ []))) ++ record_lines (length (records_of net)) 0 (records_of net))

-- what is printed of a translation's answer, where `area` holds the net
abbrev pub answer_text : Outcome ℕ → List ℕ → List ℕ
answer_text (accepted size) area = net_text (take size area)
answer_text (refused number value) area = line refused_letters (number ∷ value ∷ [])
