-- Document 01, "Plant-room examples", A: what the annex program prints of a diagram. Assumes nothing.
use Rattle.std.specs.Prelude.{ℕ, zero, suc, ◌+◌, ◌/◌, ◌%◌, cond, List, [], ◌∷◌, ◌++◌, length, take, drop, leb, ltb, eqb}
use Rattle.effbd.specs.Answers.{Outcome, accepted, refused, and_then}
use Rattle.effbd.specs.Nesting.{read_diagram}
use Rattle.effbd.specs.Nets.{Arc, take_arc, clear_arc, Transition, Net, net_bytes}
use Rattle.effbd.specs.Patterns.{net_of}

-- a number in decimal, in at most `most` digits: 48 is the byte of 0
unfoldable pub digits : (most number : ℕ) → List ℕ
digits zero n = []
digits (suc most) n = cond (ltb n 10) ((48 + n) ∷ []) (digits most (n / 10) ++ ((48 + n % 10) ∷ []))

-- ten digits hold every number of 32 bits; before each number stands a space (byte 32)
unfoldable pub number : ℕ → List ℕ
number n = 32 ∷ digits 10 n

unfoldable pub numbers : List ℕ → List ℕ
numbers [] = []
numbers (n ∷ ns) = number n ++ numbers ns

-- a line is a word, numbers, a newline (byte 10)
abbrev pub line : List ℕ → List ℕ → List ℕ
line word ns = word ++ (numbers ns ++ (10 ∷ []))

-- net, marks, t, label, from, to, take, clear, give, refused, letter by letter
abbrev pub net_letters : List ℕ
net_letters = 110 ∷ 101 ∷ 116 ∷ []

abbrev pub marks_letters : List ℕ
marks_letters = 109 ∷ 97 ∷ 114 ∷ 107 ∷ 115 ∷ []

abbrev pub t_letter : List ℕ
t_letter = 116 ∷ []

abbrev pub label_letters : List ℕ
label_letters = 32 ∷ 108 ∷ 97 ∷ 98 ∷ 101 ∷ 108 ∷ []

abbrev pub from_letters : List ℕ
from_letters = 32 ∷ 102 ∷ 114 ∷ 111 ∷ 109 ∷ []

abbrev pub to_letters : List ℕ
to_letters = 32 ∷ 116 ∷ 111 ∷ []

abbrev pub take_letters : List ℕ
take_letters = 116 ∷ 97 ∷ 107 ∷ 101 ∷ []

abbrev pub clear_letters : List ℕ
clear_letters = 99 ∷ 108 ∷ 101 ∷ 97 ∷ 114 ∷ []

abbrev pub give_letters : List ℕ
give_letters = 103 ∷ 105 ∷ 118 ∷ 101 ∷ []

abbrev pub refused_letters : List ℕ
refused_letters = 114 ∷ 101 ∷ 102 ∷ 117 ∷ 115 ∷ 101 ∷ 100 ∷ []

-- "`take` and `give` place and weight; `clear` first and last"
abbrev pub arc_letters : ℕ → List ℕ
arc_letters k = cond (eqb k take_arc) take_letters (cond (eqb k clear_arc) clear_letters give_letters)

unfoldable pub arc_lines : List Arc → List ℕ
arc_lines [] = []
arc_lines (x ∷ xs) = line (arc_letters x.kind) (x.first ∷ x.second ∷ []) ++ arc_lines xs

-- "`t` number, label, a, b": the transitions from number j on, each with its arcs
unfoldable pub transition_lines : ℕ → List Transition → List ℕ
transition_lines j [] = []
transition_lines j (t ∷ ts) =
    (t_letter ++ (number j ++ (label_letters ++ (number t.label ++ (from_letters ++ (number t.earliest ++ (to_letters ++ (number t.latest ++ (10 ∷ [])))))))))
    ++ (arc_lines t.arcs ++ transition_lines (suc j) ts)

-- "`net` has places and transitions, `marks` each place's mark"
unfoldable pub net_lines : Net → List ℕ
net_lines n = line net_letters (length n.marks ∷ length n.transitions ∷ []) ++ (line marks_letters n.marks ++ transition_lines 0 n.transitions)

-- "A refusal prints `refused`, number, returned value"
unfoldable pub printed : Outcome Net → List ℕ
printed (accepted n) = net_lines n
printed (refused number value) = line refused_letters (number ∷ value ∷ [])

-- "reads a diagram on standard input, lends 65,536 bytes for the net and prints": 10 where the net needs more than is lent
abbrev pub annex_room : ℕ
annex_room = 65536

abbrev pub fitted : ℕ → Net → Outcome Net
fitted room n = cond (leb (length (net_bytes n)) room) (accepted n) (refused 10 (length (net_bytes n)))

unfoldable pub annex_in : (room : ℕ) → List ℕ → List ℕ
annex_in room file = printed (and_then (read_diagram file) (λ d. fitted room (net_of d)))

abbrev pub annex_text : List ℕ → List ℕ
annex_text file = annex_in annex_room file

-- the text over the first bytes of the area lent for it, as far as it has room
abbrev pub over : List ℕ → List ℕ → List ℕ
over area text = take (length area) text ++ drop (length text) area
