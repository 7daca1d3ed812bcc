-- A net file behind its head, read record by record: what is due next decides what a record is checked for. Assumes nothing.
use Rattle.std.specs.Prelude.{ℕ, suc, ◌+◌, ◌-◌, ◌*◌, ◌≤◌, Bool, true, not, cond, ◌&&◌, List, [], length, leb, eqb}
use Rattle.effbd.specs.Answers.{Outcome, accepted, and_then, returning_zero}
use Rattle.effbd.specs.Records.{word, length_at, kind_at, length_of, fault_at, read_many}
use Rattle.effbd.specs.Nets.{Arc, Transition, take_arc, give_arc, most_places, most_transitions, arc_due, arc_fine, above, transition_fine, arc_at, transition_at, mark_at, mark_fault, read_tail}
use Rattle.net_file.specs.declared.Due.{Due}
use Rattle.net_file.specs.Contents.{head_fine}

-- what is due behind the places: before the first transition no arc is
unfoldable pub start : (transitions : ℕ) → Due
start transitions = record { transitions = transitions; kind = suc give_arc; from = 0; label = 0 }

-- an arc and a transition of given values
abbrev pub arc_of : (kind first second : ℕ) → Arc
arc_of kind first second = record { kind = kind; first = first; second = second }

abbrev pub timed : (label earliest latest : ℕ) → Transition
timed label earliest latest = record { label = label; earliest = earliest; latest = latest; arcs = [] }

-- "Checking a record uses the length that its kind gives": the length by the record's own kind, and whether it has that
abbrev pub own_length : List ℕ → ℕ
own_length rest = length_of (kind_at rest)

abbrev pub length_right : List ℕ → Bool
length_right rest = eqb (length_at rest) (own_length rest)

-- the fault of a place, 0 for none
unfoldable pub place_fault : List ℕ → ℕ
place_fault rest = fault_at rest (eqb (kind_at rest) 33) (length_right rest) true 5

-- an arc stands next and is due
unfoldable pub arc_next : ℕ → List ℕ → Bool
arc_next kind rest = leb 4 (length rest) && arc_due kind (kind_at rest)

-- the fault of the arc or transition that `rest` begins with, 0 for none; 6 for bytes where nothing more must come
unfoldable pub fault_in : (count : ℕ) → Due → List ℕ → ℕ
fault_in count due rest = cond (arc_next due.kind rest)
    (fault_at rest true (length_right rest) (arc_fine count due.kind due.from (arc_at rest)) 5)
    (cond (eqb due.transitions 0) 6 (fault_at rest (eqb (kind_at rest) 34) (length_right rest) (transition_fine due.label (transition_at rest)) 5))

-- the length that a kind gives, where the record at the start has it and stands whole; else 0
unfoldable pub size_by : ℕ → List ℕ → ℕ
size_by kind rest = cond (eqb (length_at rest) (length_of kind) && leb (length_of kind) (length rest)) (length_of kind) 0

-- the length of the head, a place, an arc, a transition at the start that is due and has nothing off; 0 where none stands there
unfoldable pub head_size : List ℕ → ℕ
head_size net = cond (eqb (kind_at net) 32 && head_fine (word net 4) (word net 6)) (size_by (kind_at net) net) 0

unfoldable pub place_size : List ℕ → ℕ
place_size rest = cond (eqb (kind_at rest) 33) (size_by (kind_at rest) rest) 0

unfoldable pub arc_size : (count : ℕ) → Due → List ℕ → ℕ
arc_size count due rest = cond (arc_next due.kind rest && arc_fine count due.kind due.from (arc_at rest)) (size_by (kind_at rest) rest) 0

unfoldable pub transition_size : Due → List ℕ → ℕ
transition_size due rest =
    cond (eqb (kind_at rest) 34 && (not (eqb due.transitions 0) && transition_fine due.label (transition_at rest))) (size_by (kind_at rest) rest) 0

-- what is due behind a transition, and behind an arc
unfoldable pub behind_transition : Due → List ℕ → Due
behind_transition due rest = record { transitions = due.transitions - 1; kind = take_arc; from = 0; label = word rest 4 }

unfoldable pub behind_arc : Due → List ℕ → Due
behind_arc due rest = record { transitions = due.transitions; kind = kind_at rest; from = above (arc_at rest); label = due.label }

unfoldable pub ended : Due → List ℕ → Bool
ended due rest = eqb due.transitions 0 && eqb (length rest) 0

-- what is answered for `rest`, the end of a file of `total` bytes, where `due` is due, and where n places are: 0, or the refusal
unfoldable pub verdict : (count total : ℕ) → Due → List ℕ → Outcome ℕ
verdict count total due rest = returning_zero (read_tail count total (suc (length rest)) due.transitions due.kind due.from due.label rest)

unfoldable pub places_verdict : (count total transitions n : ℕ) → List ℕ → Outcome ℕ
places_verdict count total transitions n rest = and_then (read_many mark_fault mark_at total n rest) (λ got. verdict count total (start transitions) got.rest)

-- where nothing is off, so many words are answered
abbrev pub answering : ℕ → Outcome ℕ → Outcome ℕ
answering words o = and_then o (λ z. accepted words)

-- what the readers behind the head are called with, beside the constant table (`Kinds`): values that the head may have, and the rest of a file of
-- `total` bytes of which at most `read` were read
pub record Lent (total count transitions read : ℕ) (rest : List ℕ) : Type 0 where
  pub places : count ≤ most_places
  pub more : transitions ≤ most_transitions
  pub inside : length rest ≤ total
  pub near : total ≤ length rest + read

-- what the head has, and what it has with the places
abbrev pub head_end : ℕ
head_end = 8

abbrev pub places_end : ℕ
places_end = 8 + 6 * most_places
