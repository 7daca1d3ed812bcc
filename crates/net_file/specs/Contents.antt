-- What the bytes of a net file say, accepted or not, read by tails. Assumes nothing.
use Rattle.std.specs.Prelude.{ℕ, zero, suc, ◌+◌, ◌*◌, Bool, cond, ◌&&◌, List, [], ◌∷◌, length, drop, leb}
use Rattle.effbd.specs.Records.{word, kind_at}
use Rattle.effbd.specs.Nets.{Arc, Transition, take_arc, most_places, most_transitions, arc_due, arc_at}

-- an arc stands at the start
unfoldable pub arc_here : List ℕ → Bool
arc_here rest = leb 8 (length rest) && arc_due take_arc (kind_at rest)

unfoldable pub arcs_within : (fuel : ℕ) → List ℕ → List Arc
arcs_within zero rest = []
arcs_within (suc fuel) rest = cond (arc_here rest) (arc_at rest ∷ arcs_within fuel (drop 8 rest)) []

-- the arcs at the start, and what follows them
unfoldable pub arcs_in : List ℕ → List Arc
arcs_in rest = arcs_within (length rest) rest

unfoldable pub past_arcs : List ℕ → List ℕ
past_arcs rest = drop (8 * length (arcs_in rest)) rest

-- the transition at the start with its arcs, and what follows it
unfoldable pub transition_in : List ℕ → Transition
transition_in rest = record { label = word rest 4; earliest = word rest 6; latest = word rest 8; arcs = arcs_in (drop 10 rest) }

unfoldable pub after_transition : List ℕ → List ℕ
after_transition rest = past_arcs (drop 10 rest)

-- as many transitions from the start on; where transition j begins
unfoldable pub transitions_in : ℕ → List ℕ → List Transition
transitions_in zero rest = []
transitions_in (suc n) rest = transition_in rest ∷ transitions_in n (after_transition rest)

unfoldable pub part_at : ℕ → List ℕ → List ℕ
part_at zero rest = rest
part_at (suc j) rest = part_at j (after_transition rest)

-- where the transitions begin, in a file of so many places
unfoldable pub behind_places : ℕ → List ℕ → List ℕ
behind_places places file = drop (8 + 6 * places) file

-- the head's values
unfoldable pub head_fine : (places transitions : ℕ) → Bool
head_fine places transitions = leb 1 places && (leb places most_places && leb transitions most_transitions)
