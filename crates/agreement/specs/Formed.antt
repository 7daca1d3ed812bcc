-- Which nets a net file can hold: "places rising, clear ranges rising and disjoint, all places below the head's number, weights 1 or more",
-- "label below 64 and never falling, a ≤ b", places from 1 and transitions from 0 to the net's limits, every field of 16 bits.
use Rattle.std.specs.Prelude.{ℕ, Bool, true, ◌&&◌, List, [], ◌∷◌, length, leb}
use Rattle.effbd.specs.Moves.{most_word}
use Rattle.effbd.specs.Nets.{Arc, take_arc, Transition, Net, most_places, most_transitions, arc_due, arc_fine, above, transition_fine}

abbrev pub fits_word : ℕ → Bool
fits_word n = leb n most_word

unfoldable pub arcs_fine : (count k from : ℕ) → List Arc → Bool
arcs_fine count k from [] = true
arcs_fine count k from (x ∷ xs) = arc_due k x.kind && (arc_fine count k from x && (fits_word x.second && arcs_fine count x.kind (above x) xs))

unfoldable pub transitions_fine : (count label : ℕ) → List Transition → Bool
transitions_fine count label [] = true
transitions_fine count label (t ∷ ts) =
    transition_fine label t && (fits_word t.latest && (arcs_fine count take_arc 0 t.arcs && transitions_fine count t.label ts))

unfoldable pub marks_fine : List ℕ → Bool
marks_fine [] = true
marks_fine (m ∷ ms) = fits_word m && marks_fine ms

unfoldable pub well_formed : Net → Bool
well_formed n = (leb 1 (length n.marks) && (leb (length n.marks) most_places && leb (length n.transitions) most_transitions))
    && (marks_fine n.marks && transitions_fine (length n.marks) 0 n.transitions)
