-- The arcs of an accepted net file's transitions are fine: their places rise, kind by kind.
use Prim.Native.Nat.{ℕ, zero, suc, ◌<◌}
use mathlib.Core.Path.{◌≡◌}
use mathlib.Core.Bool.{true, ◌&&◌}
use mathlib.Core.List.{List, [], ◌∷◌}
use native.Mathlib.Nat.{le_of_suc-le-suc, not-suc-le-zero}
use lib.ListN.{length, get_or}
use lib.Dec.{leb}
use Rattle.ranges.specs.Tests.{and_left, and_right}
use Rattle.effbd.specs.Answers.{accepted}
use Rattle.effbd.specs.Records.{are_bytes}
use Rattle.effbd.specs.Nets.{Net, Transition, most_places, most_transitions, read_net, take_arc, transition_fine}
use Rattle.agreement.specs.Formed.{arcs_fine, fits_word, marks_fine, transitions_fine, well_formed}
use Rattle.agreement.specs.NetFiles.{net-back}

fine-at : (count label : ℕ) (ts : List Transition) (i : ℕ) (none : Transition) → i < length ts → transitions_fine count label ts ≡ true → arcs_fine count take_arc 0 (get_or ts i none).arcs ≡ true
unfolding transitions_fine
fine-at count label [] i none l h = absurd (not-suc-le-zero l)
fine-at count label (t ∷ ts) zero none l h = and_left (arcs_fine count take_arc 0 t.arcs) _ (and_right (fits_word t.latest) _ (and_right (transition_fine label t) _ h))
fine-at count label (t ∷ ts) (suc i) none l h =
    fine-at count t.label ts i none (le_of_suc-le-suc l) (and_right (arcs_fine count take_arc 0 t.arcs) _ (and_right (fits_word t.latest) _ (and_right (transition_fine label t) _ h)))

well-formed : (n : Net) → well_formed n ≡ true → transitions_fine (length n.marks) 0 n.transitions ≡ true
unfolding well_formed
well-formed n e = and_right (marks_fine n.marks) _ (and_right (leb 1 (length n.marks) && (leb (length n.marks) most_places && leb (length n.transitions) most_transitions)) _ e)

pub arcs-fine : (file : List ℕ) (n : Net) → are_bytes file ≡ true → read_net file ≡ accepted n
    → (i : ℕ) (none : Transition) → i < length n.transitions → arcs_fine (length n.marks) take_arc 0 (get_or n.transitions i none).arcs ≡ true
arcs-fine file n bytes says i none l = fine-at (length n.marks) 0 n.transitions i none l (well-formed n (net-back file n bytes says).fine)
