-- What is proved of every state reached by a list of moves, each statement whole; the proofs stand in the files named.
-- Of a file nothing is supposed but that it is bytes and that it is accepted.
use Rattle.std.specs.Prelude.{ℕ, ◌≡◌, true, List, length}
use Rattle.effbd.specs.Answers.{accepted, is_accepted}
use Rattle.effbd.specs.Records.{are_bytes}
use Rattle.effbd.specs.Diagrams.{Diagram, function, kind}
use Rattle.effbd.specs.Nesting.{read_diagram}
use Rattle.effbd.specs.States.{state_of}
use Rattle.effbd.specs.Moves.{Move, step_diagram}
use Rattle.effbd.specs.Nets.{Net, net_bytes, read_net}
use Rattle.effbd.specs.Firing.{behaviour_of, net_state_of, net_words, step_net}
use Rattle.effbd.specs.Patterns.{net_of}
use Rattle.effbd.specs.Image.{image, image_words}
use Rattle.effbd.specs.Transitions.{lowest_enabled, number_by_activity, transition_diagram, transition_net}
use Rattle.agreement.specs.Theorems.{reached}
use Rattle.liveness.specs.Fired.{FiresNumber, fired_by}
use Rattle.liveness.specs.AtReached.{bytes-fire, number-fires, told-by-diagram, told-by-net, told-of-net}

module _ (file : List ℕ) (d : Diagram) (bytes : are_bytes file ≡ true) (read : read_diagram file ≡ accepted d) where
  -- 02, CR 6, after these moves: "the first one's number plus activity less 1"
  abbrev pub number_after : List Move → ℕ → ℕ
  number_after moves r = number_by_activity d r ((state_of d (reached d moves)).activity r)

  -- THEOREM (02, CR 6): at every state reached by a list of moves where the step of a FUNCTION row is accepted, that is the transition that the net fires
  -- at the image. It is the number that is meant: two transitions may have the same effect (Fired.antt)
  pub which-fires : (moves : List Move) (r : ℕ) → kind d r ≡ function → is_accepted (step_diagram file 1 r (reached d moves)) ≡ true
      → FiresNumber (net_of d) r (image d (reached d moves)) (number_after moves r)
  which-fires = number-fires file d bytes read

  -- on bytes: the stepper of nets, on the net's file and the words of the image, leaves what firing this transition leaves (AtReached.antt)
  pub net-fires : (moves : List Move) (r : ℕ) → kind d r ≡ function → is_accepted (step_diagram file 1 r (reached d moves)) ≡ true
      → step_net (net_bytes (net_of d)) 1 r (image_words d (reached d moves)) ≡ accepted (net_words (fired_by (net_of d) (number_after moves r) (image d (reached d moves))))
  net-fires = bytes-fire file d bytes read

  -- and both calls answer it: the diagram's by arithmetic, the net's by looking (AtReached.antt)
  pub diagram-tells : (moves : List Move) (r : ℕ) → kind d r ≡ function → is_accepted (step_diagram file 1 r (reached d moves)) ≡ true
      → transition_diagram file r (reached d moves) ≡ accepted (number_after moves r)
  diagram-tells = told-by-diagram file d bytes read

  pub net-tells : (moves : List Move) (r : ℕ) → kind d r ≡ function → is_accepted (step_diagram file 1 r (reached d moves)) ≡ true
      → transition_net (net_bytes (net_of d)) r (image_words d (reached d moves)) ≡ accepted (number_after moves r)
  net-tells = told-by-net file d bytes read

-- THEOREM: on any accepted net file, at any words, the net's call answers the number of the transition that an accepted step fires, whatever row its label
-- is (AtReached.antt)
pub step-tells : (file : List ℕ) (n : Net) → read_net file ≡ accepted n → (r : ℕ) (words : List ℕ) → is_accepted (step_net file 1 r words) ≡ true
    → let s = net_state_of (length n.marks) words in let x = lowest_enabled (behaviour_of n) r s in
    (transition_net file r words ≡ accepted x) × (step_net file 1 r words ≡ accepted (net_words (fired_by n x s)))
step-tells = told-of-net
