-- What both calls of request 6 tell of an accepted step: of any net at any words, and of a FUNCTION's row at the image of a state reached.
use Rattle.std.specs.Prelude.{ℕ, ◌<◌, ◌≡◌, true, List, eqb, length}
use Rattle.std.proofs.Math.Path.{refl, sym, ap}
use Rattle.std.proofs.Common.{◌∙◌, subst}
use Rattle.std.proofs.lemmas.List.{length-map}
use borrow.Author.Tests.{eq-eqb, lt-ltb}
use Rattle.effbd.specs.Answers.{Outcome, accepted, is_accepted, refused}
use Rattle.effbd.specs.Records.{are_bytes}
use Rattle.effbd.specs.Diagrams.{Diagram, function, kind}
use Rattle.effbd.specs.Nesting.{read_diagram}
use Rattle.effbd.specs.Layout.{places}
use Rattle.effbd.specs.States.{State, state_of}
use Rattle.effbd.specs.Moves.{Move, checked_move, move_of, move_words, step, step_row, step_diagram, words_outcome}
use Rattle.effbd.specs.Nets.{Net, net_bytes, read_net}
use Rattle.effbd.specs.Firing.{NetState, behaviour_of, checked_net_move, effect_of, net_move, net_state_of, net_word_count, net_words, net_words_outcome, step_net}
use Rattle.effbd.specs.Patterns.{net_of}
use Rattle.effbd.specs.Image.{image, image_words}
use Rattle.effbd.specs.Transitions.{checked_net_number, checked_number, lowest_enabled, number_by_activity, transition_diagram, transition_net}
use Rattle.ranges.specs.Tests.{clash, decide}
use Rattle.agreement.specs.AcceptedFiles.{Held, held}
use Rattle.agreement.proofs.Reached.{image-back, image-long, many-trans, table_at}
use Rattle.agreement.specs.Theorems.{reached}
use Rattle.agreement.proofs.Theorems.{agreement, net-read-back, net-well-formed, reached-passes}
use Rattle.liveness.specs.Fired.{FiresNumber, Is, by_names, fired_by, number_at, step-fires, step-has}

words-accepted : (d : Diagram) (x : Outcome State) → is_accepted (words_outcome d x) ≡ is_accepted x
unfolding words_outcome
words-accepted d (accepted s) = refl
words-accepted d (refused a b) = refl

net-accepted : (x : Outcome NetState) → is_accepted (net_words_outcome x) ≡ is_accepted x
net-accepted (accepted s) = refl
net-accepted (refused a b) = refl

-- an accepted step of any net file, at any words, whatever its label is a row of
module _ (file : List ℕ) (n : Net) (says : read_net file ≡ accepted n) (r : ℕ) (words : List ℕ) (goes : is_accepted (step_net file 1 r words) ≡ true) where
  abbrev state : NetState
  state = net_state_of (length n.marks) words

  abbrev fired : ℕ
  fired = lowest_enabled (behaviour_of n) r state

  sized : eqb (length words) (net_word_count n) ≡ true
  unfolding step_net checked_net_move
  sized = decide (eqb (length words) (net_word_count n)) (λ y. y) (λ y. clash goes (rw (says, y)))

  step_is : step_net file 1 r words ≡ net_words_outcome (net_move (behaviour_of n) (step_row r) state)
  unfolding step_net checked_net_move move_of
  step_is = rw (says, sized)

  accepts : is_accepted (net_move (behaviour_of n) (step_row r) state) ≡ true
  accepts = sym (net-accepted (net_move (behaviour_of n) (step_row r) state)) ∙ (sym (ap is_accepted step_is) ∙ goes)

  pub told-of-net : (transition_net file r words ≡ accepted fired) × (step_net file 1 r words ≡ accepted (net_words (fired_by n fired state)))
  unfolding transition_net checked_net_number net_move
  told-of-net = let l = step-has (behaviour_of n) r state accepts in
      (rw (says, sized, lt-ltb fired (length (behaviour_of n).effects) l), step_is ∙ ap net_words_outcome (step-fires (behaviour_of n) r state fired refl l accepts))

module _ (file : List ℕ) (d : Diagram) (bytes : are_bytes file ≡ true) (read : read_diagram file ≡ accepted d) where
  h : Held d
  h = held file d bytes read

  -- the net's stepper on the net's file and the words of an image
  at-image : (r : ℕ) (l : List ℕ) → step_net (net_bytes (net_of d)) 1 r (image_words d l) ≡ net_words_outcome (net_move (behaviour_of (net_of d)) (step_row r) (image d l))
  unfolding step_net move_of
  at-image r l = rw (net-read-back (net_of d) (net-well-formed file d bytes read)) (table_at d h (step_row r) l)

  -- a FUNCTION's step that is accepted at a state reached
  module _ (moves : List Move) (r : ℕ) (k : kind d r ≡ function) (goes : is_accepted (step_diagram file 1 r (reached d moves)) ≡ true) where
    abbrev l : List ℕ
    l = reached d moves

    abbrev s : State
    s = state_of d l

    abbrev number : ℕ
    number = number_by_activity d r (s.activity r)

    long : eqb (length l) (places d) ≡ true
    long = eq-eqb (length l) (places d) (reached-passes file d bytes read moves).0

    diagram-goes : is_accepted (step d r s) ≡ true
    unfolding step_diagram checked_move move_words move_of
    diagram-goes = sym (words-accepted d (step d r s)) ∙ (rw (read, long, (reached-passes file d bytes read moves).1) at goes)

    net-goes : is_accepted (net_move (behaviour_of (net_of d)) (step_row r) (image d l)) ≡ true
    net-goes = sym (net-accepted (net_move (behaviour_of (net_of d)) (step_row r) (image d l)))
        ∙ (sym (ap is_accepted (at-image r l)) ∙ (sym ((agreement file d bytes read moves).accepts 1 r) ∙ goes))

    is : Is d r k s
    is = number_at d r k s diagram-goes

    lowest : lowest_enabled (behaviour_of (net_of d)) r (image d l) ≡ number
    lowest = by_names d r l ∙ is.0

    there : number < length (net_of d).transitions
    there = subst (λ (n : ℕ). number < n) (sym (many-trans d h)) is.1

    within : number < length (behaviour_of (net_of d)).effects
    within = subst (λ (n : ℕ). number < n) (sym (length-map (net_of d).transitions effect_of)) there

    pub number-fires : FiresNumber (net_of d) r (image d l) number
    unfolding net_move
    number-fires = record { lowest = lowest; there = there; fires = step-fires (behaviour_of (net_of d)) r (image d l) number lowest within net-goes }

    pub bytes-fire : step_net (net_bytes (net_of d)) 1 r (image_words d l) ≡ accepted (net_words (fired_by (net_of d) number (image d l)))
    bytes-fire = at-image r l ∙ ap net_words_outcome number-fires.fires

    pub told-by-diagram : transition_diagram file r l ≡ accepted number
    unfolding transition_diagram checked_number
    told-by-diagram = rw (read, long, (reached-passes file d bytes read moves).1, k, lt-ltb 0 (s.activity r) is.2)

    pub told-by-net : transition_net (net_bytes (net_of d)) r (image_words d l) ≡ accepted number
    unfolding transition_net checked_net_number
    told-by-net = rw (
      net-read-back (net_of d) (net-well-formed file d bytes read),
      eq-eqb (length (image_words d l)) (net_word_count (net_of d)) (image-long d h l),
      image-back d h l,
      lowest,
      lt-ltb number (length (behaviour_of (net_of d)).effects) within,
    )
