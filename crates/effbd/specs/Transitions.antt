-- Document 02, CR 6, "Which transition, by arithmetic": the number of the transition that a step fires, told from a diagram's state by arithmetic
-- and from a net's state by looking. Numbers are those behind `t` in the annex. Assumes nothing.
use Rattle.std.specs.Prelude.{ℕ, ◌+◌, ◌-◌, cond, ◌&&◌, List, length, get_or, ltb, eqb}
use Rattle.effbd.specs.Ranges.{least}
use Rattle.effbd.specs.Answers.{Outcome, accepted, refused, and_then}
use Rattle.effbd.specs.Diagrams.{function, Diagram, is_kind}
use Rattle.effbd.specs.Nesting.{read_diagram}
use Rattle.effbd.specs.Layout.{places}
use Rattle.effbd.specs.States.{State, state_of, state_passes}
use Rattle.effbd.specs.Nets.{Net, read_net}
use Rattle.effbd.specs.Firing.{Behaviour, NetState, behaviour_of, covers, net_state_of, net_word_count, no_effect}
use Rattle.effbd.specs.Patterns.{names}

module _ (d : Diagram) where
  -- "the first one's number": the transitions of the rows below r stand before it
  abbrev pub first_number : ℕ → ℕ
  first_number r = length (names d r)

  -- "the first one's number plus activity less 1"
  abbrev pub number_by_activity : (r activity : ℕ) → ℕ
  number_by_activity r activity = first_number r + activity - 1

  -- "a ready or running FUNCTION's transition"; 22 with the row for any other, and for an idle one
  abbrev pub function_number : ℕ → State → Outcome ℕ
  function_number r s = cond (is_kind d function r && ltb 0 (s.activity r)) (accepted (number_by_activity r (s.activity r))) (refused 22 r)

  -- 20 "state length wrong" and the check of each row; then the number
  unfoldable pub checked_number : ℕ → List ℕ → Outcome ℕ
  checked_number r words = cond (eqb (length words) (places d) && state_passes d (state_of d words)) (function_number r (state_of d words)) (refused 20 0)

-- the call on a diagram file and the words of a state: file, 20, 22
unfoldable pub transition_diagram : (file : List ℕ) (r : ℕ) (words : List ℕ) → Outcome ℕ
transition_diagram file r words = and_then (read_diagram file) (λ d. checked_number d r words)

-- "the transition that the net fires": the number of "the lowest-numbered enabled transition labelled r", or how many there are where there is none
unfoldable pub lowest_enabled : Behaviour → ℕ → NetState → ℕ
lowest_enabled n r s = least (length n.effects) (λ x. let t = get_or n.effects x no_effect in eqb t.label r && covers n t s.marks)

-- the same as a result; 22 with the row where there is none
abbrev pub fired_number : Behaviour → ℕ → NetState → Outcome ℕ
fired_number n r s = let x = lowest_enabled n r s in cond (ltb x (length n.effects)) (accepted x) (refused 22 r)

-- 20 "state length wrong"; then the number
unfoldable pub checked_net_number : Net → ℕ → List ℕ → Outcome ℕ
checked_net_number n r words = cond (eqb (length words) (net_word_count n)) (fired_number (behaviour_of n) r (net_state_of (length n.marks) words)) (refused 20 0)

-- the call on a net file and the words of a state: file, 20, 22
unfoldable pub transition_net : (file : List ℕ) (r : ℕ) (words : List ℕ) → Outcome ℕ
transition_net file r words = and_then (read_net file) (λ n. checked_net_number n r words)
