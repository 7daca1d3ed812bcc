-- What the theorems of proofs/Theorems.antt say of diagrams and nets: the states reached, and what it is that both steppers agree.
use Rattle.std.specs.Prelude.{ℕ, ◌≡◌, List}
use Rattle.effbd.specs.Answers.{accepted, refused, is_accepted}
use Rattle.effbd.specs.Diagrams.{Diagram}
use Rattle.effbd.specs.States.{fresh_words, state_of}
use Rattle.effbd.specs.Moves.{Move, move_words, step_diagram}
use Rattle.effbd.specs.Nets.{net_bytes}
use Rattle.effbd.specs.Firing.{step_net}
use Rattle.effbd.specs.Patterns.{net_of}
use Rattle.effbd.specs.Image.{image_words}
use Rattle.agreement.specs.Refusals.{net_number, net_value}
use Rattle.agreement.specs.Named.{moves_from}

-- the words of a diagram's state after a list of moves from fresh, where a refused move leaves the state
abbrev pub reached : Diagram → List Move → List ℕ
reached d moves = moves_from (move_words d) moves (fresh_words d)

-- both steppers at one state of the diagram and at its image in the net, for every code and every row or number of ticks
pub record AgreeAt (file : List ℕ) (d : Diagram) (words : List ℕ) : Type 0 where
  -- the diagram accepts exactly when the net accepts
  pub accepts : (code argument : ℕ) → is_accepted (step_diagram file code argument words) ≡ is_accepted (step_net (net_bytes (net_of d)) code argument (image_words d words))
  -- and then the net's state is the image of the diagram's
  pub moves : (code argument : ℕ) (next : List ℕ) → step_diagram file code argument words ≡ accepted next
      → step_net (net_bytes (net_of d)) code argument (image_words d words) ≡ accepted (image_words d next)
  -- where both refuse, 21, 22, 24 and 26 are the same, 23 is 22 of the net, 25 names the lowest place with too high a sum, a count's
  pub refusals : (code argument number value : ℕ) → step_diagram file code argument words ≡ refused number value
      → step_net (net_bytes (net_of d)) code argument (image_words d words) ≡ refused (net_number number) (net_value d (state_of d words) argument number value)
