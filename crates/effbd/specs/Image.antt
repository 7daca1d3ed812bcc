-- Document 01, "Net": the image of a diagram's state in the state of its net. Assumes nothing.
use Rattle.std.specs.Prelude.{ℕ, ◌-◌, cond, ◌&&◌, ◌||◌, List, map, eqb}
use Rattle.effbd.specs.Ranges.{only, tabulate}
use Rattle.effbd.specs.Diagrams.{function, it_open, Diagram, row_count, is_kind, turn_limit}
use Rattle.effbd.specs.Layout.{Place, by_place, places, place_of}
use Rattle.effbd.specs.States.{State, state_of}
use Rattle.effbd.specs.Firing.{NetState, net_words}
use Rattle.effbd.specs.Patterns.{Name, names}

-- "1 for ready or done"; "1 for running"
abbrev pub ready_or_done : ℕ → ℕ
ready_or_done a = cond (eqb a 1 || eqb a 3) 1 0

abbrev pub running : ℕ → ℕ
running a = cond (eqb a 2) 1 0

module _ (d : Diagram) where
  -- "P is 1 for ready or done; Q is 1 for running, or the turns at an IT open; R is count less turns at an IT open; all else 0; item counts equal"
  abbrev pub image_mark : State → Place → ℕ
  image_mark s = by_place (λ q. ready_or_done (s.activity q))
      (λ q. cond (is_kind d it_open q) (s.turns q) (running (s.activity q)))
      (λ q. cond (is_kind d it_open q) (turn_limit d q - s.turns q) 0)
      s.count

  -- "a FUNCTION's second transition has its clock; all else 0"
  abbrev pub image_clock : State → ℕ → ℕ → ℕ
  image_clock s label index = cond (is_kind d function label && only 1 index) (s.clock label) 0

  unfoldable pub image : List ℕ → NetState
  image words = let s = state_of d words in record {
    marks = tabulate (places d) (λ p. image_mark s (place_of d p));
    clocks = map (λ (x : Name d). image_clock s x.label x.index) (names d (row_count d));
  }

  unfoldable pub image_words : List ℕ → List ℕ
  image_words words = net_words (image words)
