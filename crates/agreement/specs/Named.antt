-- The net of a diagram by the names of its places and transitions: its steps and waits, its fresh state, the image. A stage of the proof between the diagram and the net by numbers.
use Rattle.std.specs.Prelude.{ℕ, suc, ◌+◌, ◌-◌, ◌*◌, Bool, true, not, cond, ◌&&◌, List, [], ◌∷◌, map, length, get_or, leb, ltb, eqb}
use Rattle.effbd.specs.Ranges.{all_below, least, only, tabulate}
use Rattle.effbd.specs.Answers.{Outcome, accepted, refused, afterwards}
use Rattle.effbd.specs.Diagrams.{Diagram, row_count}
use Rattle.effbd.specs.Counts.{count_total}
use Rattle.effbd.specs.Layout.{Place, P, Q, R, Count, places, place_of}
use Rattle.effbd.specs.States.{State}
use Rattle.effbd.specs.Moves.{Move, step_row, wait_ticks, no_move, most_word}
use Rattle.effbd.specs.Firing.{NetState, Effect, Behaviour}
use Rattle.effbd.specs.Patterns.{Pattern, no_pattern, patterns, Name, names, fresh_mark}
use Rattle.effbd.specs.Image.{image_mark, image_clock}

-- marks by the name of a place, clocks by label and by the place among that label's transitions
pub record NamedState : Type 0 where
  pub mark : Place → ℕ
  pub clock : ℕ → ℕ → ℕ

-- the marks after takes and clears
abbrev pub after : Pattern → (Place → ℕ) → Place → ℕ
after t m p = cond (t.clear p) 0 (m p - t.take p)

module _ (d : Diagram) where
  abbrev pub all_places : (Place → Bool) → Bool
  all_places f = all_below (row_count d) (λ r. f (P r)) && (all_below (row_count d) (λ r. f (Q r)) && (all_below (row_count d) (λ r. f (R r)) && all_below (count_total d) (λ k. f (Count k))))

  abbrev pub enabled : Pattern → (Place → ℕ) → Bool
  enabled t m = all_places (λ p. leb (t.take p) (m p))

  abbrev pub named_fire : ℕ → ℕ → Pattern → NamedState → NamedState
  named_fire r j t n = record {
    mark = λ p. after t n.mark p + t.give p;
    clock = λ q i. cond (only r q && only j i) 0 (cond (enabled (get_or (patterns d q) i no_pattern) (after t n.mark)) (n.clock q i) 0);
  }

  -- the lowest place whose sum is above 65,535
  abbrev pub lowest_over : Pattern → (Place → ℕ) → ℕ
  lowest_over t m = least (places d) (λ p. not (leb (after t m (place_of d p) + t.give (place_of d p)) most_word))

  abbrev pub named_step_at : List Pattern → ℕ → ℕ → NamedState → Outcome NamedState
  named_step_at [] j r n = refused 22 r
  named_step_at (t ∷ ts) j r n = cond (enabled t n.mark)
      (cond (ltb (n.clock r j) t.earliest)
      (refused 24 (t.earliest - n.clock r j))
      (cond (all_places (λ p. leb (after t n.mark p + t.give p) most_word)) (accepted (named_fire r j t n)) (refused 25 (lowest_over t n.mark))))
      (named_step_at ts (suc j) r n)

  abbrev pub named_step : ℕ → NamedState → Outcome NamedState
  named_step r n = named_step_at (patterns d r) 0 r n

  abbrev pub named_image : State → NamedState
  named_image s = record { mark = image_mark d s; clock = image_clock d s }

  -- none of the transitions of label q, from the j-th on, would pass its b
  abbrev pub named_lets : List Pattern → ℕ → ℕ → ℕ → NamedState → Bool
  named_lets [] j q n m = true
  named_lets (t ∷ ts) j q n m = not (enabled t m.mark && ltb t.latest (m.clock q j + n)) && named_lets ts (suc j) q n m

  abbrev pub named_tick : ℕ → NamedState → NamedState
  named_tick n m = record {
    mark = m.mark;
    clock = λ q i. cond (ltb i (length (patterns d q)) && enabled (get_or (patterns d q) i no_pattern) m.mark) (m.clock q i + n) (m.clock q i);
  }

  abbrev pub named_wait : ℕ → NamedState → Outcome NamedState
  named_wait n m = cond (eqb n 0) (refused 21 0) (cond (all_below (row_count d) (λ q. named_lets (patterns d q) 0 q n m)) (accepted (named_tick n m)) (refused 26 0))

  abbrev pub named_move : Move → NamedState → Outcome NamedState
  named_move (step_row r) m = named_step r m
  named_move (wait_ticks n) m = named_wait n m
  named_move no_move m = refused 21 0

  abbrev pub named_fresh : NamedState
  named_fresh = record { mark = fresh_mark d; clock = λ q i. 0 }

  -- from names to numbers: a transition, the net, its state
  unfoldable pub lift : Name d → Effect
  lift n = let t = get_or (patterns d n.label) n.index no_pattern in
      record { label = n.label; earliest = t.earliest; latest = t.latest; take = λ p. t.take (place_of d p); clear = λ p. t.clear (place_of d p); give = λ p. t.give (place_of d p) }

  abbrev pub behaviour : Behaviour
  behaviour = record { places = 3 * row_count d + count_total d; effects = map lift (names d (row_count d)) }

  unfoldable pub flat_net : NamedState → NetState
  flat_net n = record {
    marks = tabulate (3 * row_count d + count_total d) (λ p. n.mark (place_of d p));
    clocks = map (λ (x : Name d). n.clock x.label x.index) (names d (row_count d));
  }

-- the state after a list of moves, where a refused one leaves it
abbrev pub moves_from : {A : Type 0} → (Move → A → Outcome A) → List Move → A → A
moves_from f [] s = s
moves_from f (m ∷ ms) s = moves_from f ms (afterwards s (f m s))
