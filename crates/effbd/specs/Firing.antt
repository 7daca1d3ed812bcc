-- Document 01, "Net": the state of a net, its steps and waits (refusals 20 to 26). Assumes nothing.
use Rattle.std.specs.Prelude.{ℕ, suc, ◌+◌, ◌-◌, Bool, false, not, cond, ◌&&◌, ◌||◌, List, [], ◌∷◌, ◌++◌, map, length, get_or, take, drop, leb, ltb, eqb}
use Rattle.effbd.specs.Ranges.{all_below, least, only, within, tabulate}
use Rattle.effbd.specs.Answers.{Outcome, accepted, refused, and_then}
use Rattle.effbd.specs.Moves.{Move, step_row, wait_ticks, no_move, move_of, most_word}
use Rattle.effbd.specs.Nets.{Arc, take_arc, clear_arc, give_arc, Transition, Net, read_net}

-- "Net state: marks, then clocks"
pub record NetState : Type 0 where
  pub marks : List ℕ
  pub clocks : List ℕ

-- what a transition does, by the number of a place: how many it takes there, whether it clears there, how many it gives there
pub record Effect : Type 0 where
  pub label : ℕ
  pub earliest : ℕ
  pub latest : ℕ
  pub take : ℕ → ℕ
  pub clear : ℕ → Bool
  pub give : ℕ → ℕ

abbrev pub no_effect : Effect
no_effect = record { label = 0; earliest = 0; latest = 0; take = λ p. 0; clear = λ p. false; give = λ p. 0 }

pub record Behaviour : Type 0 where
  pub places : ℕ
  pub effects : List Effect

-- the weight of the arcs of kind k at place p; p lies in a range that is cleared
unfoldable pub weight_at : ℕ → List Arc → ℕ → ℕ
weight_at k [] p = 0
weight_at k (x ∷ xs) p = cond (eqb x.kind k && only p x.first) x.second 0 + weight_at k xs p

unfoldable pub cleared_at : List Arc → ℕ → Bool
cleared_at [] p = false
cleared_at (x ∷ xs) p = (eqb x.kind clear_arc && within x.first x.second p) || cleared_at xs p

unfoldable pub effect_of : Transition → Effect
effect_of t = record {
  label = t.label;
  earliest = t.earliest;
  latest = t.latest;
  take = weight_at take_arc t.arcs;
  clear = cleared_at t.arcs;
  give = weight_at give_arc t.arcs;
}

abbrev pub behaviour_of : Net → Behaviour
behaviour_of n = record { places = length n.marks; effects = map effect_of n.transitions }

module _ (n : Behaviour) where
  -- "Enabled: marks cover the takes"
  unfoldable pub covers : Effect → List ℕ → Bool
  covers t marks = all_below n.places (λ p. leb (t.take p) (get_or marks p 0))

  -- the marks after takes and clears
  unfoldable pub taken_and_cleared : Effect → List ℕ → List ℕ
  taken_and_cleared t marks = tabulate n.places (λ p. cond (t.clear p) 0 (get_or marks p 0 - t.take p))

  -- "fires: takes, clears, gives. Another transition keeps its clock if it is enabled after takes and clears; all other clocks become 0"
  unfoldable pub fired_state : ℕ → Effect → NetState → NetState
  fired_state j t s = record {
    marks = tabulate n.places (λ p. get_or (taken_and_cleared t s.marks) p 0 + t.give p);
    clocks = tabulate (length n.effects)
        (λ x. cond (only j x) 0 (cond (covers (get_or n.effects x no_effect) (taken_and_cleared t s.marks)) (get_or s.clocks x 0) 0));
  }

  -- the sum at place p is above 65,535
  unfoldable pub overflows : Effect → NetState → ℕ → Bool
  overflows t s p = not (leb (get_or (taken_and_cleared t s.marks) p 0 + t.give p) most_word)

  -- transition number j, enabled, fires; 24 "clock below a", 25 "lowest sum above 65,535"
  unfoldable pub fire : ℕ → Effect → NetState → Outcome NetState
  fire j t s = cond (ltb (get_or s.clocks j 0) t.earliest)
      (refused 24 (t.earliest - get_or s.clocks j 0))
      (cond (all_below n.places (λ p. not (overflows t s p))) (accepted (fired_state j t s)) (refused 25 (least n.places (overflows t s))))

  -- "Step r fires the lowest-numbered enabled transition labelled r": among those from number j on; 22 where there is none
  unfoldable pub fire_lowest : List Effect → ℕ → ℕ → NetState → Outcome NetState
  fire_lowest [] j r s = refused 22 r
  fire_lowest (t ∷ ts) j r s = cond (eqb t.label r && covers t s.marks) (fire j t s) (fire_lowest ts (suc j) r s)

  -- "Wait d adds d to enabled clocks, held if any would pass its b": transition number x does not hold a wait of d ticks
  unfoldable pub lets_pass : ℕ → NetState → ℕ → Bool
  lets_pass d s x = let t = get_or n.effects x no_effect in not (covers t s.marks && ltb t.latest (get_or s.clocks x 0 + d))

  unfoldable pub ticked_state : ℕ → NetState → NetState
  ticked_state d s = record {
    marks = s.marks;
    clocks = tabulate (length n.effects)
        (λ x. cond (covers (get_or n.effects x no_effect) s.marks) (get_or s.clocks x 0 + d) (get_or s.clocks x 0));
  }

  unfoldable pub net_wait : ℕ → NetState → Outcome NetState
  net_wait d s = cond (eqb d 0) (refused 21 0) (cond (all_below (length n.effects) (lets_pass d s)) (accepted (ticked_state d s)) (refused 26 0))

  unfoldable pub net_move : Move → NetState → Outcome NetState
  net_move (step_row r) s = fire_lowest n.effects 0 r s
  net_move (wait_ticks d) s = net_wait d s
  net_move no_move s = refused 21 0

-- the words of a net's state, and the state that words are
abbrev pub net_words : NetState → List ℕ
net_words s = s.marks ++ s.clocks

abbrev pub net_state_of : ℕ → List ℕ → NetState
net_state_of count words = record { marks = take count words; clocks = drop count words }

abbrev pub net_words_outcome : Outcome NetState → Outcome (List ℕ)
net_words_outcome (accepted s) = accepted (net_words s)
net_words_outcome (refused number value) = refused number value

-- how many words: one a place, one a transition
abbrev pub net_word_count : Net → ℕ
net_word_count n = length n.marks + length n.transitions

-- what reading a net file returns: the number of words of its state
unfoldable pub words_of : Outcome Net → Outcome ℕ
words_of read = and_then read (λ n. accepted (net_word_count n))

-- 20 "state length wrong"; then the move
unfoldable pub checked_net_move : Net → Move → List ℕ → Outcome (List ℕ)
checked_net_move n m words = cond (eqb (length words) (net_word_count n))
    (net_words_outcome (net_move (behaviour_of n) m (net_state_of (length n.marks) words))) (refused 20 0)

-- "Steps: file, 20, 21, 22 to 26": the net's stepper on a net file and the words of a state
unfoldable pub step_net : (file : List ℕ) (code argument : ℕ) (words : List ℕ) → Outcome (List ℕ)
step_net file code argument words = and_then (read_net file) (λ n. checked_net_move n (move_of code argument) words)

-- a net's fresh state: its marks, all clocks 0
unfoldable pub fresh_net_words : Net → List ℕ
fresh_net_words n = n.marks ++ tabulate (length n.transitions) (λ x. 0)

unfoldable pub fresh_net : (file words : List ℕ) → Outcome (List ℕ)
fresh_net file words = and_then (read_net file) (λ n. cond (eqb (length words) (net_word_count n)) (accepted (fresh_net_words n)) (refused 20 0))
