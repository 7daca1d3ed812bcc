-- Document 01, "Diagram state and moves", and 02, CR 2 and CR 7: steps and waits of a diagram (refusals 20 to 26). Assumes nothing.
use Rattle.std.specs.Prelude.{ℕ, suc, ◌+◌, ◌-◌, Bool, false, not, cond, ◌&&◌, ◌||◌, List, length, leb, ltb, eqb}
use Rattle.effbd.specs.Ranges.{all_below, least, only}
use Rattle.effbd.specs.Answers.{Outcome, accepted, refused, and_then}
use Rattle.effbd.specs.Diagrams.{Kind, function, and_open, branch, and_close, or_open, or_close, it_open, it_close, lp_open, lp_close, loop_exit, end, box_open, box_close, box_exit, Diagram, row_count, kind, item_total, is_kind, alpha, beta, turn_limit}
use Rattle.effbd.specs.Counts.{item_of, count_total, tally, takes, gives}
use Rattle.effbd.specs.Nesting.{owner, close, branch_of, loop, in_loop, box, scenario, outlet, read_diagram}
use Rattle.effbd.specs.Layout.{places}
use Rattle.effbd.specs.States.{State, state_words, state_of, activate, enter, branch_entries, make_idle, clear_rows, set_turns, set_counts, set_running, fresh_words, state_passes}

-- "Move code 1 steps row r"; "Code 2 waits d ticks"; no other code moves
pub data Move : Type 0 where
  step_row : ℕ → Move
  wait_ticks : ℕ → Move
  no_move : Move

unfoldable pub move_of : (code argument : ℕ) → Move
move_of code argument = cond (eqb code 1) (step_row argument) (cond (eqb code 2) (wait_ticks argument) no_move)

-- 25: "lowest sum above 65,535" (greatest number that 16 bits hold)
abbrev pub most_word : ℕ
most_word = 65535

-- "every running clock grows by d"
abbrev pub pass_ticks : ℕ → State → State
pass_ticks n s = record {
  activity = s.activity;
  turns = s.turns;
  clock = λ q. cond (eqb (s.activity q) 2) (s.clock q + n) (s.clock q);
  count = s.count;
}

module _ (d : Diagram) where
  -- "every count at least its take"; no sum with a give is above 65,535; all BRANCH rows of the AND that row o opens are done
  abbrev pub is_there : ℕ → State → ℕ → Bool
  is_there r s c = leb (takes d r c) (s.count c)

  abbrev pub enough : ℕ → State → Bool
  enough r s = all_below (count_total d) (is_there r s)

  abbrev pub sum_fits : ℕ → State → ℕ → Bool
  sum_fits r s c = leb (s.count c + gives d r c) most_word

  abbrev pub sums_fit : ℕ → State → Bool
  sums_fit r s = all_below (count_total d) (sum_fits r s)

  -- "this item (lowest)": the lowest item with a count that does not pass
  unfoldable pub lowest_item : (ℕ → Bool) → ℕ
  lowest_item passes = least (item_total d) (λ k. not (all_below (count_total d) (λ c. not (only k (item_of (tally d c))) || passes c)))

  abbrev pub all_done : ℕ → State → Bool
  all_done o s = all_below (row_count d) (λ b. not (branch_of d o b) || eqb (s.activity b) 3)

  -- the step of row r stands if row o is ready; else 22 with the row
  abbrev pub if_ready : ℕ → ℕ → State → State → Outcome State
  if_ready o r s next = cond (eqb (s.activity o) 1) (accepted next) (refused 22 r)

  -- "FUNCTION ready, every count at least its take: takes are subtracted, it runs, clock 0"; 23 "this item short (lowest)"
  abbrev pub start_function : ℕ → State → Outcome State
  start_function r s = cond (enough r s)
      (accepted (set_running r (set_counts (λ k. s.count k - takes d r k) s)))
      (refused 23 (lowest_item (is_there r s)))

  -- "Running, clock ≥ α: gives are added, clock 0, r + 1 is entered"; 24 "ticks lacking", 25
  abbrev pub end_function : ℕ → State → Outcome State
  end_function r s = cond (ltb (s.clock r) (alpha d r))
      (refused 24 (alpha d r - s.clock r))
      (cond (sums_fit r s)
      (accepted (enter d (suc r) (make_idle (only r) (set_counts (λ k. s.count k + gives d r k) s))))
      (refused 25 (lowest_item (sum_fits r s))))

  -- "the row becomes idle unless said otherwise": each kind's step in document 01's order there; "Nothing else steps"
  abbrev pub step_as : Kind → ℕ → State → Outcome State
  step_as function r s = cond (eqb (s.activity r) 1) (start_function r s) (cond (eqb (s.activity r) 2) (end_function r s) (refused 22 r))
  step_as and_open r s = if_ready r r s (activate d (branch_entries d r) (make_idle (only r) s))
  step_as and_close r s = cond (all_done (owner d r) s) (accepted (enter d (suc r) (make_idle (branch_of d (owner d r)) s))) (refused 22 r)
  step_as branch r s = cond (is_kind d or_open (owner d r)) (if_ready (owner d r) r s (enter d (suc r) (make_idle (only (owner d r)) s))) (refused 22 r)
  step_as or_close r s = if_ready r r s (enter d (suc r) (make_idle (only r) s))
  step_as it_open r s = if_ready r r s (cond (ltb (s.turns r) (turn_limit d r))
      (enter d (suc r) (set_turns r (suc (s.turns r)) (make_idle (only r) s)))
      (enter d (suc (close d r)) (set_turns r 0 (make_idle (only r) s))))
  step_as it_close r s = if_ready r r s (activate d (only (owner d r)) (make_idle (only r) s))
  step_as lp_close r s = if_ready r r s (activate d (only (owner d r)) (make_idle (only r) s))
  step_as lp_open r s = if_ready r r s (enter d (suc r) (make_idle (only r) s))
  step_as loop_exit r s = if_ready r r s (enter d (suc (close d (loop d r))) (clear_rows (in_loop d r) s))
  step_as or_open r s = refused 22 r
  step_as end r s = refused 22 r
  -- 02, CR 7: "Stepping 29 enters the scenario. EXIT clears the rows from 29 to before the first outlet's BRANCH and enters the row
  -- after its outlet's BRANCH"; "stepping 30 enters the next row"
  step_as box_open r s = if_ready r r s (enter d (suc r) (make_idle (only r) s))
  step_as box_exit r s = if_ready r r s (enter d (suc (outlet d r)) (clear_rows (scenario d (box d r)) s))
  step_as box_close r s = if_ready r r s (enter d (suc r) (make_idle (only r) s))

  abbrev pub step : ℕ → State → Outcome State
  step r s = step_as (kind d r) r s

  -- "It is held if a row other than FUNCTION and END is ready, a ready FUNCTION has all its takes, an AND close could step,
  -- or some running clock + d > β": what holds a wait of n ticks at row q
  abbrev pub holds_as : Kind → ℕ → ℕ → State → Bool
  holds_as function q n s = (eqb (s.activity q) 1 && enough q s) || (eqb (s.activity q) 2 && ltb (beta d q) (s.clock q + n))
  holds_as and_open q n s = eqb (s.activity q) 1
  holds_as branch q n s = eqb (s.activity q) 1
  holds_as and_close q n s = eqb (s.activity q) 1 || all_done (owner d q) s
  holds_as or_open q n s = eqb (s.activity q) 1
  holds_as or_close q n s = eqb (s.activity q) 1
  holds_as it_open q n s = eqb (s.activity q) 1
  holds_as it_close q n s = eqb (s.activity q) 1
  holds_as lp_open q n s = eqb (s.activity q) 1
  holds_as lp_close q n s = eqb (s.activity q) 1
  holds_as loop_exit q n s = eqb (s.activity q) 1
  holds_as end q n s = false
  holds_as box_open q n s = eqb (s.activity q) 1
  holds_as box_close q n s = eqb (s.activity q) 1
  holds_as box_exit q n s = eqb (s.activity q) 1

  -- 21 "wait 0", 26 "wait held"
  abbrev pub wait : ℕ → State → Outcome State
  wait n s = cond (eqb n 0) (refused 21 0)
      (cond (all_below (row_count d) (λ q. not (holds_as (kind d q) q n s))) (accepted (pass_ticks n s)) (refused 26 0))

  -- 21 "code not 1 or 2"
  abbrev pub move : Move → State → Outcome State
  move (step_row r) s = step r s
  move (wait_ticks n) s = wait n s
  move no_move s = refused 21 0

  -- a move on the words of a state: 21 to 26
  unfoldable pub words_outcome : Outcome State → Outcome (List ℕ)
  words_outcome (accepted s) = accepted (state_words d s)
  words_outcome (refused number value) = refused number value

  unfoldable pub move_words : Move → List ℕ → Outcome (List ℕ)
  move_words m words = words_outcome (move m (state_of d words))

  -- 20 "state length wrong" and the check of each row; then the move
  unfoldable pub checked_move : Move → List ℕ → Outcome (List ℕ)
  checked_move m words = cond (eqb (length words) (places d) && state_passes d (state_of d words)) (move_words m words) (refused 20 0)

-- "Steps: file, 20, 21, 22 to 26": the diagram's stepper on a file and the words of a state
unfoldable pub step_diagram : (file : List ℕ) (code argument : ℕ) (words : List ℕ) → Outcome (List ℕ)
step_diagram file code argument words = and_then (read_diagram file) (λ d. checked_move d (move_of code argument) words)

-- a fresh state in the place of `words`: 20 where their number is wrong
unfoldable pub fresh_diagram : (file words : List ℕ) → Outcome (List ℕ)
fresh_diagram file words = and_then (read_diagram file) (λ d. cond (eqb (length words) (places d)) (accepted (fresh_words d)) (refused 20 0))
