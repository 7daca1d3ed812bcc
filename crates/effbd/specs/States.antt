-- Document 01, "Diagram state and moves", and 02, CR 2, CR 3 and CR 7: the state, entering a row, the fresh state, the check of a state (refusal 20). Assumes nothing.
use Rattle.std.specs.Prelude.{ℕ, suc, ◌+◌, ◌*◌, Bool, true, false, not, cond, ◌&&◌, ◌||◌, List, get_or, leb, ltb, eqb}
use Rattle.effbd.specs.Ranges.{all_below, only, between, tabulate}
use Rattle.effbd.specs.Answers.{Outcome, accepted, and_then}
use Rattle.effbd.specs.Diagrams.{Kind, function, and_open, branch, and_close, or_open, or_close, it_open, it_close, lp_open, lp_close, loop_exit, end, box_open, box_close, box_exit, Diagram, row_count, kind, is_trigger, is_kind, beta, turn_limit, kills}
use Rattle.effbd.specs.Counts.{Tally, shared, copy, count_total, tally, initial_count}
use Rattle.effbd.specs.Nesting.{owner, branch_ended, close, branch_of, read_diagram}
use Rattle.effbd.specs.Layout.{by_place, places, place_of}

-- "Per row: activity (0 idle, 1 ready, 2 running, 3 done), turns, clock; then M counts"; "the copies follow the items"
pub record State : Type 0 where
  pub activity : ℕ → ℕ
  pub turns : ℕ → ℕ
  pub clock : ℕ → ℕ
  pub count : ℕ → ℕ

-- where each stands in a list of words
abbrev pub activity_at : ℕ → ℕ
activity_at r = 3 * r

abbrev pub turns_at : ℕ → ℕ
turns_at r = 3 * r + 1

abbrev pub clock_at : ℕ → ℕ
clock_at r = 3 * r + 2

-- the rows of a set become idle; their clock is 0 then, as that of every row which does not run
abbrev pub make_idle : (ℕ → Bool) → State → State
make_idle S s = record {
  activity = λ q. cond (S q) 0 (s.activity q);
  turns = s.turns;
  clock = λ q. cond (S q) 0 (s.clock q);
  count = s.count;
}

-- "every row from .. to .. gets activity, turns and clock 0"
abbrev pub clear_rows : (ℕ → Bool) → State → State
clear_rows W s = record {
  activity = λ q. cond (W q) 0 (s.activity q);
  turns = λ q. cond (W q) 0 (s.turns q);
  clock = λ q. cond (W q) 0 (s.clock q);
  count = s.count;
}

abbrev pub set_turns : ℕ → ℕ → State → State
set_turns r n s = record { activity = s.activity; turns = λ q. cond (only r q) n (s.turns q); clock = s.clock; count = s.count }

abbrev pub set_counts : (ℕ → ℕ) → State → State
set_counts f s = record { activity = s.activity; turns = s.turns; clock = s.clock; count = f }

-- "it runs, clock 0"
abbrev pub set_running : ℕ → State → State
set_running r s = record {
  activity = λ q. cond (only r q) 2 (s.activity q);
  turns = s.turns;
  clock = λ q. cond (only r q) 0 (s.clock q);
  count = s.count;
}

module _ (d : Diagram) where
  abbrev pub count_at : ℕ → ℕ
  count_at k = 3 * row_count d + k

  -- the words of a state, and the state that words are
  unfoldable pub state_words : State → List ℕ
  state_words s = tabulate (places d) (λ p. by_place s.activity s.turns s.clock s.count (place_of d p))

  unfoldable pub state_of : List ℕ → State
  state_of words = record {
    activity = λ q. cond (ltb q (row_count d)) (get_or words (activity_at q) 0) 0;
    turns = λ q. cond (ltb q (row_count d)) (get_or words (turns_at q) 0) 0;
    clock = λ q. cond (ltb q (row_count d)) (get_or words (clock_at q) 0) 0;
    count = λ k. cond (ltb k (count_total d)) (get_or words (count_at k) 0) 0;
  }

  -- the row that entering q changes where no branch kills: "a BRANCH or close of an AND makes the BRANCH row of the branch just ended done;
  -- a BRANCH or close of an OR makes the OR close ready; any other row becomes ready"; 02, CR 7: "Entering a box's BRANCH or row 30
  -- makes row 30 ready" (`of_and`: q's construct is an AND)
  abbrev pub entered_as : Kind → Bool → ℕ → ℕ
  entered_as function of_and q = q
  entered_as and_open of_and q = q
  entered_as branch true q = branch_ended d q
  entered_as branch false q = close d (owner d q)
  entered_as and_close of_and q = branch_ended d q
  entered_as or_open of_and q = q
  entered_as or_close of_and q = q
  entered_as it_open of_and q = q
  entered_as it_close of_and q = q
  entered_as lp_open of_and q = q
  entered_as lp_close of_and q = q
  entered_as loop_exit of_and q = q
  entered_as end of_and q = q
  entered_as box_open of_and q = q
  entered_as box_close of_and q = q
  entered_as box_exit of_and q = q

  unfoldable pub entered_row : ℕ → ℕ
  entered_row q = entered_as (kind d q) (is_kind d and_open (owner d q)) q

  -- the rows of a set become active: a BRANCH row done, any other ready; clock 0
  abbrev pub activate : (ℕ → Bool) → State → State
  activate E s = record {
    activity = λ q. cond (E q) (cond (is_kind d branch q) 3 1) (s.activity q);
    turns = s.turns;
    clock = λ q. cond (E q) 0 (s.clock q);
    count = s.count;
  }

  -- 02, CR 3: q ends a branch that kills
  unfoldable pub ends_killer : ℕ → Bool
  ends_killer q = (is_kind d branch q || is_kind d and_close q) && (is_kind d and_open (owner d q) && kills d (branch_ended d q))

  -- "When it ends, every row strictly inside that AND is cleared, turns and clocks too, then all its BRANCH rows are done":
  -- the rows that entering q clears, and the rows that it makes active
  unfoldable pub killed : ℕ → ℕ → Bool
  killed q x = ends_killer q && between (owner d q) (close d (owner d q)) x

  unfoldable pub entered : ℕ → ℕ → Bool
  entered q x = cond (ends_killer q) (branch_of d (owner d q) x) (only (entered_row q) x)

  -- "*Entering* row s"
  abbrev pub enter : ℕ → State → State
  enter q s = activate (entered q) (clear_rows (killed q) s)

  -- "for every branch the row after its BRANCH is entered": the rows that this changes, of the AND that row o opens
  -- (none of them ends a branch that kills: that branch would be empty, 44)
  unfoldable pub branch_entries : ℕ → ℕ → Bool
  branch_entries o q = not (all_below (row_count d) (λ b. not (branch_of d o b && only q (entered_row (suc b)))))

  -- "Fresh: all 0, initial counts, row 0 entered"
  abbrev pub fresh : State
  fresh = enter 0 (record { activity = λ q. 0; turns = λ q. 0; clock = λ q. 0; count = initial_count d })

  unfoldable pub fresh_words : List ℕ
  fresh_words = state_words fresh

  -- "Activities: FUNCTION 0 to 2, BRANCH of AND 0 and 3, other BRANCH and AND close 0, the rest 0 and 1"
  abbrev pub activity_fine : Kind → Bool → ℕ → Bool
  activity_fine function of_and a = leb a 2
  activity_fine and_open of_and a = leb a 1
  activity_fine branch true a = eqb a 0 || eqb a 3
  activity_fine branch false a = eqb a 0
  activity_fine and_close of_and a = eqb a 0
  activity_fine or_open of_and a = leb a 1
  activity_fine or_close of_and a = leb a 1
  activity_fine it_open of_and a = leb a 1
  activity_fine it_close of_and a = leb a 1
  activity_fine lp_open of_and a = leb a 1
  activity_fine lp_close of_and a = leb a 1
  activity_fine loop_exit of_and a = leb a 1
  activity_fine end of_and a = leb a 1
  activity_fine box_open of_and a = leb a 1
  activity_fine box_close of_and a = leb a 1
  activity_fine box_exit of_and a = leb a 1

  -- 20: "activity that this kind never has, turns above count or off an IT open, clock above β or off a running row"
  abbrev pub row_passes : State → ℕ → Bool
  row_passes s q = activity_fine (kind d q) (is_kind d and_open (owner d q)) (s.activity q)
      && (cond (is_kind d it_open q) (leb (s.turns q) (turn_limit d q)) (eqb (s.turns q) 0)
      && cond (eqb (s.activity q) 2) (leb (s.clock q) (beta d q)) (eqb (s.clock q) 0))

  -- of a trigger: "Its shared count and place remain 0 (else 20 in a diagram state)"
  abbrev pub count_passes : Tally → ℕ → Bool
  count_passes (shared k) n = not (is_trigger d k) || eqb n 0
  count_passes (copy k q) n = true

  abbrev pub state_passes : State → Bool
  state_passes s = all_below (row_count d) (row_passes s) && all_below (count_total d) (λ c. count_passes (tally d c) (s.count c))

-- what reading a diagram file returns: the number of words of its state, 3N + M and a copy for each receiver of a trigger
unfoldable pub state_length : List ℕ → Outcome ℕ
state_length file = and_then (read_diagram file) (λ d. accepted (places d))
