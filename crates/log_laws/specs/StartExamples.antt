-- Starts in an hour, computed on closed logs: the answer of the whole call and the number lent for t (7 before each call).
use Rattle.std.specs.Prelude.{ℕ, ◌/◌, ◌%◌, ◌≡◌, refl, cond, ◌&&◌, List, [], ◌∷◌, ◌++◌, length, take, leb, eqb}
use Rattle.std.proofs.Common.{ap}
use Rattle.effbd.specs.Answers.{Outcome, accepted, refused}
use Rattle.effbd.specs.Records.{word_bytes, kind_table, entry_in, length_of, fault_at, read_many}
use Rattle.effbd.specs.Diagrams.{kind_of, head_fault, item_fault, uses_at, uses_fine, row_at, row_right, row_fine, row_fault, triggers_fine, row_fault_in}
use Rattle.effbd.specs.Counts.{copies_of, copies, tallies, count_total, tally, takes, gives, initial_count}
use Rattle.effbd.specs.Nesting.{stack, owner, close, branch_of, loop, box, first_outlet, leads, outlet, nesting_broken, killer_empty, exit_misplaced, box_exit_misplaced, thirteenth_open, nesting_fault, first_faulty, not_one_to_one, loop_left, ends_branch, falls_into, scenario_falls, spends_no_time, unless_row, nested, after_rows, after_items, read_diagram}
use Rattle.effbd.specs.Layout.{place_of}
use Rattle.effbd.specs.States.{state_words, state_of, entered_row, ends_killer, killed, entered, branch_entries, fresh_words}
use Rattle.effbd.specs.Moves.{move_of, lowest_item, words_outcome, move_words}
use Rattle.effbd.specs.Logs.{setpoints_at, setpoints, log_fault, made, state_from, played_from}
use Rattle.effbd.specs.Starts.{is_start, starts_from, fall_in, busiest_from, starts_of, StartsTold, log_starts}

-- bytes from 16-bit words
unfoldable pub from_words : List ℕ → List ℕ
from_words [] = []
from_words (w ∷ ws) = word_bytes w ++ from_words ws

-- LP, OR, BRANCH, FUNCTION α 0 β 40,000 (row 3), BRANCH, FUNCTION α 1 β 9, OR close, LP close, END
unfoldable pub loop_file : List ℕ
loop_file = from_words (10 ∷ 1 ∷ 1 ∷ 9 ∷ 0 ∷ 4 ∷ 24 ∷ 4 ∷ 20 ∷ 4 ∷ 18 ∷ 8 ∷ 16 ∷ 0 ∷ 40000 ∷ 4 ∷ 18 ∷ 8 ∷ 16 ∷ 1 ∷ 9 ∷ 4 ∷ 21 ∷ 4 ∷ 25 ∷ 4 ∷ 27 ∷ [])

-- once round it, row 3 starting and ending with some moves between; a wait
abbrev pub round : List ℕ → List ℕ
round run = (1 ∷ 0 ∷ 1 ∷ 2 ∷ 1 ∷ 3 ∷ []) ++ (run ++ (1 ∷ 3 ∷ 1 ∷ 6 ∷ 1 ∷ 7 ∷ []))

abbrev pub waiting : ℕ → List ℕ
waiting n = 2 ∷ n ∷ []

abbrev told : Outcome ℕ → ℕ → StartsTold
told answer at = record { answer = answer; at = at }

abbrev call : List ℕ → ℕ → StartsTold
call log row = log_starts loop_file (from_words log) row 7

pub start-examples :
    -- no moves; one start
    (call [] 3 ≡ told (accepted 0) 0)
    × (call (round (waiting 5)) 3 ≡ told (accepted 1) 0)
    -- starts at 0, 0, 20000, 35999 and 36000: the last is in no hour with the first
    × (call (round [] ++ (round (waiting 20000) ++ (round (waiting 15999) ++ (round (waiting 1) ++ round [])))) 3 ≡ told (accepted 4) 0)
    -- starts at 0, 36000, 72000: each alone, the first is the earliest
    × (call (round (waiting 36000) ++ (round (waiting 36000) ++ round [])) 3 ≡ told (accepted 1) 0)
    -- starts at 0 and three at 36000
    × (call (round (waiting 36000) ++ (round [] ++ (round [] ++ round []))) 3 ≡ told (accepted 3) 36000)
    -- starts at 0, 1, 36000, 36001: three hours have two
    × (call (round (waiting 1) ++ (round (waiting 35999) ++ (round (waiting 1) ++ round []))) 3 ≡ told (accepted 2) 0)
    -- 41: a BRANCH; no such row
    × (call (round (waiting 5)) 2 ≡ told (refused 41 0) 7)
    × (call (round (waiting 5)) 65535 ≡ told (refused 41 0) 7)
    -- 42: a step that does not stand, at move 2; a wait held; a code that is no move
    × (call (1 ∷ 0 ∷ 1 ∷ 2 ∷ 1 ∷ 2 ∷ []) 3 ≡ told (refused 42 2) 7)
    × (call (waiting 1) 3 ≡ told (refused 42 0) 7)
    × (call (3 ∷ 1 ∷ []) 3 ≡ told (refused 42 0) 7)
    -- 40 before 41 before 42, and the file's own before all
    × (log_starts loop_file (0 ∷ 0 ∷ 0 ∷ []) 2 7 ≡ told (refused 40 0) 7)
    × (call (3 ∷ 1 ∷ []) 2 ≡ told (refused 41 0) 7)
    × (log_starts (take 30 loop_file) (0 ∷ 0 ∷ 0 ∷ []) 2 7 ≡ told (refused 1 30) 7)
unfolding kind_table entry_in length_of fault_at read_many kind_of head_fault item_fault uses_at uses_fine row_at row_right row_fine row_fault triggers_fine row_fault_in copies_of copies tallies count_total tally takes gives initial_count
    stack owner close branch_of loop box first_outlet leads outlet nesting_broken killer_empty exit_misplaced box_exit_misplaced thirteenth_open nesting_fault first_faulty not_one_to_one loop_left ends_branch falls_into scenario_falls spends_no_time unless_row nested after_rows after_items read_diagram
    place_of state_words state_of entered_row ends_killer killed entered branch_entries fresh_words move_of lowest_item words_outcome move_words
    setpoints_at setpoints log_fault made state_from played_from is_start starts_from fall_in busiest_from starts_of log_starts from_words loop_file
start-examples = (refl, refl, refl, refl, refl, refl, refl, refl, refl, refl, refl, refl, refl, refl)

-- 65,535 moves are a log, 65,536 are not
pub longest : (log : List ℕ) → (length log ≡ 262140 → log_fault log ≡ 0) × (length log ≡ 262144 → log_fault log ≡ 40)
unfolding log_fault
longest log = (
  (λ e. ap (λ (n : ℕ). cond (eqb (n % 4) 0 && leb (n / 4) 65535) 0 40) e),
  (λ e. ap (λ (n : ℕ). cond (eqb (n % 4) 0 && leb (n / 4) 65535) 0 40) e),
)
