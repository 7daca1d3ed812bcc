-- What a move that stands writes: over the table and the state's words, in the order of the program's stores. Assumes nothing.
use Rattle.std.specs.Prelude.{ℕ, zero, suc, ◌+◌, ◌*◌, Bool, true, false, cond, List, [], ◌∷◌, length, get_or, set, take, leb, ltb, eqb}
use Rattle.words.specs.Stores.{copied}
use Rattle.effbd.specs.Answers.{Outcome, accepted, refused}
use Rattle.effbd.specs.Diagrams.{Use}
use Rattle.effbd.specs.States.{activity_at, turns_at, clock_at}
use Rattle.diagram_table.specs.Cells.{kind_in, first_in, owner_in, branch_in, close_in, loop_in, outlet_in, scenario_last_in, counts_in, run_first, run_length, uses_in, kills_in, entered_in}
use Rattle.words.specs.Sums.{added}
use Rattle.diagram_moves.specs.Decisions.{count_place, amount_of, changed, state_allowed, move_verdict}

-- a loop of stores: n turns from 0 up; the same with nothing done before row `start`
abbrev pub fold : ℕ → (ℕ → List ℕ → List ℕ) → List ℕ → List ℕ
fold zero f words = words
fold (suc n) f words = f n (fold n f words)

unfoldable pub starting_at : ℕ → (ℕ → List ℕ → List ℕ) → ℕ → List ℕ → List ℕ
starting_at start f r words = cond (leb start r) (f r words) words

-- activity a and clock 0 of row r
unfoldable pub row_set : (r a : ℕ) → List ℕ → List ℕ
row_set r a words = set (set words (activity_at r) a) (clock_at r) 0

-- count number `first` + i after a take or a give
unfoldable pub count_turn : (giving : Bool) (rows first amount i : ℕ) → List ℕ → List ℕ
count_turn giving rows first amount i words = set words (count_place rows (first + i)) (changed giving (get_or words (count_place rows (first + i)) 0) amount)

-- the words from a on, up to but not including b, are 0; all words of the rows from `first` to `last`
unfoldable pub clear_word : ℕ → List ℕ → List ℕ
clear_word i words = set words i 0

unfoldable pub words_cleared : (a b : ℕ) → List ℕ → List ℕ
words_cleared a b words = fold b (starting_at a clear_word) words

unfoldable pub rows_cleared : (first last : ℕ) → List ℕ → List ℕ
rows_cleared first last words = words_cleared (3 * first) (3 * (last + 1)) words

unfoldable pub tick_turn : (n r : ℕ) → List ℕ → List ℕ
tick_turn n r words = cond (eqb (get_or words (activity_at r) 0) 2) (set words (clock_at r) (added (get_or words (clock_at r) 0) n)) words

module _ (table : List ℕ) where
  -- the counts after use j of row r, of so much of item k: each of its run is changed
  unfoldable pub use_changed : (giving : Bool) (rows r j k amount : ℕ) → List ℕ → List ℕ
  use_changed giving rows r j k amount words = cond (eqb amount 0) words (fold (run_length table giving k) (count_turn giving rows (run_first table giving r j k) amount) words)

  -- after the takes or the gives of row r's uses, from use j on
  unfoldable pub counts_changed : (giving : Bool) (rows r j : ℕ) → List Use → List ℕ → List ℕ
  counts_changed giving rows r j [] words = words
  counts_changed giving rows r j (u ∷ us) words = counts_changed giving rows r (j + 1) us (use_changed giving rows r j u.item (amount_of giving u) words)

  -- `turn` at the BRANCH row b of an AND and at those before it: each has the one before it for the branch that it ends, the first itself; n turns,
  -- which are enough where b is below n
  unfoldable pub branches_back : (turn : ℕ → List ℕ → List ℕ) (n b : ℕ) → List ℕ → List ℕ
  branches_back turn zero b words = words
  branches_back turn (suc n) b words = let turned = turn b words in cond (ltb (branch_in table b) b) (branches_back turn n (branch_in table b) turned) turned

  -- activity a of all BRANCH rows of an AND, of which b is the last
  unfoldable pub branches_set : (a b : ℕ) → List ℕ → List ℕ
  branches_set a b words = branches_back (λ q. row_set q a) (b + 1) b words

  -- a branch of the AND that row o opens kills: the rows strictly inside are cleared, then its BRANCH rows are done
  unfoldable pub rows_killed : ℕ → List ℕ → List ℕ
  rows_killed o words = let c = close_in table o in branches_set 3 (branch_in table c) (words_cleared (3 * (o + 1)) (3 * c) words)

  -- row r is entered
  unfoldable pub entered : ℕ → List ℕ → List ℕ
  entered r words = cond (kills_in table (entered_in table r))
      (rows_killed (owner_in table r) words)
      (row_set (entered_in table r) (cond (eqb (kind_in table (entered_in table r)) 18) 3 1) words)

  -- row `from` goes idle, row `to` is entered
  unfoldable pub token_passed : (from to : ℕ) → List ℕ → List ℕ
  token_passed from to words = entered to (row_set from 0 words)

  -- all branches of an AND are entered, b being its last BRANCH row
  unfoldable pub branches_entered : ℕ → List ℕ → List ℕ
  branches_entered b words = branches_back (λ q. entered (q + 1)) (b + 1) b words

  unfoldable pub it_open_change : ℕ → List ℕ → List ℕ
  it_open_change r words = cond (ltb (get_or words (turns_at r) 0) (first_in table r))
      (token_passed r (r + 1) (set words (turns_at r) (get_or words (turns_at r) 0 + 1)))
      (token_passed r (close_in table r + 1) (set words (turns_at r) 0))

  -- the rows from `first` to `last` are left: they are cleared, row `to` is entered
  unfoldable pub rows_left : (first last to : ℕ) → List ℕ → List ℕ
  rows_left first last to words = entered to (rows_cleared first last words)

  -- an LE leaves its loop for the row after it, an EXIT its box's scenario for the row after its outlet's BRANCH
  unfoldable pub loop_exit_change : ℕ → List ℕ → List ℕ
  loop_exit_change r words = rows_left (loop_in table r) (close_in table (loop_in table r)) (close_in table (loop_in table r) + 1) words

  unfoldable pub box_exit_change : ℕ → List ℕ → List ℕ
  box_exit_change r words = rows_left (owner_in table (outlet_in table r)) (scenario_last_in table r) (outlet_in table r + 1) words

  module _ (rows : ℕ) (file : List ℕ) where
    unfoldable pub function_change : ℕ → List ℕ → List ℕ
    function_change r words = cond (eqb (get_or words (activity_at r) 0) 1)
        (row_set r 2 (counts_changed false rows r 0 (uses_in table file r) words))
        (token_passed r (r + 1) (counts_changed true rows r 0 (uses_in table file r) words))

    unfoldable pub row_change : ℕ → List ℕ → List ℕ
    row_change r words = cond (eqb (kind_in table r) 16) (function_change r words)
        (cond (eqb (kind_in table r) 17) (branches_entered (branch_in table (close_in table r)) (row_set r 0 words))
        (cond (eqb (kind_in table r) 18) (token_passed (owner_in table r) (r + 1) words)
        (cond (eqb (kind_in table r) 19) (entered (r + 1) (branches_set 0 (branch_in table r) words))
        (cond (eqb (kind_in table r) 22) (it_open_change r words)
        (cond (eqb (kind_in table r) 23) (token_passed r (owner_in table r) words)
        (cond (eqb (kind_in table r) 25) (token_passed r (owner_in table r) words)
        (cond (eqb (kind_in table r) 26) (loop_exit_change r words)
        (cond (eqb (kind_in table r) 31) (box_exit_change r words)
        (token_passed r (r + 1) words)))))))))

    unfoldable pub move_change : (code argument : ℕ) → List ℕ → List ℕ
    move_change code argument words = cond (eqb code 1) (row_change argument words) (fold rows (tick_turn argument) words)

-- the outcome of a move that was told `verdict`, and has `words` written where it stands
abbrev pub outcome_of : (verdict : Outcome ℕ) (words : List ℕ) → Outcome (List ℕ)
outcome_of (accepted value) words = accepted words
outcome_of (refused number value) words = refused number value

module _ (table : List ℕ) (rows items : ℕ) (file words : List ℕ) (code argument : ℕ) where
  -- a move over the table, whatever the state: decided, then written
  unfoldable pub table_move : Outcome (List ℕ)
  table_move = outcome_of (move_verdict table rows items file words code argument) (move_change table rows file code argument words)

  -- the check of the state, then the move
  unfoldable pub checked_table_move : Outcome (List ℕ)
  checked_table_move = cond (state_allowed table rows items (counts_in table items) words) table_move (refused 20 0)

-- the first `size` words of `source` in the place of `words`: 20 where their number is another
unfoldable pub fresh_placed : (size : ℕ) (source words : List ℕ) → Outcome (List ℕ)
fresh_placed size source words = cond (eqb (length words) size) (accepted (copied (take size source) words)) (refused 20 0)
