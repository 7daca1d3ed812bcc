-- What a move is told before anything is written: over the table and the state's words, in the program's order. Assumes nothing.
use Rattle.std.specs.Prelude.{ℕ, zero, suc, ◌+◌, ◌-◌, ◌*◌, Bool, true, false, not, cond, ◌&&◌, List, [], ◌∷◌, length, get_or, leb, ltb, eqb}
use Rattle.effbd.specs.Ranges.{all_below, least}
use Rattle.effbd.specs.Answers.{Outcome, accepted, refused}
use Rattle.effbd.specs.Diagrams.{Use}
use Rattle.effbd.specs.States.{activity_at, turns_at, clock_at}
use Rattle.effbd.specs.Moves.{most_word}
use Rattle.words.specs.Sums.{added}
use Rattle.diagram_table.specs.Cells.{kind_in, first_in, second_in, owner_in, branch_in, close_in, trigger_in, some_trigger_in, run_first, run_length, uses_in}

-- where count k stands in a state of so many rows
abbrev pub count_place : ℕ → ℕ → ℕ
count_place rows k = 3 * rows + k

-- a take or a give: its amount in a use, whether a count stops it, what it makes of a count (a sum stops at 65,535)
abbrev pub amount_of : (giving : Bool) → Use → ℕ
amount_of giving u = cond giving u.give u.take

unfoldable pub exceeds : (giving : Bool) (count amount : ℕ) → Bool
exceeds giving count amount = cond giving (ltb (most_word - amount) count) (ltb count amount)

unfoldable pub changed : (giving : Bool) (count amount : ℕ) → ℕ
changed giving count amount = cond giving (added count amount) (count - amount)

-- count number `first` + i does not stop it; of so many counts from number `first` on some does
unfoldable pub count_allows : (giving : Bool) (rows first amount : ℕ) (words : List ℕ) → ℕ → Bool
count_allows giving rows first amount words i = not (exceeds giving (get_or words (count_place rows (first + i)) 0) amount)

unfoldable pub run_blocked : (giving : Bool) (rows first amount n : ℕ) → List ℕ → Bool
run_blocked giving rows first amount n words = not (all_below n (count_allows giving rows first amount words))

-- how many of so many counts from number `first` on stand in a state: all, but for one that is too short
unfoldable pub standing : (rows first n : ℕ) → List ℕ → ℕ
standing rows first n words = cond (leb (count_place rows (first + n)) (length words)) n (length words - count_place rows first)

-- the largest of so many counts from number `first` on
unfoldable pub most_of : (rows first : ℕ) (words : List ℕ) → ℕ → ℕ
most_of rows first words zero = 0
most_of rows first words (suc i) = let most = most_of rows first words i in let count = get_or words (count_place rows (first + i)) 0 in cond (ltb most count) count most

module _ (table : List ℕ) where
  -- use j of row r, of so much of item k, is stopped by a count of its run; an amount of 0 has no business with them
  unfoldable pub use_blocked : (giving : Bool) (rows : ℕ) (words : List ℕ) (r j k amount : ℕ) → Bool
  use_blocked giving rows words r j k amount = cond (eqb amount 0) false (run_blocked giving rows (run_first table giving r j k) amount (run_length table giving k) words)

  -- the first of row r's uses, from use j on, that is stopped: its item, or the number of items
  unfoldable pub blocked_item : (giving : Bool) (rows items : ℕ) (words : List ℕ) (r j : ℕ) → List Use → ℕ
  blocked_item giving rows items words r j [] = items
  blocked_item giving rows items words r j (u ∷ us) = cond (use_blocked giving rows words r j u.item (amount_of giving u)) u.item (blocked_item giving rows items words r (j + 1) us)

  -- 20: the check of a row
  unfoldable pub activity_allowed : ℕ → ℕ → Bool
  activity_allowed r a = cond (eqb (kind_in table r) 16) (leb a 2)
      (cond (eqb (kind_in table r) 18) (cond (eqb a 0) true (cond (eqb (kind_in table (owner_in table r)) 17) (eqb a 3) false))
      (cond (eqb (kind_in table r) 19) (eqb a 0) (leb a 1)))

  unfoldable pub turns_allowed : ℕ → ℕ → Bool
  turns_allowed r n = cond (eqb (kind_in table r) 22) (leb n (first_in table r)) (eqb n 0)

  unfoldable pub clock_allowed : ℕ → ℕ → ℕ → Bool
  clock_allowed r a n = cond (eqb a 2) (leb n (second_in table r)) (eqb n 0)

  unfoldable pub row_allowed : List ℕ → ℕ → Bool
  row_allowed words r = activity_allowed r (get_or words (activity_at r) 0)
      && (turns_allowed r (get_or words (turns_at r) 0) && clock_allowed r (get_or words (activity_at r) 0) (get_or words (clock_at r) 0))

  -- 20: the shared count of a trigger is 0
  unfoldable pub count_allowed : (rows : ℕ) → List ℕ → ℕ → Bool
  count_allowed rows words k = cond (eqb (trigger_in table k) 0) true (eqb (get_or words (count_place rows k) 0) 0)

  unfoldable pub shared_allowed : (rows items : ℕ) → List ℕ → Bool
  shared_allowed rows items words = cond (eqb (some_trigger_in table) 0) true (all_below items (count_allowed rows words))

  -- 20 of a state that has so many counts
  unfoldable pub state_allowed : (rows items counts : ℕ) → List ℕ → Bool
  state_allowed rows items counts words = eqb (length words) (3 * rows + counts) && (all_below rows (row_allowed words) && shared_allowed rows items words)

  -- the BRANCH row b of an AND and those before it are done: each has the one before it for the branch that it ends, the first itself; n turns, which
  -- are enough where b is below n
  unfoldable pub done_back : List ℕ → (n b : ℕ) → Bool
  done_back words zero b = true
  done_back words (suc n) b = eqb (get_or words (activity_at b) 0) 3 && cond (ltb (branch_in table b) b) (done_back words n (branch_in table b)) true

  -- all BRANCH rows of an AND are done, of which b is the last
  unfoldable pub branches_done : List ℕ → ℕ → Bool
  branches_done words b = done_back words (b + 1) b

  -- r is the first BRANCH row of an AND whose BRANCH rows are all done: its close could step
  unfoldable pub and_done : List ℕ → ℕ → Bool
  and_done words r = eqb (owner_in table r + 1) r && branches_done words (branch_in table (close_in table (owner_in table r)))

-- the first row from row `from` on that is not idle, or the number of rows
unfoldable pub next_busy : List ℕ → (from rows : ℕ) → ℕ
next_busy words from rows = least rows (λ q. leb from q && not (eqb (get_or words (activity_at q) 0) 0))

-- the step of row r stands if row o is ready
unfoldable pub ready_verdict : List ℕ → ℕ → ℕ → Outcome ℕ
ready_verdict words o r = cond (eqb (get_or words (activity_at o) 0) 1) (accepted 0) (refused 22 r)

unfoldable pub branch_verdict : (table words : List ℕ) → ℕ → Outcome ℕ
branch_verdict table words r = cond (eqb (kind_in table (owner_in table r)) 20) (ready_verdict words (owner_in table r) r) (refused 22 r)

unfoldable pub close_verdict : (table words : List ℕ) → ℕ → Outcome ℕ
close_verdict table words r = cond (branches_done table words (branch_in table r)) (accepted 0) (refused 22 r)

module _ (table : List ℕ) (rows items : ℕ) (file words : List ℕ) where
  unfoldable pub start_verdict : ℕ → Outcome ℕ
  start_verdict r = cond (ltb (blocked_item table false rows items words r 0 (uses_in table file r)) items)
      (refused 23 (blocked_item table false rows items words r 0 (uses_in table file r)))
      (accepted 0)

  unfoldable pub end_verdict : ℕ → Outcome ℕ
  end_verdict r = cond (ltb (get_or words (clock_at r) 0) (first_in table r))
      (refused 24 (first_in table r - get_or words (clock_at r) 0))
      (cond (ltb (blocked_item table true rows items words r 0 (uses_in table file r)) items)
      (refused 25 (blocked_item table true rows items words r 0 (uses_in table file r)))
      (accepted 0))

  unfoldable pub function_verdict : ℕ → Outcome ℕ
  function_verdict r = cond (eqb (get_or words (activity_at r) 0) 1) (start_verdict r)
      (cond (eqb (get_or words (activity_at r) 0) 2) (end_verdict r) (refused 22 r))

  unfoldable pub row_verdict : ℕ → Outcome ℕ
  row_verdict r = cond (eqb (kind_in table r) 16) (function_verdict r)
      (cond (eqb (kind_in table r) 18) (branch_verdict table words r)
      (cond (eqb (kind_in table r) 19) (close_verdict table words r)
      (cond (eqb (kind_in table r) 20) (refused 22 r)
      (cond (eqb (kind_in table r) 27) (refused 22 r)
      (ready_verdict words r r)))))

  -- what holds a wait of n ticks at row r; an AND close that could step is seen at the first BRANCH row of its AND, so that no idle row holds
  unfoldable pub function_holds : (n r : ℕ) → Bool
  function_holds n r = cond (eqb (get_or words (activity_at r) 0) 1) (leb items (blocked_item table false rows items words r 0 (uses_in table file r)))
      (cond (eqb (get_or words (activity_at r) 0) 2) (ltb (second_in table r) (get_or words (clock_at r) 0 + n)) false)

  unfoldable pub row_holds : (n r : ℕ) → Bool
  row_holds n r = cond (eqb (kind_in table r) 16) (function_holds n r)
      (cond (eqb (kind_in table r) 27) false
      (cond (eqb (get_or words (activity_at r) 0) 1) true
      (cond (eqb (get_or words (activity_at r) 0) 3) (and_done table words r) false)))

  unfoldable pub row_free : (n r : ℕ) → Bool
  row_free n r = not (row_holds n r)

  unfoldable pub wait_verdict : (n : ℕ) → Outcome ℕ
  wait_verdict n = cond (eqb n 0) (refused 21 0) (cond (all_below rows (row_free n)) (accepted 0) (refused 26 0))

  -- the code, then the row or the wait
  unfoldable pub move_verdict : (code argument : ℕ) → Outcome ℕ
  move_verdict code argument = cond (eqb code 1) (cond (ltb argument rows) (row_verdict argument) (refused 22 argument))
      (cond (eqb code 2) (wait_verdict argument) (refused 21 0))
