-- The nesting rules over the table's numbers, and what the two readers of runs and constructs find. Assumes nothing.
use Rattle.std.specs.Prelude.{ℕ, ◌+◌, ◌≤◌, ◌<◌, ◌≡◌, ◌≢◌, Bool, true, false, not, cond, ◌&&◌, ◌||◌, List, length, get_or, ltb, eqb, Option, Some, None, Result, Ok, Err}
use Rattle.effbd.specs.Answers.{Outcome, unless, number, said, refusal_number, refusal_value}
use Rattle.effbd.specs.declared.refusals.Refusal.{Refusal}
use Rattle.effbd.specs.Diagrams.{most_rows, Diagram, lp_open, number_of, row_count, row, kind}
use Rattle.effbd.specs.Frames.{Frame, innermost_open, branch_count}
use Rattle.effbd.specs.Nesting.{stack, own_scenario, some_open, some_scenario, follows, nesting_fault, unless_row}
use Rattle.nesting.specs.declared.Part.{Part}
use Rattle.nesting.specs.declared.Part.TheVariants.{Opens, Turns, Closes, Stays}
use Rattle.nesting.specs.declared.Open.{Open}
use Rattle.nesting.specs.declared.RunEnd.{RunEnd}
use Rattle.nesting.specs.declared.RunEnd.TheVariants.{Judged, Turned, Closed}

unfoldable pub part_of : ℕ → Part
part_of k = cond (eqb k 17) Opens (cond (eqb k 18) Turns (cond (eqb k 19) Closes (cond (eqb k 20) Opens (cond (eqb k 21) Closes (cond (eqb k 22) Opens
    (cond (eqb k 23) Closes (cond (eqb k 24) Opens (cond (eqb k 25) Closes (cond (eqb k 29) Opens (cond (eqb k 30) Closes Stays))))))))))

-- the kind of a row in the table; behind the last row an END
unfoldable pub kind_in : List ℕ → ℕ → ℕ → ℕ
kind_in table rows q = cond (ltb q rows) (get_or table q 0) 27

-- the first field of a row in the table
abbrev pub first_in : List ℕ → ℕ → ℕ
first_in table q = get_or table (most_rows + q) 0

unfoldable pub top_in : List ℕ → ℕ → Open → ℕ
top_in table rows o = cond (eqb o.depth 0) 0 (kind_in table rows o.opened)

unfoldable pub is_and_or : ℕ → Bool
is_and_or k = eqb k 17 || eqb k 20

unfoldable pub is_branching : ℕ → Bool
is_branching k = is_and_or k || eqb k 29

-- a row of kind `next` ends a run in the construct `top`
unfoldable pub run_ends : (next top : ℕ) → Bool
run_ends next top = eqb next 18 || ((eqb top 17 && eqb next 19) || ((eqb top 20 && eqb next 21) || (eqb top 29 && eqb next 30)))

-- an LE may stand; an EXIT may
unfoldable pub exit_fits : (next top : ℕ) (looped : Bool) → Bool
exit_fits next top looped = is_and_or top && (looped && run_ends next top)

unfoldable pub box_exit_fits : (next top : ℕ) (boxed : Bool) → Bool
box_exit_fits next top boxed = boxed && (not (eqb top 22 || eqb top 24) && run_ends next top)

-- a box has its scenario before its first BRANCH; those LPs that are open around it do not count in there
unfoldable pub scenario_in : (kind branches : ℕ) → Bool
scenario_in k branches = eqb k 29 && eqb branches 0

unfoldable pub loops_in : (kind : ℕ) (scenario looped : Bool) → Bool
loops_in k scenario looped = cond scenario false (eqb k 24 || looped)

-- what is open in the construct that row `opened` opens, behind so many of its BRANCH rows

unfoldable pub inside_in : (kind opened branches : ℕ) → Open → Open
inside_in k opened branches o = record {
  depth = o.depth + 1;
  opened = opened;
  branches = branches;
  looped = loops_in k (scenario_in k branches) o.looped;
  boxed = scenario_in k branches || o.boxed;
}

-- a close's own construct is innermost, an AND, OR or box with two BRANCH rows or more
unfoldable pub closes_in : (kind top : ℕ) (two : Bool) → Bool
closes_in k top two = cond (eqb k 19) (eqb top 17 && two) (cond (eqb k 21) (eqb top 20 && two) (cond (eqb k 23) (eqb top 22) (cond (eqb k 25) (eqb top 24)
    (cond (eqb k 30) (eqb top 29 && two) false))))

-- the fault of a row that stays and is not the last
unfoldable pub stay_fault : (kind next top : ℕ) (looped boxed : Bool) → ℕ
stay_fault k next top looped boxed = cond (eqb k 26) (cond (exit_fits next top looped) 0 8) (cond (eqb k 31) (cond (box_exit_fits next top boxed) 0 48) (cond (eqb k 27) 7 0))

-- the fault of the last row
unfoldable pub last_fault : (kind top : ℕ) → ℕ
last_fault k top = cond (eqb k 27 && eqb top 0) 0 7

-- the fault of a BRANCH that kills and is not the last row: it stands in an AND only, and neither BRANCH nor close follows it
unfoldable pub killer_fault : (next top : ℕ) → ℕ
killer_fault next top = cond (eqb top 17) (cond (eqb next 18 || eqb next 19) 44 0) 7

-- the fault of a BRANCH that is not the last row
unfoldable pub branch_fault : (first next top : ℕ) → ℕ
branch_fault first next top = cond (eqb first 1) (killer_fault next top) (cond (is_branching top) 0 7)

-- the fault of row q, right behind an AND open or OR open
unfoldable pub open_fault : (table : List ℕ) (rows q top : ℕ) → ℕ
open_fault table rows q top = cond (eqb (kind_in table rows q) 18 && ltb (q + 1) rows) (branch_fault (first_in table q) (kind_in table rows (q + 1)) top) 7

-- the table has the kinds of a diagram's rows, and their first fields
pub record Kinds (d : Diagram) (rows : ℕ) (table : List ℕ) : Type 0 where
  pub count : rows ≡ row_count d
  pub cell : (q : ℕ) → q < rows → get_or table q 0 ≡ number_of (kind d q)
  pub first : (q : ℕ) → q < rows → first_in table q ≡ (row d q).first

-- `o` is what a stack says
pub record Shows (d : Diagram) (frames : List Frame) (o : Open) : Type 0 where
  pub depth : o.depth ≡ length frames
  pub opened : o.opened ≡ innermost_open frames
  pub branches : o.branches ≡ branch_count frames
  pub looped : o.looped ≡ some_open d lp_open (own_scenario d frames)
  pub boxed : o.boxed ≡ some_scenario d frames

-- a diagram of the table's kinds: at row q `o` is open, and row q may follow the row before it
pub record At (table : List ℕ) (rows q : ℕ) (o : Open) (d : Diagram) : Type 0 where
  pub kinds : Kinds d rows table
  pub shows : Shows d (stack d q) o
  pub free : follows d q ≡ true

-- no row from a on, up to but not including b, is at fault
pub record Clean (d : Diagram) (a b : ℕ) : Type 0 where
  pub fine : (q : ℕ) → a ≤ q → q < b → nesting_fault d q ≡ 0

-- all rows from a on are judged: none is at fault, or `row` is the first
pub record AllJudged (d : Diagram) (a number row : ℕ) : Type 0 where
  pub good : number ≡ 0 → Clean d a (row_count d)
  pub bad : number ≢ 0 → (a ≤ row) × (row < row_count d) × (nesting_fault d row ≡ number) × Clean d a row

-- no row from a on, up to but not including q, is at fault; at q these frames are open, and it may follow the row before it
pub record Reached (d : Diagram) (a q : ℕ) (frames : List Frame) : Type 0 where
  pub clean : Clean d a q
  pub around : stack d q ≡ frames
  pub free : follows d q ≡ true

-- row j ends a run that began at row a: no row up to and with j is at fault, and at j the same is open as at a
pub record Ends (d : Diagram) (part : Part) (a j : ℕ) : Type 0 where
  pub clean : Clean d a (j + 1)
  pub does : part_of (number_of (kind d j)) ≡ part
  pub around : stack d j ≡ stack d a

-- a run, and a construct, as they were read: up to their end, or turned away at a row
abbrev pub Run : Type 0
Run = Result RunEnd Refusal

abbrev pub Construct : Type 0
Construct = Result (Option ℕ) Refusal

abbrev pub RunEnded : Diagram → ℕ → Run → Type 0
RunEnded d a (Err e) = AllJudged d a (number e.reason) e.value
RunEnded d a (Ok Judged) = AllJudged d a 0 0
RunEnded d a (Ok (Turned j)) = Ends d Turns a j
RunEnded d a (Ok (Closed j)) = Ends d Closes a j

abbrev pub RunWithin : ℕ → ℕ → Run → Type 0
RunWithin a rows (Err e) = e.value ≤ rows
RunWithin a rows (Ok Judged) = Unit {0}
RunWithin a rows (Ok (Turned j)) = (a ≤ j) × (j + 1 < rows)
RunWithin a rows (Ok (Closed j)) = (a ≤ j) × (j + 1 < rows)

pub record RunRead (table : List ℕ) (rows from : ℕ) (o : Open) (r : Run) : Type 0 where
  pub within : RunWithin from rows r
  pub ended : (d : Diagram) → At table rows from o d → RunEnded d from r

-- behind the close of the construct that row a opens the same is open as at a
abbrev pub ConstructEnded : Diagram → ℕ → Construct → Type 0
ConstructEnded d a (Err e) = AllJudged d (a + 1) (number e.reason) e.value
ConstructEnded d a (Ok None) = AllJudged d (a + 1) 0 0
ConstructEnded d a (Ok (Some j)) = Reached d (a + 1) (j + 1) (stack d a)

abbrev pub ConstructWithin : ℕ → ℕ → Construct → Type 0
ConstructWithin a rows (Err e) = e.value ≤ rows
ConstructWithin a rows (Ok None) = Unit {0}
ConstructWithin a rows (Ok (Some j)) = (a < j) × (j + 1 < rows)

pub record ConstructRead (table : List ℕ) (rows opened : ℕ) (o : Open) (r : Construct) : Type 0 where
  pub within : ConstructWithin opened rows r
  pub ended : (d : Diagram) → At table rows opened o d → part_of (number_of (kind d opened)) ≡ Opens → ConstructEnded d opened r

-- the nesting of the table's rows was judged: every diagram that has their kinds and first fields is turned away at that row with that number, or goes on
pub record NestingRead (table : List ℕ) (rows : ℕ) (r : Result (Unit {0}) Refusal) : Type 0 where
  pub within : refusal_value (said r) ≤ rows
  -- "0 and 0 for none"
  pub none : refusal_number (said r) ≡ 0 → refusal_value (said r) ≡ 0
  pub judged : (d : Diagram) → Kinds d rows table → (on : Outcome Diagram) → unless_row d (nesting_fault d) on ≡ unless (refusal_number (said r)) (refusal_value (said r)) on
