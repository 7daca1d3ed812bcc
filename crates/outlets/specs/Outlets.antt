-- Outlets and EXITs over the table of a diagram whose rows the walk let pass. Assumes nothing.
use Rattle.std.specs.Prelude.{ℕ, ◌-◌, ◌≤◌, ◌<◌, ◌≡◌, ◌≢◌, Bool, true, false, not, ◌&&◌, ◌||◌, List, length, get_or, set, ltb, eqb, Result}
use Rattle.effbd.specs.Answers.{Outcome, unless, said, refusal_number, refusal_value}
use Rattle.effbd.specs.declared.refusals.Refusal.{Refusal}
use Rattle.effbd.specs.Diagrams.{Diagram, box_exit, is_kind}
use Rattle.effbd.specs.Nesting.{box, first_outlet, outlet, outlet_fault, unless_row}
use Rattle.effbd.specs.Ranges.{all_below, how_many, least}
use Rattle.diagram_table.specs.Cells.{cell_of, kind_in, first_in, outlet_in, scenario_last_in, is_branch}
use Rattle.diagram_structure.specs.Walked.{Walked}

-- a row that opens a box; some of the rows does
unfoldable pub is_box : List ℕ → ℕ → Bool
is_box t q = eqb (get_or t q 0) 29

unfoldable pub has_box : List ℕ → ℕ → Bool
has_box t rows = ltb 0 (how_many rows (is_box t))

-- how many BRANCH rows the construct that row o opens has before row `end`
unfoldable pub branches_below : List ℕ → (o end : ℕ) → ℕ
branches_below t o end = how_many end (is_branch t o)

-- row q has this scenario: row o opens a box none of whose outlets stands before q
unfoldable pub in_scenario_of : List ℕ → (o q : ℕ) → Bool
in_scenario_of t o q = eqb (kind_in t o) 29 && eqb (branches_below t o q) 0

-- once each EXIT has its box in the column of the outlets: an EXIT of the box that row o opens; one that names outlet n; how many do
unfoldable pub is_exit_of : List ℕ → (o r : ℕ) → Bool
is_exit_of t o r = eqb (kind_in t r) 31 && eqb (outlet_in t r) o

unfoldable pub names_in : List ℕ → (o n r : ℕ) → Bool
names_in t o n r = is_exit_of t o r && eqb (first_in t r) n

unfoldable pub exits_for : List ℕ → (rows o n : ℕ) → ℕ
exits_for t rows o n = how_many rows (names_in t o n)

-- a row of the box that row o opens: an outlet has one EXIT, an EXIT names an outlet
unfoldable pub matched_at : List ℕ → (rows o q : ℕ) → Bool
matched_at t rows o q = (not (is_branch t o q) || eqb (exits_for t rows o (branches_below t o q)) 1) && (not (is_exit_of t o q) || ltb (first_in t q) (branches_below t o rows))

-- the outlet number n of the box that row o opens, or the number of rows
unfoldable pub outlet_of : List ℕ → (rows o n : ℕ) → ℕ
outlet_of t rows o n = least rows (λ b. is_branch t o b && eqb (branches_below t o b) n)

unfoldable pub matched_in : List ℕ → (rows o : ℕ) → Bool
matched_in t rows o = all_below rows (matched_at t rows o)

-- the lowest box whose outlets and EXITs are not one to one, or none
pub record Matched (t : List ℕ) (rows : ℕ) (r : Result (Unit {0}) Refusal) : Type 0 where
  pub within : refusal_value (said r) ≤ rows
  pub none : refusal_number (said r) ≡ 0 → refusal_value (said r) ≡ 0
  pub fine : refusal_number (said r) ≡ 0 → (o : ℕ) → o < rows → kind_in t o ≡ 29 → matched_in t rows o ≡ true
  pub bad : refusal_number (said r) ≢ 0 → (refusal_number (said r) ≡ 49) × (refusal_value (said r) < rows) × (kind_in t (refusal_value (said r)) ≡ 29) × (matched_in t rows (refusal_value (said r)) ≡ false)
      × ((o : ℕ) → o < (refusal_value (said r)) → kind_in t o ≡ 29 → matched_in t rows o ≡ true)

-- the innermost box in whose scenario an EXIT is
pub record OwnBox (t : List ℕ) (row r : ℕ) : Type 0 where
  pub own : (d : Diagram) (rows : ℕ) → Walked d rows t → row < rows → is_kind d box_exit row ≡ true → r ≡ box d row

-- one row's turn: an EXIT gets its box
pub record BoxStore (t : List ℕ) (row : ℕ) (u : List ℕ) : Type 0 where
  pub own : ℕ
  pub is : OwnBox t row own
  pub put : u ≡ set t (cell_of 8 row) own

pub record BoxTurn (t : List ℕ) (row : ℕ) (u : List ℕ) : Type 0 where
  pub other : kind_in t row ≢ 31 → u ≡ t
  pub exit : kind_in t row ≡ 31 → BoxStore t row u

-- and, by that, its outlet and the last row of its scenario
pub record OutletTurn (t : List ℕ) (rows row : ℕ) (u : List ℕ) : Type 0 where
  pub other : kind_in t row ≢ 31 → u ≡ t
  pub exit : kind_in t row ≡ 31 → u ≡ set (set t (cell_of 8 row) (outlet_of t rows (outlet_in t row) (first_in t row))) (cell_of 2 row) (outlet_of t rows (outlet_in t row) 0 - 1)

-- u is t but for two cells of each EXIT
pub record Kept (rows : ℕ) (t u : List ℕ) : Type 0 where
  pub long : length u ≡ length t
  pub cell : (i : ℕ) → ((r : ℕ) → r < rows → kind_in t r ≡ 31 → (i ≢ cell_of 8 r) × (i ≢ cell_of 2 r)) → get_or u i 0 ≡ get_or t i 0

-- the EXITs below row n have their box in the column of the outlets
pub record BoxesPut (rows : ℕ) (t : List ℕ) (n : ℕ) (u : List ℕ) : Type 0 where
  pub kept : Kept rows t u
  pub boxes : (d : Diagram) → Walked d rows t → (r : ℕ) → r < n → is_kind d box_exit r ≡ true → outlet_in u r ≡ box d r

-- the EXITs below row n have their outlet and the end of their scenario, by the box that they had
pub record OutletsPut (rows : ℕ) (t : List ℕ) (n : ℕ) (u : List ℕ) : Type 0 where
  pub kept : Kept rows t u
  pub outlets : (r : ℕ) → r < n → kind_in t r ≡ 31 → (outlet_in u r ≡ outlet_of t rows (outlet_in t r) (first_in t r)) × (scenario_last_in u r ≡ outlet_of t rows (outlet_in t r) 0 - 1)

-- the outlets of the table's boxes were judged: every diagram that the table has is turned away at that box with that number, or goes on; and then each EXIT
-- has its outlet's BRANCH and the last row of the scenario that it leaves
pub record OutletsRead (rows : ℕ) (t u : List ℕ) (r : Result (Unit {0}) Refusal) : Type 0 where
  pub within : refusal_value (said r) ≤ rows
  pub none : refusal_number (said r) ≡ 0 → refusal_value (said r) ≡ 0
  pub kept : Kept rows t u
  pub judged : (d : Diagram) → Walked d rows t → (on : Outcome Diagram) → unless_row d (outlet_fault d) on ≡ unless (refusal_number (said r)) (refusal_value (said r)) on
  pub outlets : refusal_number (said r) ≡ 0 → (d : Diagram) → Walked d rows t → (r : ℕ) → r < rows → is_kind d box_exit r ≡ true
      → (outlet_in u r ≡ outlet d r) × (scenario_last_in u r ≡ first_outlet d (box d r) - 1)
