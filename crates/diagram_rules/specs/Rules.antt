-- What the rules behind the walk leave and find. Assumes nothing.
use Rattle.std.specs.Prelude.{ℕ, ◌-◌, ◌≤◌, ◌<◌, ◌≡◌, ◌≢◌, true, false, List, length, get_or, Result}
use Rattle.effbd.specs.Answers.{Outcome, unless, said, refusal_number, refusal_value}
use Rattle.effbd.specs.declared.refusals.Refusal.{Refusal}
use Rattle.effbd.specs.Diagrams.{most_rows, box_exit, Diagram, row_count, is_kind}
use Rattle.effbd.specs.Nesting.{owner, branch_ended, close, loop, box, first_outlet, outlet, nesting_fault, outlet_fault, scenario_fault, loop_fault, unless_row}
use Rattle.diagram_table.specs.Cells.{cell_of, cell_total, kind_in, owner_in, branch_in, close_in, loop_in, outlet_in, scenario_last_in}
use Rattle.nesting.specs.Runs.{Kinds}
use Rattle.outlets.specs.Outlets.{has_box}

-- the table has the kinds and first fields of a diagram whose rows the walk let pass
pub record Ready (d : Diagram) (rows : ℕ) (table : List ℕ) : Type 0 where
  pub long : length table ≡ cell_total
  pub some : 1 ≤ rows
  pub few : rows ≤ most_rows
  pub kinds : Kinds d rows table
  pub fine : (q : ℕ) → q < row_count d → nesting_fault d q ≡ 0

-- u is t, with the structure of the rows: what their records say stays, but for the second cell of an EXIT, which has no second field
pub record Structured (d : Diagram) (rows : ℕ) (t u : List ℕ) : Type 0 where
  pub long : length u ≡ length t
  pub records : (i : ℕ) → i < cell_of 5 0 → ((r : ℕ) → r < rows → kind_in t r ≡ 31 → i ≢ cell_of 2 r) → get_or u i 0 ≡ get_or t i 0
  pub items : (i : ℕ) → cell_of 9 0 ≤ i → get_or u i 0 ≡ get_or t i 0
  pub owners : (r : ℕ) → r < rows → owner_in u r ≡ owner d r
  pub branches : (r : ℕ) → r < rows → branch_in u r ≡ branch_ended d r
  pub closes : (r : ℕ) → r < rows → close_in u r ≡ close d r
  pub loops : (r : ℕ) → r < rows → is_kind d box_exit r ≡ false → loop_in u r ≡ loop d r
  pub outlets : (r : ℕ) → r < rows → is_kind d box_exit r ≡ true → outlet_in u r ≡ outlet d r
  pub scenario_lasts : (r : ℕ) → r < rows → is_kind d box_exit r ≡ true → scenario_last_in u r ≡ first_outlet d (box d r) - 1

-- 49 and 50 were judged: every diagram that the table has is turned away at that box with that number, or goes on; where a row opens a box, the table then has the
-- structure of its rows, else it stays as it is
pub record BoxesRead (rows : ℕ) (t u : List ℕ) (r : Result (Unit {0}) Refusal) : Type 0 where
  pub within : refusal_value (said r) ≤ rows
  pub none : refusal_number (said r) ≡ 0 → refusal_value (said r) ≡ 0
  pub boxless : has_box t rows ≡ false → u ≡ t
  pub boxed : refusal_number (said r) ≡ 0 → has_box t rows ≡ true → (d : Diagram) → Ready d rows t → Structured d rows t u
  pub judged : (d : Diagram) → Ready d rows t → (on : Outcome Diagram) → unless_row d (outlet_fault d) (unless_row d (scenario_fault d) on) ≡ unless (refusal_number (said r)) (refusal_value (said r)) on

-- and 45 behind them
pub record RulesRead (rows : ℕ) (t u : List ℕ) (r : Result (Unit {0}) Refusal) : Type 0 where
  pub within : refusal_value (said r) ≤ rows
  pub none : refusal_number (said r) ≡ 0 → refusal_value (said r) ≡ 0
  pub boxless : has_box t rows ≡ false → u ≡ t
  pub boxed : refusal_number (said r) ≡ 0 → has_box t rows ≡ true → (d : Diagram) → Ready d rows t → Structured d rows t u
  pub judged : (d : Diagram) → Ready d rows t → (on : Outcome Diagram) → unless_row d (outlet_fault d) (unless_row d (scenario_fault d) (unless_row d (loop_fault d) on)) ≡ unless (refusal_number (said r)) (refusal_value (said r)) on
