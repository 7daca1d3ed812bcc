-- What the pass over the rows finds of the loops. Assumes nothing.
use Rattle.std.specs.Prelude.{ℕ, ◌+◌, ◌-◌, ◌≤◌, ◌<◌, ◌≡◌, ◌≢◌, Bool, cond, List, get_or, eqb, Some, Result}
use Rattle.effbd.specs.Answers.{Outcome, unless, said, refusal_number, refusal_value}
use Rattle.effbd.specs.declared.refusals.Refusal.{Refusal}
use Rattle.effbd.specs.Diagrams.{Diagram, row_count}
use Rattle.effbd.specs.Nesting.{nesting_fault, outlet_fault, loop_fault, unless_row}
use Rattle.nesting.specs.Runs.{Kinds}
use Rattle.loop_times.specs.declared.Seen.{Seen}

-- one row more
unfoldable pub looked : (kind first row : ℕ) → Seen → Seen
looked kind first row seen =
    cond (eqb kind 16) (cond (eqb first 0) seen (record { timeless = 0; lowest = seen.lowest }))
    (cond (eqb kind 25) (record { timeless = seen.timeless + 1; lowest = seen.lowest })
    (cond (eqb kind 24) (cond (eqb seen.timeless 0) seen (record { timeless = seen.timeless - 1; lowest = Some row }))
    seen))

-- a row of the table is an LP open
abbrev pub is_loop : List ℕ → ℕ → Bool
is_loop table q = eqb (get_or table q 0) 24

-- from row `behind` on, up to but not including row `row`, the table has no LP close
pub record BehindClose (table : List ℕ) (row behind : ℕ) : Type 0 where
  pub low : behind ≤ row
  pub none : (q : ℕ) → behind ≤ q → q < row → get_or table q 0 ≢ 25

-- no row is at fault before the loops are judged: neither in the walk nor as a box whose outlets and EXITs do not match
pub record Faultless (d : Diagram) : Type 0 where
  pub walk : (q : ℕ) → q < row_count d → nesting_fault d q ≡ 0
  pub outlets : (q : ℕ) → q < row_count d → outlet_fault d q ≡ 0

-- the loops of the table's rows were judged: every diagram that has their kinds and first fields, and no such fault, is turned away at that row with
-- that number, or goes on
pub record LoopsRead (table : List ℕ) (rows : ℕ) (r : Result (Unit {0}) Refusal) : Type 0 where
  pub within : refusal_value (said r) ≤ rows
  -- "0 and 0 for none"
  pub none : refusal_number (said r) ≡ 0 → refusal_value (said r) ≡ 0
  pub judged : (d : Diagram) → Kinds d rows table → Faultless d → (on : Outcome Diagram) → unless_row d (loop_fault d) on ≡ unless (refusal_number (said r)) (refusal_value (said r)) on
