-- What the table says of runs that fall through, and of scenarios that do. Assumes nothing.
use Rattle.std.specs.Prelude.{ℕ, ◌≤◌, ◌<◌, ◌≡◌, Bool, true, false, not, ◌&&◌, ◌||◌, List, leb, eqb, Result}
use Rattle.effbd.specs.Ranges.{all_below}
use Rattle.effbd.specs.Answers.{Outcome, unless, said, refusal_number, refusal_value}
use Rattle.effbd.specs.declared.refusals.Refusal.{Refusal}
use Rattle.effbd.specs.Diagrams.{Diagram, row_count, kills}
use Rattle.effbd.specs.Nesting.{owner, branch_ended, is_close, first_outlet, ends_branch, falls_into, scenario_falls, scenario_fault, unless_row}
use Rattle.diagram_table.specs.Cells.{kind_in, first_in, owner_in, branch_in, loop_in}
use Rattle.nesting.specs.declared.Part.{Part}
use Rattle.nesting.specs.declared.Part.TheVariants.{Opens, Turns, Closes, Stays}
use Rattle.nesting.specs.Runs.{part_of}
use Rattle.diagram_structure.specs.Walked.{Walked}
use Rattle.scenarios.specs.declared.Branches.{Branches}

-- a BRANCH and a close end a branch
abbrev pub ends : Part → Bool
ends Opens = false
ends Turns = true
ends Closes = true
ends Stays = false

module _ (table : List ℕ) where
  -- row q is an LE that leaves the loop of the LP `first`; some row from `first` on, up to but not including row `last`, is
  unfoldable pub leaves_in : (first q : ℕ) → Bool
  leaves_in first q = eqb (kind_in table q) 26 && eqb (loop_in table q) first

  unfoldable pub left_in : (first last : ℕ) → Bool
  left_in first last = not (all_below last (λ q. not (leb first q && leaves_in first q)))

  -- row e is a BRANCH or close of the construct that row o opens; the branch that row e ends kills
  unfoldable pub ends_in : (o e : ℕ) → Bool
  ends_in o e = eqb (owner_in table e) o && ends (part_of (kind_in table e))

  unfoldable pub killer_in : ℕ → Bool
  killer_in e = eqb (first_in table (branch_in table e)) 1

-- one branch more, which falls through or does not, and kills or does not
abbrev pub with_branch : (falls killing : Bool) → Branches → Branches
with_branch true killing b = record { all = b.all; some = true; killing = killing || b.killing }
with_branch false killing b = record { all = false; some = b.some; killing = b.killing }

-- where the first holds, so does the second
abbrev pub implied : (due so : Bool) → Bool
implied due so = elim due [ true ↦ so | false ↦ true ]

module _ (d : Diagram) (falls : ℕ → Bool) (o m : ℕ) where
  -- of the branches of the AND or OR that row o opens, those that end below row m: all fall through, none does, none that kills does
  abbrev pub all_fall : Bool
  all_fall = all_below m (λ e. implied (ends_branch d o e) (falls e))

  abbrev pub none_falls : Bool
  none_falls = all_below m (λ e. implied (ends_branch d o e) (not (falls e)))

  abbrev pub no_killer_falls : Bool
  no_killer_falls = all_below m (λ e. implied (ends_branch d o e && kills d (branch_ended d e)) (not (falls e)))

-- `b` says so of them
pub record BranchesTo (d : Diagram) (falls : ℕ → Bool) (o m : ℕ) (b : Branches) : Type 0 where
  pub all : b.all ≡ all_fall d falls o m
  pub some : b.some ≡ not (none_falls d falls o m)
  pub killing : b.killing ≡ not (no_killer_falls d falls o m)

-- the run before a row was judged: so it falls in every diagram of the table, whatever number of rows from the row's on is begun with
pub record FallsRead (table : List ℕ) (row : ℕ) (r : Bool) : Type 0 where
  pub judged : (d : Diagram) (rows : ℕ) → Walked d rows table → row ≤ rows → (n : ℕ) → row ≤ n → r ≡ falls_into d n row

-- the branches of the construct that row `close` closes were judged
pub record BranchesRead (table : List ℕ) (close : ℕ) (b : Branches) : Type 0 where
  pub judged : (d : Diagram) (rows : ℕ) → Walked d rows table → close < rows → is_close d close ≡ true → (n : ℕ) → close ≤ n
      → BranchesTo d (falls_into d n) (owner d close) (row_count d) b

-- the first outlet of the box that row `opened` opens
pub record OutletRead (table : List ℕ) (rows opened r : ℕ) : Type 0 where
  pub low : r ≤ rows
  pub is : (d : Diagram) → Walked d rows table → r ≡ first_outlet d opened

pub record ScenarioRead (table : List ℕ) (rows row : ℕ) (r : Bool) : Type 0 where
  pub judged : (d : Diagram) → Walked d rows table → row < rows → r ≡ scenario_falls d row

-- the scenarios of the table's rows were judged: every diagram that has their kinds, first fields and structure, and that the walk let pass, is turned
-- away at that row with that number, or goes on
pub record ScenariosRead (table : List ℕ) (rows : ℕ) (r : Result (Unit {0}) Refusal) : Type 0 where
  pub within : refusal_value (said r) ≤ rows
  -- "0 and 0 for none"
  pub none : refusal_number (said r) ≡ 0 → refusal_value (said r) ≡ 0
  pub judged : (d : Diagram) → Walked d rows table → (on : Outcome Diagram) → unless_row d (scenario_fault d) on ≡ unless (refusal_number (said r)) (refusal_value (said r)) on
