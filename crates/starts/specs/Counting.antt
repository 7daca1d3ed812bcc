-- What the walk through a log keeps, with the window over its starts: how far it has come, which starts are behind it, and that the bytes of
-- gaps suffice. Assumes nothing.
use Rattle.std.specs.Prelude.{ℕ, ◌+◌, ◌*◌, ◌≤◌, ◌<◌, ◌≡◌, ◌≢◌, Bool, true, false, not, cond, ◌&&◌, List, ◌++◌, length, drop, replicate, eqb}
use Rattle.effbd.specs.States.{fresh_words}
use Rattle.effbd.specs.Logs.{setpoints, move_count, most_moves}
use Rattle.effbd.specs.Starts.{activity, starts_from, starts, times_of}
use Rattle.diagram_table.specs.Cells.{kind_in}
use Rattle.diagram_table.specs.Held.{HoldsPlant}
use Rattle.log_laws.specs.SpanWalk.{Walked}
use Rattle.logs.specs.Walk.{Walk}
use Rattle.starts.specs.Faults.{starts_fault}
use Rattle.starts.specs.Windows.{in_window, best_of, Held, Joining, Counted}
use Rattle.starts.specs.declared.spans.Window.{Window}

-- bytes of gaps for every log
abbrev pub gap_bytes : ℕ
gap_bytes = 43692

abbrev pub no_gaps : List ℕ
no_gaps = replicate {A = ℕ} gap_bytes 0

-- the log has not begun
abbrev pub no_window : Window
no_window = record { time = 0; latest = 0; since = 0; starts = 0; from = 0; to = 0; most = 0; at = 0 }

-- time passes
abbrev pub waited : ℕ → Window → Window
waited n w = record { time = w.time + n; latest = w.latest; since = w.since; starts = w.starts; from = w.from; to = w.to; most = w.most; at = w.at }

-- an accepted move is a step of the row, which runs after it
abbrev pub runs : (row code argument : ℕ) → List ℕ → Bool
runs row code argument words = not (eqb code 2) && (eqb argument row && eqb (activity words row) 2)

-- a table that says all of an accepted file, and the fresh state of its diagram
pub record FreshPlant (file : List ℕ) (rows items : ℕ) (table words : List ℕ) : Type 0 where
  pub plant : HoldsPlant file rows items table
  pub fresh : words ≡ fresh_words plant.held.diagram

-- a move turns the window
pub record Turning (row code argument : ℕ) (words gaps : List ℕ) (w : Window) : Type 0 where
  pub fits : w.time + argument < 4294967296
  pub joins : runs row code argument words ≡ true → Joining gaps w

pub record Turned (row code argument : ℕ) (words before gaps : List ℕ) (w r : Window) : Type 0 where
  pub counted : runs row code argument words ≡ true → Counted before gaps w r
  pub passed : runs row code argument words ≡ false → (r ≡ waited (cond (eqb code 2) argument 0) w) × (gaps ≡ before)

-- the latest start was move j, of i: a start comes two moves after another or later, three where time has passed between them
pub record Spaced (i j activity_now time latest to : ℕ) : Type 0 where
  pub after : j + 1 ≤ i
  pub waits : latest < time → j + 2 ≤ i
  pub ended : activity_now ≢ 2 → (j + 2 ≤ i) × (latest < time → j + 3 ≤ i)
  pub bytes : 3 * to ≤ 2 * (j + 1)

module _ (file log : List ℕ) (rows items : ℕ) (table : List ℕ) (row : ℕ) where
  -- the first i moves are made, and their starts counted
  pub record Counting (i : ℕ) (words gaps : List ℕ) (w : Window) : Type 0 where
    pub clean : starts_fault table rows log row ≡ 0
    pub few : move_count log ≤ most_moves
    pub function : kind_in table row ≡ 16
    pub room : length gaps ≡ gap_bytes
    pub holds : HoldsPlant file rows items table
    pub walk : Walk file log rows items table holds i words
    pub past : List ℕ
    pub rest : times_of (starts holds.held.diagram row log) ≡ past ++ times_of (starts_from holds.held.diagram row i w.time (drop i (setpoints log)) words)
    pub walked : Walked past w.latest (record { between = in_window gaps w; best = best_of w })
    pub held : w.starts ≢ 0 → Held gaps w.to w.latest w.starts w.from w.since
    pub later : w.latest ≤ w.time
    pub low : w.time ≤ 65535 * i
    pub many : w.starts ≤ i
    pub latest : ℕ
    pub spaced : w.starts ≢ 0 → Spaced i latest (activity words row) w.time w.latest w.to
    pub none : w.starts ≡ 0 → w.to ≡ 0
