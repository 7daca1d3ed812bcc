-- The records of the transitions of an IT open, of an LE and of an EXIT, in the order of the file, from a diagram's table.
-- Any words are a table: past its end a word is 0. Assumes nothing.
use Rattle.std.specs.Prelude.{ℕ, ◌+◌, ◌*◌, cond, List, ◌++◌, leb}
use Rattle.effbd.specs.Nets.{take_arc, clear_arc, give_arc}
use Rattle.diagram_table.specs.Cells.{first_in, owner_in, close_in, loop_in, outlet_in, scenario_last_in, kills_in, entered_in}
use Rattle.net_records.specs.Writing.{Records, span}
use Rattle.net_records.specs.Records.{transition, pair, arc}
use Rattle.net_clears.specs.Clearing.{restore, kill}
use Rattle.net_entries.specs.Entering.{entry}

-- gives stand by rising places: the give to `to` stands before the gives to the places behind `place`, or after them
unfoldable pub early : (to place : ℕ) → ℕ
early to place = cond (leb to place) 1 0

unfoldable pub late : (to place : ℕ) → ℕ
late to place = cond (leb to place) 0 1

-- one transition of an IT open: what it takes and gives beside P and the entry
unfoldable pub it_turn : (row from into weight to : ℕ) → Records
it_turn row from into weight to = transition row 0 0 ++ arc take_arc (3 * row) 1 ++ arc take_arc from weight
    ++ arc give_arc to (early to (3 * row)) ++ arc give_arc into weight ++ arc give_arc to (late to (3 * row))

-- one that ends a branch that kills, in the AND that row o opens: an IT open takes its count from Q, an LE nothing
unfoldable pub kill_turn : (table : List ℕ) (row weight o : ℕ) → Records
kill_turn table row weight o = transition row 0 0 ++ arc take_arc (3 * row) 1 ++ arc take_arc (3 * row + 1) weight ++ kill table o

-- the second transition of an IT open, which enters the row after its close: `b` is the row that this changes
unfoldable pub it_over : (table : List ℕ) (row b : ℕ) → Records
it_over table row b = cond (kills_in table b) (kill_turn table row (first_in table row) (owner_in table b)) (it_turn row (3 * row + 1) (3 * row + 2) (first_in table row) (3 * b))

unfoldable pub it_open_records : (table : List ℕ) (row : ℕ) → Records
it_open_records table row = it_turn row (3 * row + 2) (3 * row + 1) 1 (entry table (row + 1)) ++ it_over table row (entered_in table (close_in table row + 1))

-- an LE or EXIT that leaves the rows `opened` to `closed`
unfoldable pub leave : (table : List ℕ) (row opened closed to : ℕ) → Records
leave table row opened closed to = transition row 0 0 ++ arc take_arc (3 * row) 1 ++ pair clear_arc (3 * opened) (3 * closed + 2)
    ++ arc give_arc to (early to (3 * opened)) ++ span (restore table) opened (closed + 1) ++ arc give_arc to (late to (3 * opened))

-- an LE of the loop that row `opened` opens, which enters the row after its close: `b` is the row that this changes
unfoldable pub exit_turn : (table : List ℕ) (row opened closed b : ℕ) → Records
exit_turn table row opened closed b = cond (kills_in table b) (kill_turn table row 0 (owner_in table b)) (leave table row opened closed (3 * b))

unfoldable pub loop_exit_records : (table : List ℕ) (row : ℕ) → Records
loop_exit_records table row = let opened = loop_in table row in
    let closed = close_in table opened in exit_turn table row opened closed (entered_in table (closed + 1))

-- an EXIT leaves its scenario's rows and enters the row after its outlet's BRANCH, whose owner is its box
unfoldable pub box_exit_records : (table : List ℕ) (row : ℕ) → Records
box_exit_records table row = let branch = outlet_in table row in leave table row (owner_in table branch) (scenario_last_in table row) (entry table (branch + 1))
