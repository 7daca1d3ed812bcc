-- What a transition writes of rows that it clears, in the order of the file, from a diagram's table: R of an IT open again, and a kill, which
-- is a clear range and the gives to the rows in it. Any words are a table: past its end a word is 0. Assumes nothing.
use Rattle.std.specs.Prelude.{ℕ, ◌+◌, ◌-◌, ◌*◌, cond, List, [], ◌++◌, eqb}
use Rattle.effbd.specs.Diagrams.{it_open, number_of}
use Rattle.effbd.specs.Nets.{clear_arc, give_arc}
use Rattle.diagram_table.specs.Cells.{kind_in, first_in, close_in, is_branch}
use Rattle.net_records.specs.Writing.{Records, span}
use Rattle.net_records.specs.Records.{pair, arc}

-- R of an IT open among rows that are cleared
unfoldable pub restore : (table : List ℕ) (q : ℕ) → Records
restore table q = cond (eqb (kind_in table q) (number_of it_open)) (arc give_arc (3 * q + 2) (first_in table q)) []

-- what a kill gives at a row of the AND that row o opens: P of its BRANCH rows, R of the IT opens
unfoldable pub revive : (table : List ℕ) (o q : ℕ) → Records
revive table o q = cond (is_branch table o q) (arc give_arc (3 * q) 1) (restore table q)

-- a kill in this AND: all places of the rows in it are one range, and their gives follow
unfoldable pub kill : (table : List ℕ) (o : ℕ) → Records
kill table o = let c = close_in table o in pair clear_arc (3 * (o + 1)) (3 * (c - 1) + 2) ++ span (revive table o) (o + 1) c
