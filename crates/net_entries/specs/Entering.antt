-- What a transition writes of entering a row, from a diagram's table: a give, or where that ends a branch that kills, that kill. Any words are a
-- table: past its end a word is 0. Assumes nothing.
use Rattle.std.specs.Prelude.{ℕ, ◌*◌, cond, List}
use Rattle.effbd.specs.Nets.{give_arc}
use Rattle.diagram_table.specs.Cells.{owner_in, kills_in, entered_in}
use Rattle.net_records.specs.Writing.{Records}
use Rattle.net_records.specs.Records.{arc}
use Rattle.net_clears.specs.Clearing.{kill}

-- P of the row that entering a row changes where no branch kills
unfoldable pub entry : List ℕ → ℕ → ℕ
entry table q = 3 * entered_in table q

-- entering a row: the give to the row that it changes, or that of a branch that kills
unfoldable pub entering : (table : List ℕ) (q : ℕ) → Records
entering table q = let b = entered_in table q in cond (kills_in table b) (kill table (owner_in table b)) (arc give_arc (3 * b) 1)
