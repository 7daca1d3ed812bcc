use Rattle.std.specs.Prelude.{ℕ, ◌<◌, ◌≡◌, false}
use Rattle.effbd.specs.Ranges.{how_many}
use Rattle.diagram_table.specs.Cells.{is_branch}
use Rattle.outlets.proofs.Counting.{nth}
use Rattle.outlets.proofs.OpenBox.outlet.Given as goal

abbrev pub invariant-loop-row : goal.invariant-loop-row
invariant-loop-row l = (l.seen ≡ how_many l.row (is_branch l.self.table.now l.self.opened)) × ((j : ℕ) → j < l.row → nth l.number (is_branch l.self.table.now l.self.opened) j ≡ false)
