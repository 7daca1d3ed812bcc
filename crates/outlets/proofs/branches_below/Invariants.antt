use Rattle.std.specs.Prelude.{◌≡◌}
use Rattle.effbd.specs.Ranges.{how_many}
use Rattle.diagram_table.specs.Cells.{is_branch}
use Rattle.outlets.proofs.branches_below.Given as goal

abbrev pub invariant-loop-row : goal.invariant-loop-row
invariant-loop-row l = l.count ≡ how_many l.row (is_branch l.table l.owner)
