use Rattle.std.proofs.Common.{◌≡◌, ◌+◌, ◌*◌, ◌≤◌, length}
use Rattle.copies.specs.Counting.{uses_counted}
use Rattle.diagram_table.specs.Cells.{rank_cell, uses_of}
use Rattle.copies.proofs.count_uses.Given as goal

abbrev pub invariant-loop-index : goal.invariant-loop-index
invariant-loop-index l = let rest = l.index-iterator.iter.rest.now in let count = l.index-iterator.count in
    (l.index-iterator.iter.size ≡ 6) × (6 * count + length rest ≤ length l.uses) × (uses_counted (l.first + count) (uses_of rest) l.table ≡ uses_counted (rank_cell l.row 0) (uses_of l.uses) l.initial.table)
