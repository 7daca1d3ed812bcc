use Rattle.std.proofs.Common.{length, ◌+◌, ◌*◌, ◌≡◌, ◌≤◌}
use Rattle.std.specs.Int.{from_bool}
use Rattle.std.specs.Slice.Iter.{chunks_exact_rest, chunks_exact_size}
use Rattle.diagram_table.specs.Cells.{uses_of}
use Rattle.net_uses.specs.FunctionTransitions.{pass_arcs}
use Rattle.net_uses.proofs.Underway.{Underway}
use Rattle.net_uses.proofs.FunctionRow.pass_arcs.Given as goal

abbrev pub invariant-loop-index : goal.invariant-loop-index
invariant-loop-index l =
    (chunks_exact_size l.index-iterator.iter ≡ 6)
    × (6 * l.index-iterator.count + length (chunks_exact_rest l.index-iterator.iter) ≤ length l.self.uses.now)
    × Underway (pass_arcs l.self.table.now l.self.rows l.kind l.self.row (from_bool l.copies) 0 (uses_of l.self.uses.now)) (pass_arcs l.self.table.now l.self.rows l.kind l.self.row (from_bool l.copies) l.index-iterator.count (uses_of (chunks_exact_rest l.index-iterator.iter))) l.initial.net l.net
