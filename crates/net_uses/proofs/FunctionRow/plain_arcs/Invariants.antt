use Rattle.std.proofs.Common.{◌≡◌}
use Rattle.std.specs.Slice.Iter.{chunks_exact_rest, chunks_exact_size}
use Rattle.diagram_table.specs.Cells.{uses_of}
use Rattle.net_uses.specs.FunctionTransitions.{plain_arcs}
use Rattle.net_uses.proofs.Underway.{Underway}
use Rattle.net_uses.proofs.FunctionRow.plain_arcs.Given as goal

abbrev pub invariant-loop-part : goal.invariant-loop-part
invariant-loop-part l =
    (chunks_exact_size l.part-iterator ≡ 6)
    × Underway (plain_arcs l.self.rows l.kind (uses_of l.self.uses.now)) (plain_arcs l.self.rows l.kind (uses_of (chunks_exact_rest l.part-iterator))) l.initial.net l.net
