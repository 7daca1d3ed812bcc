use Rattle.std.proofs.Common.{ap, ◌∙◌, List, ℕ}
use Rattle.std.specs.Slice.Iter.{chunks_exact_rest, chunks_exact_size}
use Rattle.diagram_table.specs.Cells.{uses_of}
use Rattle.net_uses.specs.FunctionTransitions.{plain_arcs}
use Rattle.net_uses.proofs.UseArcs.{plain_turn, plain-ended}
use Rattle.net_uses.proofs.Underway.{begun, further, finished}
use Rattle.net_uses.proofs.FunctionRow.plain_arcs.Goals as goal

pub loop-part-init : goal.loop-part-init
loop-part-init c = let a = c.args in
    let chunks = c.chunks_exact-part-items.ensures in
    let same = c.into_iter-part-iterator.ensures.into_iter_gives in
    (ap chunks_exact_size same ∙ chunks.size, begun _ (ap (λ (l : List ℕ). plain_arcs a.self.now.rows a.kind (uses_of l)) (ap chunks_exact_rest same ∙ chunks.rest)))

pub loop-part-preserved : goal.loop-part-preserved
loop-part-preserved c = let a = c.args in
    let l = c.loop-part in
    let steps = c.in-Some.ensures.steps in (
      steps.0 ∙ l.invariant.0,
      further (plain_turn a.self.now.rows a.kind _ c.in-Some.part.now _ c.word-item.result c.weight_at-field.result c.word-weight.result steps.1.0 (steps.1.1 ∙ l.invariant.0) c.word-item.ensures c.weight_at-field.ensures c.word-weight.ensures) l.invariant.1 c.arc.ensures,
    )

pub returns : goal.returns
returns c = let l = c.loop-part in
    let steps = c.in-None.ensures.steps in
    finished (plain-ended c.args.self.now.rows c.args.kind _ (rw l.invariant.0 at steps.1.0)) l.invariant.1
