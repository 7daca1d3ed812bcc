use Rattle.std.proofs.Common.{ap, ap₂, ◌∙◌, List, ℕ, arith, length, length-append}
use Rattle.std.specs.Int.{from_bool}
use Rattle.std.specs.Iterator.Adapters.{enumerate_source, enumerate_count}
use Rattle.std.specs.Slice.Iter.{chunks_exact_rest, chunks_exact_size}
use Rattle.diagram_table.specs.Cells.{uses_of}
use Rattle.net_uses.specs.FunctionTransitions.{pass_arcs}
use Rattle.net_uses.proofs.UseArcs.{use-turn, uses-ended}
use Rattle.net_uses.proofs.Underway.{begun, further, finished}
use Rattle.net_uses.proofs.FunctionRow.pass_arcs.Goals as goal

pub loop-index-init : goal.loop-index-init
loop-index-init c = let a = c.args in
    let chunks = c.chunks_exact.ensures in
    let same = c.into_iter-index-iterator.ensures.into_iter_gives in
    let source = ap enumerate_source same ∙ c.enumerate-index-items.ensures.source in
    let count = ap enumerate_count same ∙ c.enumerate-index-items.ensures.count in
    let rest = ap chunks_exact_rest source ∙ chunks.rest in (
      ap chunks_exact_size source ∙ chunks.size,
      omega (arith, count, ap length rest),
      begun _ (ap₂ (λ (j : ℕ) (l : List ℕ). pass_arcs a.self.now.table.now a.self.now.rows a.kind a.self.now.row (from_bool a.copies) j (uses_of l)) count rest),
    )

pub loop-index-preserved : goal.loop-index-preserved
loop-index-preserved c = let a = c.args in
    let l = c.loop-index in
    let steps = c.in-Some.ensures.steps in
    let size = steps.0.1.1 ∙ l.invariant.0 in (
      steps.0.0 ∙ l.invariant.0,
      omega (arith, steps.2, l.invariant.1, size, ap length steps.0.1.0, length-append c.in-Some.part.now (chunks_exact_rest c.next.new.self.iter)),
      rw steps.2 (further (use-turn a.self.now.table.now a.self.now.rows a.kind a.self.now.row (from_bool a.copies) _ _ c.in-Some.part.now _ c.word-item.result c.weight_at-field.result c.word-weight.result steps.0.1.0 size c.word-item.ensures c.weight_at-field.ensures c.word-weight.ensures) l.invariant.2 (rw steps.1 at c.use_arc.ensures)),
    )

pub returns : goal.returns
returns c = let a = c.args in
    let l = c.loop-index in
    let steps = c.in-None.ensures.steps in
    finished (uses-ended a.self.now.table.now a.self.now.rows a.kind a.self.now.row (from_bool a.copies) _ _ (rw l.invariant.0 at steps.0.1.0)) l.invariant.2
