use Rattle.std.proofs.Common.{arith}
use Rattle.diagram_moves.proofs.BusyRows.{busy-next, tick-past}
use Rattle.diagram_moves.proofs.RowStores.{fold_more}
use Rattle.diagram_moves.specs.Changes.{tick_turn}
use Rattle.diagram_counts.proofs.pass_ticks.Goals as goal

pub loop-row-smaller : goal.loop-row-smaller
loop-row-smaller c = let m = busy-next c.loop-row.state c.loop-row.from c.args.rows c.in-Some.row c.loop-row.invariant.within c.in-Some.ensures.value in
    let low = m.1.low in omega (arith, c.in-Some.ensures.below)

pub loop-row-preserved : goal.loop-row-preserved
loop-row-preserved c = let a = c.args in let l = c.loop-row in
    let m = busy-next l.state l.from a.rows c.in-Some.row l.invariant.within c.in-Some.ensures.value in
    record {
      within = omega (arith, c.in-Some.ensures.below);
      passed = fold_more (tick_turn a.ticks) c.in-Some.row a.state.now l.state _ (tick-past a.ticks l.from c.in-Some.row a.state.now l.state l.invariant.passed m.1) c.tick_row.ensures;
    }

pub returns : goal.returns
returns c = let a = c.args in let l = c.loop-row in
    let m = busy-next l.state l.from a.rows a.rows l.invariant.within c.in_default.ensures.value in
    tick-past a.ticks l.from a.rows a.state.now l.state l.invariant.passed m.1
