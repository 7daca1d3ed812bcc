use Rattle.std.specs.Prelude.{not}
use Rattle.std.proofs.Common.{arith, sym, ◌∙◌, ap}
use Rattle.ranges.specs.RangeLaws.{all-fail}
use Rattle.diagram_moves.specs.Decisions.{row_free}
use Rattle.diagram_moves.proofs.BusyRows.{busy-next, free-past}
use Rattle.diagram_moves.proofs.RowStores.{all_more}
use Rattle.diagram_decide.proofs.waits.unheld.Goals as goal

pub returns-then-row_holds : goal.returns-then-row_holds
unfolding row_free
returns-then-row_holds c = let a = c.args in let p = a.plant.now in
    sym (all-fail p.rows (row_free p.table.now p.rows p.items p.file.now a.state.now a.ticks) c.in-Some.row c.in-Some.ensures.below (ap not (sym c.row_holds.ensures ∙ c.if-row_holds.true)))

pub loop-row-smaller : goal.loop-row-smaller
loop-row-smaller c = let m = busy-next c.args.state.now c.loop-row.from c.args.plant.now.rows c.in-Some.row c.loop-row.invariant.within c.in-Some.ensures.value in
    let low = m.1.low in omega (arith, c.in-Some.ensures.below)

pub loop-row-preserved : goal.loop-row-preserved
unfolding row_free
loop-row-preserved c = let a = c.args in let p = a.plant.now in let l = c.loop-row in
    let m = busy-next a.state.now l.from p.rows c.in-Some.row l.invariant.within c.in-Some.ensures.value in
    record {
      within = omega (arith, c.in-Some.ensures.below);
      free = all_more (row_free p.table.now p.rows p.items p.file.now a.state.now a.ticks) c.in-Some.row
          (free-past p.table.now p.rows p.items p.file.now a.state.now a.ticks l.from c.in-Some.row l.invariant.free m.1) (ap not (sym c.row_holds.ensures ∙ c.if-row_holds.false));
    }

pub returns : goal.returns
returns c = let a = c.args in let p = a.plant.now in let l = c.loop-row in
    let m = busy-next a.state.now l.from p.rows p.rows l.invariant.within c.in_default.ensures.value in
    sym (free-past p.table.now p.rows p.items p.file.now a.state.now a.ticks l.from p.rows l.invariant.free m.1)
