use Rattle.std.proofs.Common.{◌∙◌}
use Rattle.std.proofs.lemmas.Result.{err_from_is_err_and}
use Rattle.table_move.proofs.Answered.{answered-as}
use Rattle.diagram_step.proofs.Plants.{plain-room, plain-placed, placed-cut}
use Rattle.diagram_step.proofs.Answered.{fresh-turned}
use Rattle.diagram_step.proofs.fresh.Goals as goal

pub returns-in_err-diagram : goal.returns-in_err-diagram
returns-in_err-diagram c = let a = c.args in
    let p = err_from_is_err_and c.from_residual.result c.from_residual.ensures.1 in
    let h = fresh-turned a.file.now a.state.now c.in_err-diagram.field-0.0 c.in_err-diagram.ensures in
    record { result_value = rw (p.1, p.2) h.0; state_after = h.1 }

pub fresh_with_copies-requires : goal.fresh_with_copies-requires
fresh_with_copies-requires c = c.in_ok-diagram.ensures.holds

pub slice_bounds-put_fresh-end : goal.slice_bounds-put_fresh-end
slice_bounds-put_fresh-end c = let d = c.in_ok-diagram.diagram in
    plain-room c.args.file.now d.rows d.items d.table c.in_ok-diagram.ensures.holds c.cell.ensures c.if-cell-ne0.false c.fresh.result c.fresh.ensures

pub returns : goal.returns
returns c = let a = c.args in let d = c.in_ok-diagram.diagram in let e = c.put_fresh.ensures in let h = c.in_ok-diagram.ensures.holds in
    let room = plain-room a.file.now d.rows d.items d.table h c.cell.ensures c.if-cell-ne0.false c.fresh.result c.fresh.ensures in
    let placed = placed-cut _ _ a.state.now room ∙ plain-placed a.file.now d.rows d.items d.table h c.cell.ensures c.if-cell-ne0.false c.fresh.result a.state.now c.fresh.ensures in
    let h = answered-as _ _ _ _ _ (e.result_value, e.state_after) placed in
    record { result_value = h.0; state_after = h.1 }
