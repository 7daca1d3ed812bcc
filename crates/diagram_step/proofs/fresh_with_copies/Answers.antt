use Rattle.std.proofs.Common.{arith, refl, sym, ◌∙◌}
use Rattle.std.proofs.Math.Seq.{length-take-le}
use Rattle.agreement.specs.ByteLaws.{bytes-are}
use Rattle.table_move.proofs.Answered.{answered-as}
use Rattle.diagram_step.proofs.Plants.{wide_room, wide-placed, placed-cut}
use Rattle.diagram_step.proofs.fresh_with_copies.Goals as goal

pub slice_bounds-count_total-end : goal.slice_bounds-count_total-end
slice_bounds-count_total-end c = sym c.widen.ensures.long

pub slice_bounds-fresh_state-end-2 : goal.slice_bounds-fresh_state-end-2
slice_bounds-fresh_state-end-2 c = sym c.widen.ensures.long

pub slice_bounds-fresh-end : goal.slice_bounds-fresh-end
slice_bounds-fresh-end c = let a = c.args in let d = a.diagram in let w = c.widen in
    wide_room a.file.now d.rows d.items d.table c.requires (bytes-are a.file.now (λ i. omega (arith, c.type_inv.file i))) w.new.wide (w.ensures.of refl)
    c.fresh-plain.result c.fresh_state-fresh.result c.fresh-plain.ensures c.fresh_state-fresh.ensures c.count_total.ensures

pub slice_bounds-put_fresh-end : goal.slice_bounds-put_fresh-end
slice_bounds-put_fresh-end c = let a = c.args in let d = a.diagram in let w = c.widen in
    sym (length-take-le _ _ (wide_room a.file.now d.rows d.items d.table c.requires (bytes-are a.file.now (λ i. omega (arith, c.type_inv.file i))) w.new.wide (w.ensures.of refl)
    c.fresh-plain.result c.fresh_state-fresh.result c.fresh-plain.ensures c.fresh_state-fresh.ensures c.count_total.ensures))

pub returns : goal.returns
returns c = let a = c.args in let d = a.diagram in let w = c.widen in let e = c.put_fresh.ensures in
    let bytes = bytes-are a.file.now (λ i. omega (arith, c.type_inv.file i)) in
    let wide = w.ensures.of refl in
    let room = wide_room a.file.now d.rows d.items d.table c.requires bytes w.new.wide wide c.fresh-plain.result c.fresh_state-fresh.result c.fresh-plain.ensures c.fresh_state-fresh.ensures c.count_total.ensures in
    let placed = placed-cut _ _ a.state.now room ∙ wide-placed a.file.now d.rows d.items d.table c.requires bytes w.new.wide wide
    c.fresh-plain.result c.fresh_state-fresh.result a.state.now c.fresh-plain.ensures c.fresh_state-fresh.ensures c.count_total.ensures in
    let h = answered-as _ _ _ _ _ (e.result_value, e.state_after) placed in
    record { result_value = h.0; state_after = h.1 }
