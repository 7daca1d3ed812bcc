use Rattle.std.proofs.Common.{refl, sym, arith}
use Rattle.std.proofs.Math.Seq.{length-take-le}
use Rattle.agreement.specs.ByteLaws.{bytes-are}
use Rattle.diagram_step.proofs.Plants.{wide_room, wide-words}
use Rattle.starts.proofs.starts_with_copies.Goals as goal

pub slice_bounds-state-end : goal.slice_bounds-state-end
slice_bounds-state-end c = let a = c.args in let d = a.diagram in let w = c.widen in
    wide_room a.file.now d.rows d.items d.table c.requires (bytes-are a.file.now (λ i. omega (arith, c.type_inv.file i))) w.new.wide (w.ensures.of refl)
    c.fresh-plain.result c.fresh_state-state.result c.fresh-plain.ensures c.fresh_state-state.ensures c.count_total.ensures

pub slice_bounds-starts_on-end : goal.slice_bounds-starts_on-end
slice_bounds-starts_on-end c = let a = c.args in let d = a.diagram in let w = c.widen in
    sym (length-take-le _ _ (wide_room a.file.now d.rows d.items d.table c.requires (bytes-are a.file.now (λ i. omega (arith, c.type_inv.file i))) w.new.wide (w.ensures.of refl)
    c.fresh-plain.result c.fresh_state-state.result c.fresh-plain.ensures c.fresh_state-state.ensures c.count_total.ensures))

pub starts_on-requires : goal.starts_on-requires
starts_on-requires c = let a = c.args in let d = a.diagram in let w = c.widen in
    let bytes = bytes-are a.file.now (λ i. omega (arith, c.type_inv.file i)) in
    let fresh = wide-words a.file.now d.rows d.items d.table c.requires bytes w.new.wide (w.ensures.of refl)
    c.fresh-plain.result c.fresh_state-state.result c.fresh-plain.ensures c.fresh_state-state.ensures c.count_total.ensures in
    record { bytes = bytes; fresh = record { plant = (w.ensures.of refl).plant c.requires; fresh = fresh } }
