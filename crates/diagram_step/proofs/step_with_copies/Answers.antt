use Rattle.std.proofs.Common.{refl, sym, arith}
use Rattle.agreement.specs.ByteLaws.{bytes-are}
use Rattle.diagram_step.proofs.Answered.{check-passed, check-failed, counted-check}
use Rattle.diagram_step.proofs.step_with_copies.Goals as goal

pub slice_bounds-plant-end : goal.slice_bounds-plant-end
slice_bounds-plant-end c = sym c.widen.ensures.long

pub slice_bounds-count_total-end : goal.slice_bounds-count_total-end
slice_bounds-count_total-end c = sym c.widen.ensures.long

pub returns-then-state_allowed : goal.returns-then-state_allowed
returns-then-state_allowed c = let a = c.args in let d = a.diagram.now in let t = c.widen.new.wide in let e = c.make_move.ensures in
    let h = check-passed a.file.now d.rows d.items t a.state.now a.code a.argument ((c.widen.ensures.of refl).plant c.requires)
    (bytes-are a.file.now (λ i. omega (arith, c.type_inv.file i))) (record { small = λ i. omega (arith, c.slice_known-1.given i) })
    (counted-check t d.rows d.items a.state.now c.count_total-counts.ensures c.state_allowed.ensures) c.if-state_allowed.true (e.result_value, e.state_after) in
    record { result_value = h.0; state_after = h.1 }

pub returns : goal.returns
returns c = let a = c.args in let d = a.diagram.now in let t = c.widen.new.wide in
    let h = check-failed a.file.now d.rows d.items t a.state.now a.code a.argument ((c.widen.ensures.of refl).plant c.requires)
    (bytes-are a.file.now (λ i. omega (arith, c.type_inv.file i))) (record { small = λ i. omega (arith, c.slice_known-1.given i) })
    (counted-check t d.rows d.items a.state.now c.count_total-counts.ensures c.state_allowed.ensures) c.if-state_allowed.false in
    record { result_value = h.0; state_after = h.1 }
