use Rattle.std.proofs.Common.{refl, arith}
use Rattle.agreement.specs.ByteLaws.{bytes-are}
use Rattle.diagram_step.proofs.Plants.{plain-table}
use Rattle.diagram_step.proofs.Answered.{check-passed, check-failed, plain-check}
use Rattle.diagram_step.proofs.step_plain.Goals as goal

pub returns-then-rows_allowed : goal.returns-then-rows_allowed
returns-then-rows_allowed c = let a = c.args in let d = a.diagram.now in let e = c.make_move.ensures in
    let h = check-passed a.file.now d.rows d.items d.table a.state.now a.code a.argument (plain-table a.file.now d.rows d.items d.table c.requires.holds refl c.requires.plain)
    (bytes-are a.file.now (λ i. omega (arith, c.type_inv.file i))) (record { small = λ i. omega (arith, c.slice_known-1.given i) })
    (plain-check d.table d.rows d.items a.state.now c.requires.plain c.rows_allowed.ensures) c.if-rows_allowed.true (e.result_value, e.state_after) in
    record { result_value = h.0; state_after = h.1 }

pub returns : goal.returns
returns c = let a = c.args in let d = a.diagram.now in
    let h = check-failed a.file.now d.rows d.items d.table a.state.now a.code a.argument (plain-table a.file.now d.rows d.items d.table c.requires.holds refl c.requires.plain)
    (bytes-are a.file.now (λ i. omega (arith, c.type_inv.file i))) (record { small = λ i. omega (arith, c.slice_known-1.given i) })
    (plain-check d.table d.rows d.items a.state.now c.requires.plain c.rows_allowed.ensures) c.if-rows_allowed.false in
    record { result_value = h.0; state_after = h.1 }
