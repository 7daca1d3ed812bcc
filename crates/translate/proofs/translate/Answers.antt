use Rattle.std.proofs.Common.{arith, refl, sym, ◌∙◌}
use Rattle.std.proofs.lemmas.Result.{err_from_is_err_and}
use Rattle.agreement.specs.ByteLaws.{bytes-are}
use Rattle.copies.proofs.Plants.{plain_plant}
use Rattle.translate.proofs.AnswerAndArea.{turned-away, never-longer, plain-shorter}
use Rattle.translate.proofs.translate.Goals as goal

pub returns-in_err-diagram : goal.returns-in_err-diagram
returns-in_err-diagram c = let a = c.args in
    let e = turned-away a.file.now a.area.now c.in_err-diagram.field-0.0 c.in_err-diagram.ensures in
    let p = err_from_is_err_and c.from_residual.result c.from_residual.ensures.1 in
    record { result_value = rw (p.1, p.2) e.0; area_after = e.1 }

pub invariant_of-plain : goal.invariant_of-plain
invariant_of-plain c = record { bytes = bytes-are c.args.file.now (λ i. omega (arith, c.type_inv.file i)) }

pub write-requires : goal.write-requires
write-requires c = let p = c.in_ok-diagram.diagram in
    let file = c.args.file.now in
    let z = sym c.cell.ensures ∙ c.if-cell-eq0.true in
    let plant = plain_plant file p.rows p.items p.table c.in_ok-diagram.ensures.holds z in
    record { holds_plant = plant; len_bound = plain-shorter file p.rows p.items p.table plant (bytes-are file (λ i. omega (arith, c.type_inv.file i))) z }

pub invariant_of-copied : goal.invariant_of-copied
invariant_of-copied c = record { bytes = bytes-are c.args.file.now (λ i. omega (arith, c.type_inv.file i)) }

pub write-requires-2 : goal.write-requires-2
write-requires-2 c = let p = c.in_ok-diagram.diagram in
    let file = c.args.file.now in
    let table = c.widen.new.wide in
    let plant = (c.widen.ensures.of refl).plant c.in_ok-diagram.ensures.holds in
    let bound = never-longer file p.rows p.items table plant (bytes-are file (λ i. omega (arith, c.type_inv.file i))) in
    record { holds_plant = plant; len_bound = omega (arith, bound, c.longest.ensures) }
