use Rattle.std.proofs.Common.{arith, refl}
use Rattle.std.proofs.lemmas.Result.{err_from_is_err_and}
use Rattle.ranges.specs.Reasons.{number-some}
use Rattle.agreement.specs.ByteLaws.{bytes-are}
use Rattle.diagram_file.proofs.Promises.{length-refused, length-plain, length-copies}
use Rattle.diagram_file.proofs.read_into.Goals as goal

pub returns-in_err-judge : goal.returns-in_err-judge
returns-in_err-judge c =
    let e = c.in_err-judge.field-0.0 in
    let p = err_from_is_err_and c.from_residual.result c.from_residual.ensures.1 in
    rw (p.1, p.2) (length-refused c.in_err-judge.ensures (number-some e.reason))

pub returns-then-cell-eq0 : goal.returns-then-cell-eq0
returns-then-cell-eq0 c = length-plain c.in_ok-judge.ensures refl c.word-rows.ensures c.word-items.ensures c.cell.ensures c.if-cell-eq0.true

pub returns : goal.returns
returns c = length-copies c.in_ok-judge.ensures refl c.word-rows.ensures c.word-items.ensures (bytes-are c.args.file.now (λ i. omega (arith, c.type_inv.file i))) c.copy_total-copies.ensures
