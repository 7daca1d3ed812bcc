use Rattle.std.proofs.Common.{arith, refl}
use Rattle.std.proofs.lemmas.Result.{err_from_is_err_and}
use Rattle.ranges.specs.Reasons.{number-some}
use Rattle.diagram_file.proofs.Promises.{refused-records, refused-nesting, ready, judged-rules}
use Rattle.diagram_file.proofs.judge.Goals as goal

pub overflow_cast-result : goal.overflow_cast-result
overflow_cast-result c = let h = (c.in-Err.ensures.of c.requires).near in omega (arith, h)

pub returns-in-Err : goal.returns-in-Err
returns-in-Err c = refused-records (c.in-Err.ensures.of c.requires) (number-some c.in-Err.fault.reason)

pub returns-in_err-read_nesting : goal.returns-in_err-read_nesting
returns-in_err-read_nesting c =
    let e = c.in_err-read_nesting.field-0.0 in
    let p = err_from_is_err_and c.from_residual.result c.from_residual.ensures.1 in
    rw (p.1, p.2) (refused-nesting ((c.in_default.ensures.of c.requires).tabled refl) c.word-rows.ensures c.in_err-read_nesting.ensures (number-some e.reason))

pub returns : goal.returns
returns c = let t = (c.in_default.ensures.of c.requires).tabled refl in let e = c.word-rows.ensures in
    judged-rules t e (ready t e c.in_ok-read_nesting.ensures refl (omega (arith, c.requires))) c.read_rules.ensures
