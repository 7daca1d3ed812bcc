use Rattle.std.proofs.Common.{arith}
use Rattle.std.proofs.lemmas.Result.{err_from_is_err_and}
use Rattle.ranges.specs.Reasons.{number-some}
use Rattle.outlets.proofs.Passes.{outlets-read, outlets-refused}
use Rattle.outlets.proofs.read_outlets.Goals as goal

pub returns-in_err-judge : goal.returns-in_err-judge
returns-in_err-judge c =
    let e = c.in_err-judge.field-0.0 in
    let p = err_from_is_err_and c.from_residual.result c.from_residual.ensures.1 in
    rw (p.1, p.2) (outlets-refused c.args.rows c.args.table.now _ (omega arith) c.put_boxes.ensures _ c.in_err-judge.ensures (number-some e.reason))

pub returns : goal.returns
returns c = outlets-read c.args.rows c.args.table.now _ (omega arith) c.put_boxes.ensures _ c.in_ok-judge.ensures c.put_outlets.ensures
