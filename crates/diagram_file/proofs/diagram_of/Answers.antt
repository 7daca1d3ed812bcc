use Rattle.std.proofs.lemmas.Result.{err_from_is_err_and}
use Rattle.diagram_file.proofs.Promises.{parsed-refused, parsed-is}
use Rattle.diagram_file.proofs.diagram_of.Goals as goal

pub returns-in_err-fill : goal.returns-in_err-fill
returns-in_err-fill c =
    let e = c.in_err-fill.field-0.0 in
    let p = err_from_is_err_and c.from_residual.result c.from_residual.ensures.1 in
    rw (p.1, p.2) (parsed-refused c.args.file.now _ e c.in_err-fill.ensures)

pub returns : goal.returns
returns c = parsed-is c.args.file.now _ c.word.result c.word-2.result c.in_ok-fill.ensures c.word.ensures c.word-2.ensures
