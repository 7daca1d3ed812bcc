use Rattle.std.proofs.lemmas.Result.{err_from_is_err_and}
use Rattle.nesting.proofs.Walks.{no_rows, all-over, all-judged, never-ended}
use Rattle.nesting.proofs.read_nesting.Goals as goal

pub returns-then-rows-eq0 : goal.returns-then-rows-eq0
returns-then-rows-eq0 c = let a = c.args in no_rows a.table.now a.rows c.if-rows-eq0.true

pub returns-in-Judged : goal.returns-in-Judged
returns-in-Judged c = let a = c.args in
    all-judged a.table.now a.rows c.read_run.result c.read_run.ensures (cc (c.in_ok-read_run.was, c.in-Judged.is))

pub returns-in_err-read_run : goal.returns-in_err-read_run
returns-in_err-read_run c =
    let a = c.args in
    let p = err_from_is_err_and c.from_residual.result c.from_residual.ensures.1 in
    rw (p.1, p.2) (all-over a.table.now a.rows c.read_run.result c.read_run.ensures c.in_err-read_run.field-0.0 c.in_err-read_run.was)

pub returns-in-Turned : goal.returns-in-Turned
returns-in-Turned c = let a = c.args in
    never-ended a.table.now a.rows c.read_run.result c.read_run.ensures c.in_ok-read_run.field-0 c.in-Turned.row c.in_ok-read_run.was c.in-Turned.is
