use Rattle.std.proofs.Common.{sym, ap, ◌∙◌}
use Rattle.std.proofs.lemmas.Result.{err_from_is_err_and}
use Rattle.effbd.specs.Answers.{number, returning_zero, afterwards}
use Rattle.net_fresh.proofs.Freshness.{fresh-refused, fresh-length, fresh-is}
use Rattle.net_file.proofs.Answers.{read_of}
use Rattle.net_fresh.proofs.fresh.Goals as goal

pub returns-in_err-size : goal.returns-in_err-size
returns-in_err-size c = let a = c.args in
    let r = c.in_err-size.field-0.0 in
    let e = fresh-refused a.net.now a.state.now (number r.reason) r.value c.in_err-size.ensures in
    let p = err_from_is_err_and c.from_residual.result c.from_residual.ensures.1 in
    record { result_value = rw (p.1, p.2) (sym (ap returning_zero e)); state_after = sym (ap (afterwards a.state.now) e) }

pub returns-then-state-size : goal.returns-then-state-size
returns-then-state-size c = let a = c.args in
    let e = fresh-length a.net.now a.state.now c.in_ok-size.size (read_of a.net.now c.in_ok-size.size c.in_ok-size.ensures) c.if-state-size.true in
    record { result_value = sym (ap returning_zero e); state_after = sym (ap (afterwards a.state.now) e) }

pub returns : goal.returns
returns c = let a = c.args in
    let e = fresh-is a.net.now a.state.now c.in_ok-size.size c.word.result (read_of a.net.now c.in_ok-size.size c.in_ok-size.ensures) c.if-state-size.false c.word.ensures in
    record { result_value = sym (ap returning_zero e); state_after = c.fill.ensures ∙ sym (ap (afterwards a.state.now) e) }
