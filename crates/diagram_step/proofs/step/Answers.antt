use Rattle.std.proofs.lemmas.Result.{err_from_is_err_and}
use Rattle.diagram_step.proofs.Answered.{step-turned}
use Rattle.diagram_step.proofs.step.Goals as goal

pub returns-in_err-diagram : goal.returns-in_err-diagram
returns-in_err-diagram c = let a = c.args in
    let p = err_from_is_err_and c.from_residual.result c.from_residual.ensures.1 in
    let h = step-turned a.file.now a.state.now c.in_err-diagram.field-0.0 c.in_err-diagram.ensures a.code a.argument in
    record { result_value = rw (p.1, p.2) h.0; state_after = h.1 }
