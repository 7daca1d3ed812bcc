use Rattle.std.proofs.Common.{◌∙◌}
use Rattle.std.proofs.lemmas.Result.{err_from_is_err_and}
use Rattle.diagram_step.proofs.Answered.{transition-turned}
use Rattle.diagram_step.proofs.Transitions.{state-passed, state-off}
use Rattle.diagram_step.proofs.transition.Goals as goal

pub returns-in_err-diagram : goal.returns-in_err-diagram
returns-in_err-diagram c = let a = c.args in
    let p = err_from_is_err_and c.from_residual.result c.from_residual.ensures.1 in
    rw (p.1, p.2) (transition-turned a.file.now a.state.now c.in_err-diagram.field-0.0 c.in_err-diagram.ensures a.row)

pub is_state-requires : goal.is_state-requires
is_state-requires c = c.in_ok-diagram.ensures.holds

pub returns-then-is_state : goal.returns-then-is_state
returns-then-is_state c = let a = c.args in let d = c.in_ok-diagram.diagram in
    c.function_number.ensures ∙ state-passed a.file.now d.rows d.items d.table c.in_ok-diagram.ensures.holds a.state.now a.row c.is_state.ensures c.if-is_state.true

pub returns : goal.returns
returns c = let a = c.args in let d = c.in_ok-diagram.diagram in
    state-off a.file.now d.rows d.items d.table c.in_ok-diagram.ensures.holds a.state.now a.row c.is_state.ensures c.if-is_state.false
