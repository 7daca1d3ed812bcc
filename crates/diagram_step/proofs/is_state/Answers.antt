use Rattle.std.proofs.Common.{arith}
use Rattle.agreement.specs.ByteLaws.{bytes-are}
use Rattle.diagram_step.proofs.Transitions.{plain-checked, copies-checked}
use Rattle.diagram_step.proofs.is_state.Goals as goal

pub returns-then-cell-eq0 : goal.returns-then-cell-eq0
returns-then-cell-eq0 c = let a = c.args in let d = a.diagram.now in plain-checked a.file.now a.state.now d.rows d.items d.table c.requires c.cell.ensures c.if-cell-eq0.true c.rows_allowed.ensures

pub returns : goal.returns
returns c = let a = c.args in let d = a.diagram.now in
    copies-checked a.file.now a.state.now d.rows d.items d.table c.requires (bytes-are a.file.now (λ i. omega (arith, c.type_inv.file i))) c.copy_total-copies.ensures c.state_allowed.ensures
