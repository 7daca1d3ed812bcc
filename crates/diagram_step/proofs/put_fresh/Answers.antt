use Rattle.table_move.proofs.Answered.{told-accepted, told-refused}
use Rattle.diagram_step.proofs.Plants.{placed-else, placed-whole}
use Rattle.diagram_step.proofs.put_fresh.Goals as goal

pub returns-then-state-fresh : goal.returns-then-state-fresh
returns-then-state-fresh c = let a = c.args in let h = told-refused a.state.now 20 0 _ (placed-else a.fresh.now a.state.now c.if-state-fresh.true) in
    record { result_value = h.0; state_after = h.1 }

pub returns : goal.returns
returns c = let a = c.args in let h = told-accepted a.state.now _ _ (placed-whole a.fresh.now a.state.now c.if-state-fresh.false c.copy.ensures) in
    record { result_value = h.0; state_after = h.1 }
