use Rattle.std.proofs.Common.{eq-eqb, ne_eqb, sym, ◌∙◌}
use Rattle.net_records.proofs.Writing.{still, yes, no}
use Rattle.net_uses.specs.FunctionTransitions.{use_arc}
use Rattle.net_uses.proofs.FunctionRow.use_arc.Goals as goal

pub returns-then-cell-copies : goal.returns-then-cell-copies
unfolding use_arc
returns-then-cell-copies c = no _ (ne_eqb _ _ (λ e. c.if-cell-copies.true (c.cell.ensures ∙ e))) (still _)

pub returns-then-copies : goal.returns-then-copies
unfolding use_arc
returns-then-copies c = yes _ (eq-eqb _ _ (sym c.cell.ensures ∙ c.if-cell-copies.false)) (rw c.if-copies.true c.copy_arcs.ensures)

pub returns-else-copies : goal.returns-else-copies
unfolding use_arc
returns-else-copies c = yes _ (eq-eqb _ _ (sym c.cell.ensures ∙ c.if-cell-copies.false)) (rw c.if-copies.false c.arc.ensures)
