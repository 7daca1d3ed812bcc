use Rattle.std.proofs.Common.{arith, eq-eqb, ne_eqb, sym, ◌∙◌}
use Rattle.net_records.proofs.Writing.{still, yes, no, runs-start, again, runs-done}
use Rattle.net_counts.specs.Marks.{copies_marks}
use Rattle.net_counts.proofs.of_copies.Goals as goal

pub returns-then-cell-eq0 : goal.returns-then-cell-eq0
unfolding copies_marks
returns-then-cell-eq0 c = yes _ (eq-eqb _ _ (sym c.cell.ensures ∙ c.if-cell-eq0.true)) (still _)

pub loop-item-init : goal.loop-item-init
loop-item-init c = runs-start _ _

pub loop-item-preserved : goal.loop-item-preserved
loop-item-preserved c = again _ _ c.loop-item.invariant c.copy_marks.ensures

pub returns : goal.returns
unfolding copies_marks
returns c = no _ (ne_eqb _ _ (λ e. c.if-cell-eq0.false (c.cell.ensures ∙ e))) (runs-done _ _ _ (omega arith) c.loop-item.invariant)
