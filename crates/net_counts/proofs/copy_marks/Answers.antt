use Rattle.std.proofs.Common.{eq-eqb, sym, ◌∙◌}
use Rattle.net_records.proofs.Writing.{still, yes}
use Rattle.net_counts.specs.Marks.{copy_marks}
use Rattle.net_counts.proofs.copy_marks.Goals as goal

pub returns-then-cell-eq0 : goal.returns-then-cell-eq0
unfolding copy_marks
returns-then-cell-eq0 c = yes _ (eq-eqb _ _ (sym c.cell.ensures ∙ c.if-cell-eq0.true)) (still _)
