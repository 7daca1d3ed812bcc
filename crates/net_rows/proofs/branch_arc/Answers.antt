use Rattle.std.proofs.Common.{sym, ◌∙◌}
use Rattle.net_rows.specs.Rows.{branch_arc}
use Rattle.net_records.proofs.Writing.{still, no}
use Rattle.net_rows.proofs.branch_arc.Goals as goal

pub returns-else-is_branch : goal.returns-else-is_branch
unfolding branch_arc
returns-else-is_branch c = no _ (sym c.is_branch.ensures ∙ c.if-is_branch.false) (still _)
