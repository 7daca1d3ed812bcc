use Rattle.std.proofs.Common.{ne_eqb}
use Rattle.net_rows.specs.Rows.{branch_token, or_token}
use Rattle.net_records.proofs.Writing.{still, no}
use Rattle.net_rows.proofs.branch.Goals as goal

pub returns-else-kind-eq-OR_OPEN : goal.returns-else-kind-eq-OR_OPEN
unfolding branch_token or_token
returns-else-kind-eq-OR_OPEN c = rw (← c.cell-opened.ensures, ← c.kind.ensures) (no _ (ne_eqb _ _ c.if-kind-eq-OR_OPEN.false) (still _))
