use Rattle.std.proofs.Common.{◌∙◌, ne_eqb}
use Rattle.net_clears.specs.Clearing.{restore}
use Rattle.net_records.proofs.Writing.{still, no}
use Rattle.net_clears.proofs.restore.Goals as goal

pub returns-else-kind-eq-IT_OPEN : goal.returns-else-kind-eq-IT_OPEN
unfolding restore
returns-else-kind-eq-IT_OPEN c = no _ (ne_eqb _ _ (λ e. c.if-kind-eq-IT_OPEN.false (c.kind.ensures ∙ e))) (still _)
