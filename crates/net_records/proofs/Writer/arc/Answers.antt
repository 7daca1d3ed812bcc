use Rattle.std.proofs.Common.{eq-eqb}
use Rattle.net_records.specs.Records.{arc}
use Rattle.net_records.proofs.Writing.{still, yes}
use Rattle.net_records.proofs.Writer.arc.Goals as goal

pub returns-then-weight-eq0 : goal.returns-then-weight-eq0
unfolding arc
returns-then-weight-eq0 c = yes _ (eq-eqb _ _ c.if-weight-eq0.true) (still _)
