use Rattle.net_records.proofs.Writing.{◌and_then◌}
use Rattle.net_rows.specs.Rows.{token}
use Rattle.net_rows.proofs.token.Goals as goal

pub returns : goal.returns
unfolding token
returns c = c.transition.ensures and_then c.arc.ensures and_then c.arc-2.ensures
