use Rattle.net_records.proofs.Writing.{◌and_then◌}
use Rattle.net_rows.specs.Rows.{or_close_records}
use Rattle.net_rows.proofs.or_close.Goals as goal

pub returns : goal.returns
unfolding or_close_records
returns c = c.transition.ensures and_then c.arc.ensures and_then c.enter.ensures
