use Rattle.net_records.proofs.Writing.{◌and_then◌}
use Rattle.net_rows.specs.Rows.{and_open_records}
use Rattle.net_rows.proofs.and_open.Goals as goal

pub returns : goal.returns
unfolding and_open_records
returns c = c.transition.ensures and_then c.arc.ensures and_then c.branch_arcs.ensures
