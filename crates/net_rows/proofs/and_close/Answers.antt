use Rattle.net_records.proofs.Writing.{◌and_then◌}
use Rattle.net_rows.specs.Rows.{and_close_records}
use Rattle.net_rows.proofs.and_close.Goals as goal

pub returns : goal.returns
unfolding and_close_records
returns c = rw (← c.cell-opened.ensures) (c.transition.ensures and_then c.branch_arcs.ensures and_then c.enter.ensures)
