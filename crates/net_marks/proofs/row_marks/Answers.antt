use Rattle.net_records.proofs.Writing.{◌and_then◌}
use Rattle.net_marks.specs.Marks.{row_marks}
use Rattle.net_marks.proofs.row_marks.Goals as goal

pub returns : goal.returns
unfolding row_marks
returns c = rw (← c.first_mark.ensures, ← c.remaining.ensures) (c.mark.ensures and_then c.mark-2.ensures and_then c.mark-3.ensures)
