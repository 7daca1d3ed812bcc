use Rattle.net_records.specs.Writing.{Wrote, runs}
use Rattle.net_marks.specs.Marks.{row_marks}
use Rattle.net_marks.proofs.of_rows.Given as goal

abbrev pub invariant-loop-row : goal.invariant-loop-row
invariant-loop-row l = Wrote l.initial.net l.net (runs (row_marks l.table l.first) l.row)
