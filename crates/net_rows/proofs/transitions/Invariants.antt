use Rattle.net_records.specs.Writing.{Wrote, runs}
use Rattle.net_rows.specs.Rows.{row_records}
use Rattle.net_rows.proofs.transitions.Given as goal

abbrev pub invariant-loop-row : goal.invariant-loop-row
invariant-loop-row l = Wrote l.initial.net l.net (runs (row_records l.table l.file l.rows) l.row)
