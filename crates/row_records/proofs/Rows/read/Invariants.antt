use Rattle.std.proofs.Common.{◌≡◌, ◌-◌}
use Rattle.row_records.specs.Rows.{RowsState, rows_laid}
use Rattle.row_records.proofs.Rows.read.Given as goal

abbrev pub invariant-loop-row : goal.invariant-loop-row
invariant-loop-row l = RowsState l.self.from l.self.lines.now l.self.items l.row l.rest l.at l.initial.table l.table × (rows_laid l.self.items l.row l.at (l.self.count - l.row) l.rest l.table ≡ rows_laid l.self.items 0 l.self.from l.self.count l.self.lines.now l.initial.table)
