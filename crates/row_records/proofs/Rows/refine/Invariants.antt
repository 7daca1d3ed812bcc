use Rattle.row_records.specs.Rows.{Reading, table_fault}
use Rattle.row_records.proofs.Rows.refine.Given as goal

abbrev pub invariant-loop : goal.invariant-loop
invariant-loop l = Reading (table_fault l.self.items l.table) l.self.from l.self.lines.now l.counter l.rest l.at
