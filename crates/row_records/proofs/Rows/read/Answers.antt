use Rattle.std.proofs.Common.{refl, sym, ◌∙◌, arith}
use Rattle.effbd.specs.Answers.{number}
use Rattle.ranges.specs.Reasons.{number-some}
use Rattle.row_records.specs.Rows.{reached}
use Rattle.row_records.proofs.RowsLaid.{rows-due, row_laid, rows-laid-stop, rows-laid}
use Rattle.row_records.proofs.RowsRead.{rows_start, rows-turn, rows-stop, rows_end}
use Rattle.row_records.proofs.Rows.read.Goals as goal

pub loop-row-init : goal.loop-row-init
loop-row-init c = let a = c.args in let s = a.self.now in (rows_start s.from s.lines.now s.items a.table.now c.requires, rows-due s.items s.from s.count s.lines.now a.table.now)

pub returns-in-Some : goal.returns-in-Some
returns-in-Some c = let l = c.loop-row in let a = c.args in let s = a.self.now in let reason = c.in-Some.reason in record {
  rows_read = rows-stop s.from s.lines.now s.items l.row l.at l.rest.now a.table.now l.table l.invariant.0 s.count (number reason) c.loop-row-test.true c.in-Some.ensures (number-some reason);
  table_after = rows-laid-stop s.items l.row l.at s.count l.rest.now l.table c.loop-row-test.true c.in-Some.ensures (number-some reason) ∙ l.invariant.1;
}

pub loop-row-preserved : goal.loop-row-preserved
loop-row-preserved c = let l = c.loop-row in let a = c.args in let s = a.self.now in let p = s.few in let none = sym c.in_default.ensures in (
  rows-turn s.from s.lines.now s.items l.row l.at l.rest.now a.table.now l.table l.invariant.0 c.word-size.result c.tail-rest.result.now c.fill_row.new.table
      (omega (arith, c.loop-row-test.true, p.0.1)) p.1 none c.word-size.ensures c.tail-rest.ensures c.fill_row.ensures,
  row_laid s.items l.row l.at s.count l.rest.now l.table c.loop-row-test.true (sym none) refl c.word-size.ensures c.tail-rest.ensures c.fill_row.ensures ∙ l.invariant.1,
)

pub returns : goal.returns
returns c = let l = c.loop-row in let a = c.args in let s = a.self.now in record {
  rows_read = rows_end s.from s.lines.now s.items l.row l.at l.rest.now a.table.now l.table l.invariant.0 s.count (reached c.behind_last.result) (omega arith) c.behind_last.ensures;
  table_after = rows-laid s.items l.row l.at s.count l.rest.now l.table (omega arith) ∙ l.invariant.1;
}
