use Rattle.std.proofs.Common.{refl, arith}
use Rattle.effbd.specs.Answers.{number}
use Rattle.ranges.specs.Reasons.{number-some}
use Rattle.row_records.specs.Rows.{reached}
use Rattle.row_records.proofs.RowsRead.{stop-near, refine-plain, refine-start, refine-reached, refine-some, refine-turn, refine-end}
use Rattle.row_records.proofs.Rows.refine.Goals as goal

pub returns-then-cell-eq0 : goal.returns-then-cell-eq0
returns-then-cell-eq0 c = let a = c.args in let s = a.self.now in refine-plain s.items s.from s.lines.now s.count a.table.now (reached a.reading) c.cell.ensures c.if-cell-eq0.true

pub loop-init : goal.loop-init
loop-init c = let a = c.args in let s = a.self.now in refine-start s.items s.from s.lines.now a.table.now

pub returns-then-stopped-at : goal.returns-then-stopped-at
returns-then-stopped-at c = let a = c.args in let s = a.self.now in let l = c.loop in
    refine-reached s.items s.from s.lines.now s.count a.table.now (reached a.reading) l.counter l.at l.rest.now l.invariant (omega arith)

pub returns-in-Some : goal.returns-in-Some
returns-in-Some c = let a = c.args in let s = a.self.now in let l = c.loop in
    refine-some s.items s.from s.lines.now s.count a.table.now (reached a.reading) c.requires c.cell.ensures c.if-cell-eq0.false l.counter l.at (number c.in-Some.reason) l.rest.now l.invariant
    c.loop-test.true (omega arith) c.in-Some.ensures (number-some c.in-Some.reason)

pub overflow_add-at : goal.overflow_add-at
overflow_add-at c = let a = c.args in let s = a.self.now in
    let near = stop-near s.items s.from s.lines.now s.count a.table.now (reached a.reading) c.requires in let f = s.few.0 in omega arith

pub loop-preserved : goal.loop-preserved
loop-preserved c = let a = c.args in let s = a.self.now in let l = c.loop in
    refine-turn s.items s.from s.lines.now s.count a.table.now (reached a.reading) c.requires l.counter l.at c.word-size.result 0 l.rest.now c.tail-rest.result.now s.few.1 l.invariant
    (omega arith) c.in_default.ensures refl c.word-size.ensures c.tail-rest.ensures

pub returns : goal.returns
returns c = let a = c.args in let s = a.self.now in let l = c.loop in
    refine-end s.items s.from s.lines.now s.count a.table.now (reached a.reading) l.counter l.at l.rest.now l.invariant (omega arith)
