use Rattle.std.proofs.Common.{arith}
use Rattle.annex_text.proofs.MarksAndRecords.{records-begun, records-turn, records-done, falls, counts-most}
use Rattle.annex_text.proofs.put_records.Goals as goal

pub loop-rest-init : goal.loop-rest-init
loop-rest-init c = let a = c.args in records-begun a.text.now a.records.now

pub overflow_add-j : goal.overflow_add-j
overflow_add-j c = omega (arith, c.requires, counts-most c.loop-rest.rest.now, c.loop-rest.invariant.few, c.transitions_at-j.ensures)

pub loop-rest-smaller : goal.loop-rest-smaller
loop-rest-smaller c = falls c.loop-rest.rest.now _ _ c.loop-rest-test.true c.record_size.ensures c.tail-rest.ensures

pub loop-rest-preserved : goal.loop-rest-preserved
loop-rest-preserved c = let a = c.args in
    let l = c.loop-rest in
    records-turn a.records.now l.rest.now _ l.j _ _ c.loop-rest-test.true c.transitions_at-j.ensures c.record_size.ensures c.tail-rest.ensures l.invariant c.put_record.ensures

pub returns : goal.returns
returns c = let a = c.args in records-done a.records.now c.loop-rest.rest.now c.loop-rest.j (omega arith) c.loop-rest.invariant
