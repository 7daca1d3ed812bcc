use Rattle.std.proofs.Common.{arith}
use Rattle.annex_text.proofs.MarksAndRecords.{marks-begun, marks-turn, marks-done}
use Rattle.annex_text.proofs.put_marks.Goals as goal

pub loop-place-init : goal.loop-place-init
loop-place-init c = let a = c.args in marks-begun a.text.now a.places a.bytes.now

pub loop-place-preserved : goal.loop-place-preserved
loop-place-preserved c = let a = c.args in
    let l = c.loop-place in
    marks-turn a.places l.place _ a.bytes.now l.rest.now _ (omega arith) c.word.ensures c.tail-rest.ensures l.invariant c.put_number.ensures

pub returns : goal.returns
returns c = let a = c.args in marks-done a.places c.loop-place.place a.bytes.now c.loop-place.rest.now (omega arith) c.loop-place.invariant
