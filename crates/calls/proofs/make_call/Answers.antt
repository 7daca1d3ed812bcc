use Rattle.std.specs.Prelude.{length, min}
use Rattle.std.proofs.Common.{arith, refl}
use Rattle.effbd.specs.Answers.{said}
use Rattle.calls.specs.LiveEnds.{live}
use Rattle.calls.proofs.Calls.{area-from, offer-called, hand-called}
use Rattle.calls.proofs.make_call.Goals as goal

pub returns-then-word-eq-OFFER : goal.returns-then-word-eq-OFFER
returns-then-word-eq-OFFER c = let a = c.args in let g = a.line.now in record {
  called = offer-called g.file.now g.net.now g.station (live a.ends.now) a.call.now
      c.word.result c.word.ensures c.word-code.result c.word-argument.result c.if-word-eq-OFFER.true c.word-code.ensures c.word-argument.ensures
      c.min-start.result (area-from a.call.now c.min-start.result c.min-start.ensures)
      (said c.offer-answer.result) c.offer-answer.new.state c.offer-answer.new.area c.value_after-ends.result
      c.offer-answer.ensures.result_value c.offer-answer.ensures.state_after c.offer-answer.ensures.area_after c.value_after-ends.ensures;
  same = record { leader = refl; follower = refl };
}

pub returns : goal.returns
returns c = let a = c.args in let g = a.line.now in record {
  called = hand-called g.file.now g.net.now g.station (live a.ends.now) a.call.now
      c.word.result c.word.ensures c.if-word-eq-OFFER.false _ c.tail.ensures
      (said c.take-answer.result) c.take-answer.new.state c.value_after-ends-2.result c.take-answer.ensures.result_value c.take-answer.ensures.state_after c.value_after-ends-2.ensures;
  same = record { leader = refl; follower = refl };
}
