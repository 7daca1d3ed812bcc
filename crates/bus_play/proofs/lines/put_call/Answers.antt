use Rattle.text.specs.LaidLaws.{same}
use Rattle.bus_play.proofs.WrittenCalls.{offer-text, hand-text}
use Rattle.bus_play.proofs.lines.put_call.Goals as goal

pub returns-then-word-eq-OFFER : goal.returns-then-word-eq-OFFER
returns-then-word-eq-OFFER c = same (offer-text _ _ c.word.ensures c.if-word-eq-OFFER.true _ _ c.word-then-word-eq-OFFER.ensures c.word-then-word-eq-OFFER-2.ensures) c.put_move.ensures

pub returns : goal.returns
returns c = same (hand-text _ _ c.word.ensures c.if-word-eq-OFFER.false _ c.tail.ensures) c.put_bytes.ensures
