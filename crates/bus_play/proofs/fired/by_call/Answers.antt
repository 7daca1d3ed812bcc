use Rattle.bus_play.proofs.FiredCalls.{offered-fires, handed-fires}
use Rattle.bus_play.proofs.fired.by_call.Goals as goal

pub returns-then-word-eq-OFFER : goal.returns-then-word-eq-OFFER
returns-then-word-eq-OFFER c = offered-fires _ _ _ _ c.args.call.now c.word.ensures c.if-word-eq-OFFER.true c.word-then-word-eq-OFFER.ensures c.word-then-word-eq-OFFER-2.ensures c.by_offer.ensures

pub returns : goal.returns
returns c = handed-fires _ _ _ _ c.args.call.now c.word.ensures c.if-word-eq-OFFER.false c.tail.ensures c.by_telegram.ensures
