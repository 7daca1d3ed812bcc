use Rattle.effbd.specs.Editions.{telegrams_up, upward}
use Rattle.editions.proofs.telegrams_up.Goals as goal

pub returns : goal.returns
unfolding telegrams_up upward
returns c = record { result_value = c.convert.ensures.answer; area_after = c.convert.ensures.area }
