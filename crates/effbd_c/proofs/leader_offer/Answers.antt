use mathlib.Core.Path.{◌∙◌, ap}
use Rattle.effbd.specs.Answers.{packed}
use Rattle.effbd_c.proofs.leader_offer.Goals as goal

pub returns : goal.returns
returns c = record {
  value = c.pack_answer.ensures ∙ ap packed c.offer.ensures.result_value;
  state_after = c.offer.ensures.state_after;
  area_after = c.offer.ensures.area_after;
}
