use mathlib.Core.Path.{◌∙◌, ap}
use Rattle.effbd.specs.Answers.{packed}
use Rattle.effbd_c.proofs.telegrams_down.Goals as goal

pub returns : goal.returns
returns c = record {
  value = c.pack_answer.ensures ∙ ap packed c.telegrams_down.ensures.result_value;
  area_after = c.telegrams_down.ensures.area_after;
  station_after = c.telegrams_down.ensures.station_after;
  first_after = c.telegrams_down.ensures.first_after;
}
