use Rattle.std.proofs.lemmas.Result.{err_from_is_err_and}
use Rattle.effbd.specs.Answers.{number}
use Rattle.editions.proofs.Calls.{given, kept}
use Rattle.editions.proofs.telegrams_down.Goals as goal

pub returns-in_err-size : goal.returns-in_err-size
returns-in_err-size c = let a = c.args in let r = c.in_err-size.field-0.0 in
    let k = kept a.run.now a.area.now a.station.now a.first.now c.word-due.result c.long-number.result c.word-due.ensures c.long-number.ensures (number r.reason) r.value c.convert.new.area c.in_err-size.ensures.answer c.convert.ensures.area in
    let p = err_from_is_err_and c.from_residual.result c.from_residual.ensures.1 in
    record { result_value = rw (p.1, p.2) k.answer; area_after = k.area-is; station_after = k.station-is; first_after = k.first-is }

pub returns : goal.returns
returns c = let a = c.args in
    let k = given a.run.now a.area.now a.station.now a.first.now c.word-due.result c.long-number.result c.word-due.ensures c.long-number.ensures c.in_ok-size.size c.convert.new.area c.in_ok-size.ensures.answer c.convert.ensures.area in
    record { result_value = k.answer; area_after = k.area-is; station_after = k.station-is; first_after = k.first-is }
