use Rattle.std.proofs.Common.{arith}
use Rattle.std.proofs.lemmas.Result.{err_from_is_err_and}
use Rattle.effbd.specs.Answers.{number}
use Rattle.effbd.specs.Moves.{step_diagram}
use Rattle.bus_leader.proofs.Offered.{accepted-by, refused-by, offer-27, offer-10}
use Rattle.bus_leader.proofs.Withheld.{offer-withheld, offer-turned, offer-written}
use Rattle.bus_leader.proofs.offer.Goals as goal

pub returns-then-count-eq-MOST_COUNT : goal.returns-then-count-eq-MOST_COUNT
returns-then-count-eq-MOST_COUNT c = let a = c.args in let e = c.withhold.ensures in
    let t = offer-withheld a.file.now a.state.now a.count a.station a.code a.argument a.area.now 27 a.count _ _
    (λ next s. offer-27 a.file.now a.state.now a.count a.station a.code a.argument a.area.now next s (omega arith)) e.result_value e.state_unchanged in
    record { result_value = t.0; state_after = t.1; area_after = t.2 }

pub returns-then-area : goal.returns-then-area
returns-then-area c = let a = c.args in let e = c.withhold-then-area.ensures in
    let t = offer-withheld a.file.now a.state.now a.count a.station a.code a.argument a.area.now 10 14 _ _
    (λ next s. offer-10 a.file.now a.state.now a.count a.station a.code a.argument a.area.now next s (omega arith) c.if-area.true) e.result_value e.state_unchanged in
    record { result_value = t.0; state_after = t.1; area_after = t.2 }

pub returns-in_err-step : goal.returns-in_err-step
returns-in_err-step c = let a = c.args in let e = c.in_err-step.ensures in let r = c.in_err-step.field-0.0 in
    let p = err_from_is_err_and c.from_residual.result c.from_residual.ensures.1 in
    let t = offer-turned a.file.now a.state.now a.count a.station a.code a.argument a.area.now (number r.reason) r.value _
    (refused-by a.state.now _ (number r.reason) r.value (step_diagram a.file.now a.code a.argument a.state.now) e.result_value e.state_after) in
    record { result_value = rw (p.1, p.2) t.0; state_after = t.1; area_after = t.2 }

pub returns : goal.returns
returns c = let a = c.args in let e = c.in_ok-step.ensures in
    let t = offer-written a.file.now a.state.now a.count a.station a.code a.argument a.area.now _ _
    (accepted-by a.state.now _ _ (step_diagram a.file.now a.code a.argument a.state.now) e.result_value e.state_after) (omega arith) c.if-area.false c.write_telegram.ensures in
    record { result_value = t.0; state_after = t.1; area_after = t.2 }
