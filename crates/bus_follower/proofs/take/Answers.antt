use Rattle.std.proofs.Common.{sym, ap}
use Rattle.std.proofs.lemmas.Result.{err_from_is_err_and}
use Rattle.effbd.specs.Answers.{accepted, refused, number}
use Rattle.effbd.specs.BusEnds.{Taken}
use Rattle.effbd.specs.Firing.{step_net}
use Rattle.bus_follower.proofs.Taken.{take-refused, take_by, counted-accepted, counted-refused}
use Rattle.bus_follower.proofs.take.Goals as goal

pub returns-in_err-next : goal.returns-in_err-next
returns-in_err-next c = let a = c.args in
    let r = c.in_err-next.field-0.0 in
    let e = take-refused a.net.now a.state.now a.count a.station a.telegram.now (number r.reason) r.value (sym c.in_err-next.ensures) in
    let p = err_from_is_err_and c.from_residual.result c.from_residual.ensures.1 in
    record { result_value = rw (p.1, p.2) (sym (ap (λ (k : Taken). k.answer) e)); state_after = sym (ap (λ (k : Taken). k.state) e) }

pub returns-in_err-step : goal.returns-in_err-step
returns-in_err-step c = let a = c.args in
    let r = c.in_err-step.field-0.0 in
    let told = take_by a.net.now a.state.now a.count a.station a.telegram.now c.in_ok-next.next c.word-code.result c.word-argument.result (refused (number r.reason) r.value) c.step.new.state (sym c.in_ok-next.ensures) c.word-code.ensures c.word-argument.ensures
    (counted-refused c.in_ok-next.next (number r.reason) r.value (step_net a.net.now c.word-code.result c.word-argument.result a.state.now) c.in_err-step.ensures.result_value) c.step.ensures.state_after in
    let p = err_from_is_err_and c.from_residual-in_err-step.result c.from_residual-in_err-step.ensures.1 in
    record { result_value = rw (p.1, p.2) told.0; state_after = told.1 }

pub returns : goal.returns
returns c = let a = c.args in
    let told = take_by a.net.now a.state.now a.count a.station a.telegram.now c.in_ok-next.next c.word-code.result c.word-argument.result (accepted c.in_ok-next.next) c.step.new.state (sym c.in_ok-next.ensures) c.word-code.ensures c.word-argument.ensures
    (counted-accepted c.in_ok-next.next c.in_ok-step.field-0 (step_net a.net.now c.word-code.result c.word-argument.result a.state.now) c.in_ok-step.ensures.result_value) c.step.ensures.state_after in
    record { result_value = told.0; state_after = told.1 }
