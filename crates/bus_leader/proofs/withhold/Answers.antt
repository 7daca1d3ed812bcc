use Rattle.std.proofs.Common.{arith, refl, ◌∙◌}
use Rattle.std.proofs.lemmas.Result.{err_from_is_err_and}
use Rattle.effbd.specs.Answers.{number}
use Rattle.agreement.specs.ByteLaws.{bytes-are}
use Rattle.bus_leader.proofs.Withheld.{too_long, withheld-as}
use Rattle.bus_leader.proofs.withhold.Goals as goal

pub returns-then-size-gt-MOST_WORDS : goal.returns-then-size-gt-MOST_WORDS
returns-then-size-gt-MOST_WORDS c = let a = c.args in
    let t = too_long a.file.now a.state.now a.code a.argument (number a.refusal.reason) a.refusal.value (bytes-are a.file.now (λ i. omega (arith, c.type_inv.file i))) c.if-size-gt-MOST_WORDS.true in
    record { result_value = c.step.ensures.result_value ∙ t.0; state_unchanged = c.step.ensures.state_after ∙ t.1 }

pub returns-in_err-try_step : goal.returns-in_err-try_step
returns-in_err-try_step c = let r = c.args.refusal in
    let p = err_from_is_err_and c.from_residual.result c.from_residual.ensures.1 in
    record { result_value = rw (p.1, p.2) (withheld-as (number r.reason) r.value _ _ c.in_err-try_step.ensures); state_unchanged = refl }

pub returns-in_err-try_step-2 : goal.returns-in_err-try_step-2
returns-in_err-try_step-2 c = let r = c.args.refusal in
    let p = err_from_is_err_and c.from_residual-in_err-try_step-2.result c.from_residual-in_err-try_step-2.ensures.1 in
    record { result_value = rw (p.1, p.2) (withheld-as (number r.reason) r.value _ _ c.in_err-try_step-2.ensures); state_unchanged = refl }

pub returns-in_ok-try_step : goal.returns-in_ok-try_step
returns-in_ok-try_step c = let r = c.args.refusal in record { result_value = withheld-as (number r.reason) r.value _ _ c.in_ok-try_step.ensures; state_unchanged = refl }

pub returns-in_ok-try_step-2 : goal.returns-in_ok-try_step-2
returns-in_ok-try_step-2 c = let r = c.args.refusal in record { result_value = withheld-as (number r.reason) r.value _ _ c.in_ok-try_step-2.ensures; state_unchanged = refl }
