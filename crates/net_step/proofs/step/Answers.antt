use Rattle.net_step.proofs.Calls.{step-refused, step-length, step-moves}
use Rattle.net_file.proofs.Answers.{read_of}
use Rattle.net_walk.proofs.Effects.{Words}
use Rattle.effbd.specs.Answers.{number, returning_zero, afterwards}
use Rattle.std.proofs.lemmas.Result.{err_from_is_err_and}
use mathlib.Core.Path.{ap, sym, ◌∙◌}
use native.Mathlib.Omega.{arith}
use Rattle.agreement.specs.ByteLaws.{bytes-are}
use borrow.Author.Rules.{rules}
use Rattle.net_step.proofs.step.Goals as goal

pub returns-then-state-size : goal.returns-then-state-size
returns-then-state-size c = let a = c.args in
    let r = read_of a.net.now c.in_ok-size.size c.in_ok-size.ensures in
    let e = step-length a.net.now a.state.now c.in_ok-size.size r a.code a.argument c.if-state-size.true in
    record { result_value = sym (ap returning_zero e); state_after = sym (ap (afterwards a.state.now) e) }

pub move_sized-requires : goal.move_sized-requires
move_sized-requires c = let a = c.args in
    let r = read_of a.net.now c.in_ok-size.size c.in_ok-size.ensures in
    record { few = omega (arith, r.holds.head.places, c.word-places.ensures); words = omega (arith, r.adds, c.if-state-size.false, c.word-places.ensures, c.word.ensures) }

pub returns-in_err-size : goal.returns-in_err-size
returns-in_err-size c = let a = c.args in
    let r = c.in_err-size.field-0.0 in
    let e = step-refused a.net.now a.state.now a.code a.argument (number r.reason) r.value c.in_err-size.ensures in
    let p = err_from_is_err_and c.from_residual.result c.from_residual.ensures.1 in
    record { result_value = rw (p.1, p.2) (sym (ap returning_zero e)); state_after = sym (ap (afterwards a.state.now) e) }

pub returns : goal.returns
returns c = let a = c.args in
    let r = read_of a.net.now c.in_ok-size.size c.in_ok-size.ensures in
    let w : Words a.state.now = record { each = λ i. search rules } in
    let e = sym (step-moves a.net.now a.state.now c.in_ok-size.size r (bytes-are a.net.now (λ i. omega (arith, c.type_inv.net i))) a.code a.argument c.word-places.result c.word.result c.tail.result.now c.if-state-size.false w c.word-places.ensures c.word.ensures c.tail.ensures) in
    record { result_value = c.move_sized.ensures.says ∙ ap returning_zero e; state_after = c.move_sized.ensures.leaves ∙ ap (afterwards a.state.now) e }
