use Rattle.std.proofs.Common.{◌≡◌, sym, refl, length, drop, arith}
use Rattle.std.proofs.lemmas.Result.{err_from_is_err_and}
use Rattle.effbd.specs.Answers.{refused}
use Rattle.net_walk.proofs.Found.{none_found, one_found}
use Rattle.net_step.proofs.Cases.{step-none, step-some, turned-away, answered-as}
use Rattle.net_file.specs.Contents.{transitions_in}
use Rattle.net_step.specs.Stepping.{stepped_words}
use Rattle.net_step.proofs.step_label.Goals as goal

pub returns-in_err-j : goal.returns-in_err-j
returns-in_err-j c = let a = c.args in
    let n = none_found c.lowest.result a.net.now.count _ c.in_err-j.field-0.0 _ c.lowest.ensures.number c.in_err-j.ensures.value in
    let e : stepped_words (transitions_in a.net.now.count a.net.now.transitions.now) a.label a.marks.now (drop (length a.marks.now) a.state.now) ≡ refused 22 a.label =
    step-none a.net.now.count a.net.now.count a.net.now.transitions.now a.marks.now (drop (length a.marks.now) a.state.now) a.label n.0 refl in
    let p = err_from_is_err_and c.from_residual.result c.from_residual.ensures.1 in rw (p.1, p.2, n.1) (turned-away a.state.now _ _ e)

pub returns : goal.returns
returns c = let a = c.args in
    let f = one_found c.lowest.result a.net.now.count _ c.in_ok-j.j _ c.lowest.ensures.number c.lowest.ensures.some c.in_ok-j.ensures.value in
    let e = step-some a.net.now.count c.in_ok-j.j a.net.now.transitions.now a.marks.now (drop (length a.marks.now) a.state.now) a.label f.0 c.part_at-part.result.now (omega (arith, f.1)) c.part_at-part.ensures in
    answered-as c.fire.ensures (sym e)
