use Rattle.std.proofs.Common.{sym, refl, arith}
use Rattle.std.proofs.Math.Seq.{length-take-le}
use Rattle.std.proofs.lemmas.Result.{err_from_is_err_and}
use Rattle.effbd.specs.Answers.{number}
use Rattle.agreement.specs.ByteLaws.{bytes-are}
use Rattle.net_file.proofs.Answers.{read_of}
use Rattle.net_walk.proofs.Found.{none_found, one_found}
use Rattle.net_fires.proofs.Lowest.{file-turned, length-off, none-enabled, number_is}
use Rattle.net_fires.proofs.transition.Goals as goal

pub returns-in_err-size : goal.returns-in_err-size
returns-in_err-size c = let a = c.args in
    let r = c.in_err-size.field-0.0 in
    let p = err_from_is_err_and c.from_residual.result c.from_residual.ensures.1 in
    rw (p.1, p.2) (file-turned a.net.now a.state.now a.row (number r.reason) r.value c.in_err-size.ensures)

pub returns-then-state-size : goal.returns-then-state-size
returns-then-state-size c = let a = c.args in length-off a.net.now a.state.now c.in_ok-size.size a.row (read_of a.net.now c.in_ok-size.size c.in_ok-size.ensures) c.if-state-size.true

pub slice_bounds-lowest-end : goal.slice_bounds-lowest-end
slice_bounds-lowest-end c = let a = c.args in let r = read_of a.net.now c.in_ok-size.size c.in_ok-size.ensures in sym (length-take-le c.word-places.result a.state.now (omega (arith, r.adds, c.if-state-size.false, c.word-places.ensures)))

pub returns-in_err-lowest : goal.returns-in_err-lowest
returns-in_err-lowest c = let a = c.args in
    let n = none_found c.lowest.result c.word-count.result _ c.in_err-lowest.field-0.0 _ c.lowest.ensures.number c.in_err-lowest.ensures.value in
    let e = none-enabled a.net.now a.state.now c.in_ok-size.size a.row (read_of a.net.now c.in_ok-size.size c.in_ok-size.ensures)
    (bytes-are a.net.now (λ i. omega (arith, c.type_inv.net i))) c.if-state-size.false c.word-places.ensures c.word-count.ensures c.tail-transitions.ensures n.0 refl in
    let p = err_from_is_err_and c.from_residual-in_err-lowest.result c.from_residual-in_err-lowest.ensures.1 in rw (p.1, p.2, n.1) e

pub returns : goal.returns
returns c = let a = c.args in
    let f = one_found c.lowest.result c.word-count.result _ c.in_ok-lowest.lowest _ c.lowest.ensures.number c.lowest.ensures.some c.in_ok-lowest.ensures.value in
    number_is a.net.now a.state.now c.in_ok-size.size a.row (read_of a.net.now c.in_ok-size.size c.in_ok-size.ensures)
    (bytes-are a.net.now (λ i. omega (arith, c.type_inv.net i))) c.if-state-size.false c.word-places.ensures c.word-count.ensures c.tail-transitions.ensures f.0 (omega (arith, f.1))
