use Rattle.std.proofs.Common.{arith, refl, sym, ◌∙◌}
use Rattle.std.proofs.lemmas.Result.{err_from_is_err_and}
use Rattle.ranges.specs.Reasons.{number-some}
use Rattle.diagram_file.proofs.Promises.{filled-refused, filled-boxed, filled-plain}
use Rattle.diagram_file.proofs.fill.Goals as goal

pub returns-in_err-judge : goal.returns-in_err-judge
returns-in_err-judge c =
    let e = c.in_err-judge.field-0.0 in
    let p = err_from_is_err_and c.from_residual.result c.from_residual.ensures.1 in
    rw (p.1, p.2) (filled-refused c.in_err-judge.ensures (number-some e.reason))

pub returns-then-has_box : goal.returns-then-has_box
returns-then-has_box c = filled-boxed c.in_ok-judge.ensures refl (omega (arith, c.requires)) c.word-rows.ensures (sym c.has_box.ensures ∙ c.if-has_box.true)

pub returns : goal.returns
returns c = filled-plain c.in_ok-judge.ensures refl (omega (arith, c.requires)) c.word-rows.ensures (sym c.has_box.ensures ∙ c.if-has_box.false) c.fill_structure.ensures
