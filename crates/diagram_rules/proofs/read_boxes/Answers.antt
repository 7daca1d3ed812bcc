use Rattle.std.specs.Prelude.{refl}
use Rattle.std.proofs.Common.{sym, ◌∙◌}
use Rattle.std.proofs.lemmas.Result.{err_from_is_err_and}
use Rattle.ranges.specs.Reasons.{number-some}
use Rattle.diagram_rules.proofs.Behind.{boxes-none, boxes-unmatched, boxes-read}
use Rattle.diagram_rules.proofs.read_boxes.Goals as goal

pub returns-then-not-has_box : goal.returns-then-not-has_box
returns-then-not-has_box c = boxes-none c.args.rows c.args.table.now (sym c.has_box.ensures ∙ c.if-not-has_box.true)

pub returns-in_err-read_outlets : goal.returns-in_err-read_outlets
returns-in_err-read_outlets c =
    let e = c.in_err-read_outlets.field-0.0 in
    let p = err_from_is_err_and c.from_residual.result c.from_residual.ensures.1 in
    rw (p.1, p.2) (boxes-unmatched c.args.rows c.args.table.now (sym c.has_box.ensures ∙ c.if-not-has_box.false) _ c.fill_structure.ensures _ _ c.in_err-read_outlets.ensures (number-some e.reason))

pub returns : goal.returns
returns c = boxes-read c.args.rows c.args.table.now (sym c.has_box.ensures ∙ c.if-not-has_box.false) _ c.fill_structure.ensures _ _ c.in_ok-read_outlets.ensures refl c.read_scenarios.result c.read_scenarios.ensures
