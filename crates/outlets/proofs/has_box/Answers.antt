use Rattle.std.proofs.Common.{sym, ◌∙◌, ap, arith}
use Rattle.std.specs.Prelude.{ltb}
use Rattle.nesting.proofs.Counts.{kinds-counted}
use Rattle.outlets.specs.Outlets.{is_box, has_box}
use Rattle.outlets.proofs.has_box.Goals as goal

pub returns : goal.returns
unfolding has_box is_box
returns c = ap (ltb 0) (c.count_kind.ensures ∙ sym (kinds-counted c.args.table.now 29 (λ z. absurd (omega arith)) c.args.rows))
