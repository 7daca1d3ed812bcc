use Rattle.std.specs.Prelude.{ℕ, ◌*◌, List, take, length}
use Rattle.std.proofs.Common.{◌∙◌, ap, arith, length-take}
use Rattle.diagram_table.specs.Cells.{uses_of}
use Rattle.diagram_moves.specs.Decisions.{blocked_item}
use Rattle.diagram_uses.proofs.UsesBlocked.{uses-whole}
use Rattle.diagram_uses.proofs.blocked_item.Goals as goal

pub blocked_in-requires : goal.blocked_in-requires
blocked_in-requires c = omega (arith, ap length c.front-uses.ensures, length-take (6 * c.cell-number.result) c.uses.result.now)

pub returns : goal.returns
returns c = let a = c.args in let p = a.plant.now in
    c.blocked_in.ensures ∙ ap (λ (l : List ℕ). blocked_item p.table.now a.giving p.rows p.items a.state.now a.row 0 (uses_of l)) (c.front-uses.ensures ∙ (ap (take (6 * c.cell-number.result)) c.uses.ensures ∙ uses-whole p.table.now p.file.now a.row c.cell-number.result c.cell-number.ensures))
