use Rattle.std.specs.Prelude.{ℕ, ◌*◌, true, false, List, take, length}
use Rattle.std.proofs.Common.{◌∙◌, ap, arith, length-take}
use Rattle.diagram_table.specs.Cells.{uses_of}
use Rattle.diagram_moves.specs.Changes.{counts_changed}
use Rattle.diagram_uses.proofs.UsesBlocked.{uses-whole}
use Rattle.diagram_counts.proofs.change_counts.Goals as goal

pub change_uses-requires : goal.change_uses-requires
change_uses-requires c = omega (arith, ap length c.front-uses.ensures, length-take (6 * c.cell-number.result) c.uses.result.now)

pub change_uses-requires-else-giving : goal.change_uses-requires-else-giving
change_uses-requires-else-giving c = omega (arith, ap length c.front-uses.ensures, length-take (6 * c.cell-number.result) c.uses.result.now)

pub returns-then-giving : goal.returns-then-giving
returns-then-giving c = let a = c.args in let p = a.plant.now in
    c.change_uses.ensures ∙ rw c.if-giving.true (ap (λ (l : List ℕ). counts_changed p.table.now true p.rows a.row 0 (uses_of l) a.state.now) (c.front-uses.ensures ∙ (ap (take (6 * c.cell-number.result)) c.uses.ensures ∙ uses-whole p.table.now p.file.now a.row c.cell-number.result c.cell-number.ensures)))

pub returns-else-giving : goal.returns-else-giving
returns-else-giving c = let a = c.args in let p = a.plant.now in
    c.change_uses-else-giving.ensures ∙ rw c.if-giving.false (ap (λ (l : List ℕ). counts_changed p.table.now false p.rows a.row 0 (uses_of l) a.state.now) (c.front-uses.ensures ∙ (ap (take (6 * c.cell-number.result)) c.uses.ensures ∙ uses-whole p.table.now p.file.now a.row c.cell-number.result c.cell-number.ensures)))
