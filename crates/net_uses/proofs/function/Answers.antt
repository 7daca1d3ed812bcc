use Rattle.std.proofs.Common.{eq-eqb, ne_eqb, ◌∙◌, sym, ◌+◌, arith, true, false}
use Rattle.net_records.proofs.Writing.{same}
use Rattle.net_uses.proofs.UseArcs.{uses-short, function-is}
use Rattle.net_uses.proofs.function.Goals as goal

pub transitions-requires : goal.transitions-requires
transitions-requires c = let a = c.args in
    rw c.uses-uses.ensures (uses-short a.table.now a.file.now a.row (omega (arith, c.type_inv.table (256 + a.row))))

pub transitions-requires-else-cell-eq0 : goal.transitions-requires-else-cell-eq0
transitions-requires-else-cell-eq0 c = let a = c.args in
    rw c.uses-uses.ensures (uses-short a.table.now a.file.now a.row (omega (arith, c.type_inv.table (256 + a.row))))

pub returns-then-cell-eq0 : goal.returns-then-cell-eq0
returns-then-cell-eq0 c = let a = c.args in
    same (function-is a.table.now a.file.now a.rows a.row c.uses-uses.ensures false (eq-eqb _ _ (sym c.cell.ensures ∙ c.if-cell-eq0.true))) c.transitions.ensures

pub returns-else-cell-eq0 : goal.returns-else-cell-eq0
returns-else-cell-eq0 c = let a = c.args in
    same (function-is a.table.now a.file.now a.rows a.row c.uses-uses.ensures true (ne_eqb _ _ (λ e. c.if-cell-eq0.false (c.cell.ensures ∙ e)))) c.transitions-else-cell-eq0.ensures
