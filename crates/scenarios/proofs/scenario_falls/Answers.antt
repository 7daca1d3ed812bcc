use Rattle.std.proofs.Common.{sym, ◌∙◌}
use borrow.Author.Tests.{ne_eqb}
use Rattle.scenarios.proofs.Falling.{no-box, of-box}
use Rattle.scenarios.proofs.scenario_falls.Goals as goal

pub returns-then-kind-eq-BOX_OPEN : goal.returns-then-kind-eq-BOX_OPEN
returns-then-kind-eq-BOX_OPEN c = let a = c.args in
    of-box a.table.now a.rows a.row c.first_outlet.result c.falls_into.result (sym c.kind.ensures ∙ c.if-kind-eq-BOX_OPEN.true) c.first_outlet.ensures c.falls_into.ensures

pub returns-else-kind-eq-BOX_OPEN : goal.returns-else-kind-eq-BOX_OPEN
returns-else-kind-eq-BOX_OPEN c = let a = c.args in
    rw (ne_eqb _ _ c.if-kind-eq-BOX_OPEN.false) (no-box a.table.now a.rows a.row (λ z. c.if-kind-eq-BOX_OPEN.false (c.kind.ensures ∙ z)))
