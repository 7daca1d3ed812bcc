use Rattle.diagram_table.specs.Cells.{kills_in}
use borrow.Author.Tests.{eq-eqb, ne_eqb}
use Rattle.diagram_table.proofs.kills.Goals as goal

pub returns-then-kind-ne-BRANCH : goal.returns-then-kind-ne-BRANCH
unfolding kills_in
returns-then-kind-ne-BRANCH c = rw (← c.kind.ensures, ne_eqb _ _ c.if-kind-ne-BRANCH.true)

pub returns : goal.returns
unfolding kills_in
returns c = rw (← c.kind.ensures, eq-eqb _ _ c.if-kind-ne-BRANCH.false, ← c.cell.ensures)
