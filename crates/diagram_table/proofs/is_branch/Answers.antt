use Rattle.diagram_table.specs.Cells.{is_branch}
use borrow.Author.Tests.{eq-eqb, ne_eqb}
use Rattle.diagram_table.proofs.is_branch.Goals as goal

pub returns-then-kind-ne-BRANCH : goal.returns-then-kind-ne-BRANCH
unfolding is_branch
returns-then-kind-ne-BRANCH c = rw (← c.kind.ensures, ne_eqb _ _ c.if-kind-ne-BRANCH.true)

pub returns : goal.returns
unfolding is_branch
returns c = rw (← c.kind.ensures, eq-eqb _ _ c.if-kind-ne-BRANCH.false, ← c.cell.ensures)
