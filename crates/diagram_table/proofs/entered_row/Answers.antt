use Rattle.diagram_table.specs.Cells.{entered_in}
use borrow.Author.Tests.{eq-eqb, ne_eqb}
use Rattle.diagram_table.proofs.entered_row.Goals as goal

pub returns-then-kind-eq-AND_OPEN : goal.returns-then-kind-eq-AND_OPEN
unfolding entered_in
returns-then-kind-eq-AND_OPEN c = rw (← c.kind-own_kind.ensures, eq-eqb _ _ c.if-own_kind-eq-BRANCH.true, ← c.cell-owner.ensures, ← c.kind.ensures, eq-eqb _ _ c.if-kind-eq-AND_OPEN.true) c.cell.ensures

pub returns-then-own_kind-eq-BRANCH : goal.returns-then-own_kind-eq-BRANCH
unfolding entered_in
returns-then-own_kind-eq-BRANCH c = rw (← c.kind-own_kind.ensures, eq-eqb _ _ c.if-own_kind-eq-BRANCH.true, ← c.cell-owner.ensures, ← c.kind.ensures, ne_eqb _ _ c.if-kind-eq-AND_OPEN.false) c.cell-then-own_kind-eq-BRANCH.ensures

pub returns-then-own_kind-eq-AND_CLOSE : goal.returns-then-own_kind-eq-AND_CLOSE
unfolding entered_in
returns-then-own_kind-eq-AND_CLOSE c = rw (← c.kind-own_kind.ensures, ne_eqb _ _ c.if-own_kind-eq-BRANCH.false, eq-eqb _ _ c.if-own_kind-eq-AND_CLOSE.true) c.cell-then-own_kind-eq-AND_CLOSE.ensures

pub returns : goal.returns
unfolding entered_in
returns c = rw (← c.kind-own_kind.ensures, ne_eqb _ _ c.if-own_kind-eq-BRANCH.false, ne_eqb _ _ c.if-own_kind-eq-AND_CLOSE.false)
