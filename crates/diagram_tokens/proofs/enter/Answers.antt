use Rattle.diagram_moves.specs.Changes.{entered}
use mathlib.Core.Path.{sym, ◌∙◌}
use borrow.Author.Tests.{eq-eqb, ne_eqb}
use Rattle.diagram_tokens.proofs.enter.Goals as goal

pub returns-then-kills : goal.returns-then-kills
unfolding entered
returns-then-kills c = c.kill_rows.ensures ∙ rw (← c.entered_row-changed.ensures, sym c.kills.ensures ∙ c.if-kills.true, c.cell-owner.ensures)

pub returns-then-kind-eq-BRANCH : goal.returns-then-kind-eq-BRANCH
unfolding entered
returns-then-kind-eq-BRANCH c = c.set_row.ensures ∙ rw (← c.entered_row-changed.ensures, sym c.kills.ensures ∙ c.if-kills.false, ← c.kind.ensures, eq-eqb _ _ c.if-kind-eq-BRANCH.true)

pub returns-else-kind-eq-BRANCH : goal.returns-else-kind-eq-BRANCH
unfolding entered
returns-else-kind-eq-BRANCH c = c.set_row-else-kind-eq-BRANCH.ensures ∙ rw (← c.entered_row-changed.ensures, sym c.kills.ensures ∙ c.if-kills.false, ← c.kind.ensures, ne_eqb _ _ c.if-kind-eq-BRANCH.false)
