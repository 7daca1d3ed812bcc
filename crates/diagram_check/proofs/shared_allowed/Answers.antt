use Rattle.diagram_moves.proofs.RowStores.{all_more, all-less}
use Rattle.diagram_moves.specs.Decisions.{count_allowed, shared_allowed}
use Rattle.ranges.specs.RangeLaws.{all-fail}
use borrow.Author.Tests.{eq-eqb, ne_eqb}
use native.Mathlib.Omega.{arith}
use mathlib.Core.Path.{refl, sym, ◌∙◌}
use borrow.Author.Rules.{rules}
use Rattle.diagram_check.proofs.shared_allowed.Goals as goal

pub returns-then-cell-eq0 : goal.returns-then-cell-eq0
unfolding shared_allowed
returns-then-cell-eq0 c = rw (eq-eqb _ _ (sym c.cell.ensures ∙ c.if-cell-eq0.true))

pub loop-item-init : goal.loop-item-init
loop-item-init c = (search rules, refl)

pub returns-then-not-count_allowed : goal.returns-then-not-count_allowed
unfolding shared_allowed
returns-then-not-count_allowed c = let a = c.args in rw (ne_eqb _ _ (λ z. c.if-cell-eq0.false (c.cell.ensures ∙ z))) (sym (all-fail a.plant.now.items (count_allowed a.plant.now.table.now a.plant.now.rows a.state.now) c.loop-item.item c.loop-item-test.true (sym c.count_allowed.ensures ∙ c.if-not-count_allowed.true)))

pub loop-item-preserved : goal.loop-item-preserved
loop-item-preserved c = let a = c.args in (omega arith, all_more (count_allowed a.plant.now.table.now a.plant.now.rows a.state.now) c.loop-item.item c.loop-item.invariant.1 (sym c.count_allowed.ensures ∙ c.if-not-count_allowed.false))

pub returns : goal.returns
unfolding shared_allowed
returns c = let a = c.args in rw (ne_eqb _ _ (λ z. c.if-cell-eq0.false (c.cell.ensures ∙ z))) (all-less (count_allowed a.plant.now.table.now a.plant.now.rows a.state.now) c.loop-item.item a.plant.now.items c.loop-item.invariant.1 (omega arith))
