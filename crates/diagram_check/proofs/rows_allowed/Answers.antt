use Rattle.diagram_moves.proofs.RowStores.{all_more, all-less}
use Rattle.diagram_moves.specs.Decisions.{row_allowed}
use Rattle.ranges.specs.RangeLaws.{all-fail}
use mathlib.Core.Path.{refl, sym, ◌∙◌}
use borrow.Author.Tests.{eq-eqb, ne_eqb}
use native.Mathlib.Omega.{arith}
use borrow.Author.Rules.{rules}
use Rattle.diagram_check.proofs.rows_allowed.Goals as goal

pub returns-then-state-plant : goal.returns-then-state-plant
returns-then-state-plant c = rw (ne_eqb _ _ c.if-state-plant.true)

pub loop-row-init : goal.loop-row-init
loop-row-init c = (search rules, refl)

pub returns-then-not-row_allowed : goal.returns-then-not-row_allowed
returns-then-not-row_allowed c = rw (eq-eqb _ _ c.if-state-plant.false) (sym (all-fail c.args.plant.now.rows (row_allowed c.args.plant.now.table.now c.args.state.now) c.loop-row.row (omega arith) (sym c.row_allowed.ensures ∙ c.if-not-row_allowed.true)))

pub loop-row-preserved : goal.loop-row-preserved
loop-row-preserved c = (omega arith, all_more (row_allowed c.args.plant.now.table.now c.args.state.now) c.loop-row.row c.loop-row.invariant.1 (sym c.row_allowed.ensures ∙ c.if-not-row_allowed.false))

pub returns : goal.returns
returns c = rw (eq-eqb _ _ c.if-state-plant.false) (all-less (row_allowed c.args.plant.now.table.now c.args.state.now) c.loop-row.row c.args.plant.now.rows c.loop-row.invariant.1 (omega arith))
