use borrow.Author.Tests.{eqb-true}
use mathlib.Core.Path.{sym, ◌∙◌}
use Rattle.diagram_moves.proofs.BusyRows.{idle-none, idle-four}
use borrow.Author.Rules.{rules}
use Rattle.diagram_state.proofs.cells.skip_idle.Goals as goal

pub loop-row-init : goal.loop-row-init
loop-row-init c = (search rules, idle-none c.args.state.now c.args.from)

pub returns-then-not-four_idle : goal.returns-then-not-four_idle
returns-then-not-four_idle c = c.loop-row.invariant.1

pub loop-row-preserved : goal.loop-row-preserved
loop-row-preserved c = (search rules, idle-four c.args.state.now c.args.from c.loop-row.row c.loop-row.invariant.1 (eqb-true _ 0 (sym c.four_idle.ensures ∙ c.if-not-four_idle.false)))

pub returns-after-loop-row : goal.returns-after-loop-row
returns-after-loop-row c = c.loop-row.invariant.1

pub returns-else-rows-state : goal.returns-else-rows-state
returns-else-rows-state c = idle-none c.args.state.now c.args.from
