use mathlib.Core.Path.{sym, ◌∙◌}
use Rattle.diagram_moves.proofs.BusyRows.{idle-one, busy-found, busy-none}
use borrow.Author.Rules.{rules}
use Rattle.diagram_state.proofs.cells.next_busy.Goals as goal

pub loop-row-init : goal.loop-row-init
loop-row-init c = c.skip_idle-first.ensures

pub returns-then-activity-ne0-clause-value : goal.returns-then-activity-ne0-clause-value
returns-then-activity-ne0-clause-value c = busy-found c.args.state.now c.args.from c.args.rows c.loop-row.row c.loop-row.invariant (search rules) (λ z. c.if-activity-ne0.true (c.activity.ensures ∙ z))

pub loop-row-preserved : goal.loop-row-preserved
loop-row-preserved c = idle-one c.args.state.now c.args.from c.loop-row.row c.loop-row.invariant (sym c.activity.ensures ∙ c.if-activity-ne0.false)

pub returns-clause-value : goal.returns-clause-value
returns-clause-value c = busy-none c.args.state.now c.args.from c.args.rows c.loop-row.row c.loop-row.invariant (search rules)
