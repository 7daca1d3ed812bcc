use Rattle.std.proofs.Common.{sym, ◌∙◌}
use Rattle.diagram_moves.specs.Decisions.{row_allowed}
use Rattle.diagram_check.proofs.RowsChecked.{rest-allowed}
use Rattle.diagram_check.proofs.row_allowed.Goals as goal

pub returns-then-rests : goal.returns-then-rests
unfolding row_allowed
returns-then-rests c = rw (← c.activity-activity.ensures, ← c.turns-turns.ensures, ← c.clock-clock.ensures) (c.if-rests.true ∙ sym (rest-allowed c.args.table.now c.args.row c.activity-activity.result c.turns-turns.result c.clock-clock.result (sym c.rests.ensures ∙ c.if-rests.true)))
