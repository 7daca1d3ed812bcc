use Rattle.std.proofs.Common.{sym, ◌∙◌}
use Rattle.starts.proofs.MoveTurns.{turn-waits, turn-elsewhere, turn-not-running, start-joins, turn-starts}
use Rattle.starts.proofs.count_move.Goals as goal
use Rattle.starts.proofs.count_move.Goals.{else-setpoint-row-via-then-setpoint-row+else-activity-eq2, else-setpoint-row-via-else-setpoint-row}

pub returns-then-setpoint-eq-WAIT : goal.returns-then-setpoint-eq-WAIT
returns-then-setpoint-eq-WAIT c = let a = c.args in let s = a.setpoint in turn-waits a.row s.code s.argument a.state.now a.gaps.now a.window.now c.if-setpoint-eq-WAIT.true _ c.wait.ensures

pub count_start-requires : goal.count_start-requires
count_start-requires c = let a = c.args in let s = a.setpoint in
    start-joins a.row s.code s.argument a.state.now a.gaps.now a.window.now c.if-setpoint-eq-WAIT.false c.if-setpoint-row.true (sym c.activity.ensures ∙ c.if-activity-eq2.true) c.requires

pub returns-then-activity-eq2 : goal.returns-then-activity-eq2
returns-then-activity-eq2 c = let a = c.args in let s = a.setpoint in
    turn-starts a.row s.code s.argument a.state.now a.gaps.now a.window.now c.if-setpoint-eq-WAIT.false c.if-setpoint-row.true (sym c.activity.ensures ∙ c.if-activity-eq2.true) _ _ c.count_start.ensures

pub returns-else-setpoint-row : goal.returns-else-setpoint-row
returns-else-setpoint-row c = let a = c.args in let s = a.setpoint in elim c.else-setpoint-row.branch [
  | else-setpoint-row-via-then-setpoint-row+else-activity-eq2 w ↦
      turn-not-running a.row s.code s.argument a.state.now a.gaps.now a.window.now c.if-setpoint-eq-WAIT.false w.if-setpoint-row.true (λ z. w.if-activity-eq2.false (w.activity.ensures ∙ z))
  | else-setpoint-row-via-else-setpoint-row w ↦ turn-elsewhere a.row s.code s.argument a.state.now a.gaps.now a.window.now c.if-setpoint-eq-WAIT.false w.if-setpoint-row.false
]
