use Rattle.std.specs.Prelude.{◌≤◌}
use Rattle.loop_times.proofs.Looks.{SeenFrom}
use Rattle.loop_times.proofs.judge.Given as goal

abbrev pub invariant-loop-row : goal.invariant-loop-row
invariant-loop-row l = SeenFrom l.table l.rows l.row l.seen × (l.row ≤ l.rows)

abbrev pub decreases-loop-row : goal.decreases-loop-row
decreases-loop-row l = l.row
