use Rattle.std.proofs.Common.{◌≡◌}
use Rattle.fresh_copies.specs.Runs.{runs_put}
use Rattle.fresh_copies.proofs.put_runs.Given as goal

abbrev pub invariant-loop-item : goal.invariant-loop-item
invariant-loop-item l = l.state ≡ runs_put l.rows l.item l.table l.initial.state
