use Rattle.scenarios.proofs.Falling.{NoneFalls}
use Rattle.scenarios.proofs.read_scenarios.Given as goal

abbrev pub invariant-loop-row : goal.invariant-loop-row
invariant-loop-row l = NoneFalls l.table l.rows l.row
