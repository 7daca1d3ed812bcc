use Rattle.outlets.proofs.Passes.{Outward}
use Rattle.outlets.proofs.put_outlets.Given as goal

abbrev pub invariant-loop-row : goal.invariant-loop-row
invariant-loop-row l = Outward l.rows l.initial.table l.row l.table
