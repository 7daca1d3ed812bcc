use Rattle.loop_times.specs.Loops.{BehindClose}
use Rattle.loop_times.proofs.behind_close.Given as goal

abbrev pub invariant-loop-at : goal.invariant-loop-at
invariant-loop-at l = BehindClose l.table l.row l.at
