use Rattle.std.proofs.Common.{◌+◌}
use Rattle.net_records.specs.Records.{arc}
use Rattle.net_records.specs.Writing.{Wrote, runs}
use Rattle.net_uses.proofs.equal_arcs.Given as goal

abbrev pub invariant-loop-i : goal.invariant-loop-i
invariant-loop-i l = Wrote l.initial.net l.net (runs (λ j. arc l.kind (l.first + j) l.weight) l.i)
