use Rattle.net_records.specs.Writing.{Wrote, runs}
use Rattle.net_records.specs.Records.{mark}
use Rattle.net_counts.proofs.equal_marks.Given as goal

abbrev pub invariant-loop-copy : goal.invariant-loop-copy
invariant-loop-copy l = Wrote l.initial.net l.net (runs (λ j. mark l.weight) l._copy)
