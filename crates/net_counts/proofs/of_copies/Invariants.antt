use Rattle.net_records.specs.Writing.{Wrote, runs}
use Rattle.net_counts.specs.Marks.{copy_marks}
use Rattle.net_counts.proofs.of_copies.Given as goal

abbrev pub invariant-loop-item : goal.invariant-loop-item
invariant-loop-item l = Wrote l.initial.net l.net (runs (copy_marks l.table) l.item)
