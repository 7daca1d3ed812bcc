use Rattle.net_records.specs.Writing.{Wrote, runs}
use Rattle.net_counts.specs.Marks.{item_mark}
use Rattle.net_counts.proofs.of_items.Given as goal

abbrev pub invariant-loop-item : goal.invariant-loop-item
invariant-loop-item l = Wrote l.initial.net l.net (runs (item_mark l.table) l.item)
