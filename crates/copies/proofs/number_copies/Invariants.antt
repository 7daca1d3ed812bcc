use Rattle.std.proofs.Common.{◌≡◌, ◌-◌}
use Rattle.copies.specs.Counting.{copies_numbered}
use Rattle.copies.proofs.number_copies.Given as goal

abbrev pub invariant-loop-item : goal.invariant-loop-item
invariant-loop-item l = copies_numbered l.items (l.items - l.item) l.item l.copies l.table ≡ copies_numbered l.items l.items 0 0 l.initial.table
