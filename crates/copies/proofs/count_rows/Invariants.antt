use Rattle.std.proofs.Common.{◌≡◌}
use Rattle.copies.specs.Counting.{rows_counted}
use Rattle.copies.proofs.count_rows.Given as goal

abbrev pub invariant-loop-row : goal.invariant-loop-row
invariant-loop-row l = l.table ≡ rows_counted l.file l.row l.initial.table
