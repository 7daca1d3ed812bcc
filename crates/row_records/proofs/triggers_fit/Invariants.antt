use Rattle.std.proofs.Common.{◌≡◌, ◌-◌}
use Rattle.effbd.specs.Diagrams.{uses_at}
use Rattle.row_records.specs.Rows.{triggers_fit}
use Rattle.row_records.proofs.triggers_fit.Given as goal

abbrev pub invariant-loop : goal.invariant-loop
invariant-loop l = triggers_fit l.table (uses_at (l.count - l.counter) l.rest) ≡ triggers_fit l.table (uses_at l.count l.uses)
