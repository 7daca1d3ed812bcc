use Rattle.std.proofs.Common.{◌≡◌, ◌-◌, ◌*◌, ◌≤◌, length}
use Rattle.effbd.specs.Diagrams.{uses_fine, uses_at}
use Rattle.row_records.proofs.uses_fine.Given as goal

abbrev pub invariant-loop : goal.invariant-loop
invariant-loop l = (6 * (l.count - l.counter) ≤ length l.rest) × (uses_fine l.items l.from (uses_at (l.count - l.counter) l.rest) ≡ uses_fine l.items 0 (uses_at l.count l.uses))
