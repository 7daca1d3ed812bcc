use Rattle.std.proofs.Common.{◌+◌, ◌-◌, ◌≤◌}
use Rattle.net_records.specs.Writing.{Wrote, span}
use Rattle.net_clears.specs.Clearing.{revive}
use Rattle.net_clears.proofs.revives.Given as goal

abbrev pub invariant-loop-row : goal.invariant-loop-row
invariant-loop-row l = (l.row - (l.opened + 1) ≤ l.closed - (l.opened + 1)) × Wrote l.initial.net l.net (span (revive l.table l.opened) (l.opened + 1) l.row)
