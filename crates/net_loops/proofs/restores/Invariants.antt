use Rattle.std.proofs.Common.{◌+◌, ◌-◌, ◌≤◌}
use Rattle.net_records.specs.Writing.{Wrote, span}
use Rattle.net_clears.specs.Clearing.{restore}
use Rattle.net_loops.proofs.restores.Given as goal

abbrev pub invariant-loop-row : goal.invariant-loop-row
invariant-loop-row l = (l.row - l.opened ≤ l.closed + 1 - l.opened) × Wrote l.initial.net l.net (span (restore l.table) l.opened l.row)
