use Rattle.std.proofs.Common.{◌-◌}
use Rattle.net_rows.specs.Rows.{branch_arc, walk}
use Rattle.net_rows.proofs.ConstructWalks.{Walking}
use Rattle.net_rows.proofs.branch_arcs.Given as goal

abbrev pub invariant-loop-row : goal.invariant-loop-row
invariant-loop-row l = let f = branch_arc l.table l.opened l.kind in Walking l.table l.closed f (walk l.table l.closed f l.closed l.opened) l.initial.net l.net l.row

abbrev pub decreases-loop-row : goal.decreases-loop-row
decreases-loop-row l = l.closed - l.row
