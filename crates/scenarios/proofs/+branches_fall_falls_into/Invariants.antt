-- The falling number is the row, doubled: `falls_into` calls `branches_fall` at the row before, and `branches_fall`, which has one more, calls
-- `falls_into` at rows up to its own.
use Rattle.std.proofs.Common.{◌+◌, ◌*◌}
use Rattle.scenarios.proofs.Branching.{SoFar}
use Rattle.scenarios.proofs.+branches_fall_falls_into.Given as goal

abbrev pub decreases-branches_fall : goal.decreases-branches_fall
decreases-branches_fall l = 2 * l.close + 1

abbrev pub decreases-falls_into : goal.decreases-falls_into
decreases-falls_into l = 2 * l.row

abbrev pub invariant-branches_fall-loop-row : goal.invariant-branches_fall-loop-row
invariant-branches_fall-loop-row l = SoFar l.table l.close l.row l.fall
