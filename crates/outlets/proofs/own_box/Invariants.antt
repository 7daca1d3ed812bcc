use Prim.Native.Nat.{◌<◌}
use Rattle.outlets.proofs.Scenarios.{Climb}
use Rattle.outlets.proofs.own_box.Given as goal

abbrev pub invariant-loop-around : goal.invariant-loop-around
invariant-loop-around l = (l.owner < 65536) × Climb l.table l.row l.owner

abbrev pub decreases-loop-around : goal.decreases-loop-around
decreases-loop-around l = l.owner
