use Rattle.std.proofs.Common.{◌≡◌, ◌-◌}
use Rattle.net_file.specs.Contents.{part_at}
use Rattle.net_walk.proofs.part_at.Given as goal

abbrev pub invariant-loop-i : goal.invariant-loop-i
invariant-loop-i l = part_at (l.j - l.i) l.rest ≡ part_at l.j l.transitions
