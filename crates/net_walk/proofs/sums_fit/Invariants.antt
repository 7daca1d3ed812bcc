use Rattle.net_file.specs.Contents.{arcs_in}
use Rattle.net_walk.specs.Walked.{sums}
use Rattle.std.proofs.Common.{◌≡◌, length}
use Rattle.net_walk.proofs.sums_fit.Given as goal

abbrev pub invariant-loop-rest : goal.invariant-loop-rest
invariant-loop-rest l = sums (arcs_in l.rest) l.marks ≡ sums (arcs_in l.arcs) l.marks

abbrev pub decreases-loop-rest : goal.decreases-loop-rest
decreases-loop-rest l = length l.rest
