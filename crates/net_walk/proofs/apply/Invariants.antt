use Rattle.std.proofs.Common.{◌≡◌, length}
use Rattle.net_walk.specs.Walked.{applied}
use Rattle.net_file.specs.Contents.{arcs_in}
use Rattle.net_walk.proofs.apply.Given as goal

abbrev pub invariant-loop-rest : goal.invariant-loop-rest
invariant-loop-rest l = (length l.marks ≡ length l.initial.marks) × (applied l.kind (arcs_in l.rest) l.marks ≡ applied l.kind (arcs_in l.arcs) l.initial.marks)

abbrev pub decreases-loop-rest : goal.decreases-loop-rest
decreases-loop-rest l = length l.rest
