use Rattle.std.proofs.Common.{length}
use Rattle.net_file.proofs.Standing.{Stands}
use Rattle.net_file.proofs.read_transitions.Given as goal

abbrev pub invariant-loop-rest : goal.invariant-loop-rest
invariant-loop-rest l = Stands l.count l.total l.transitions l.behind l.due l.rest

abbrev pub decreases-loop-rest : goal.decreases-loop-rest
decreases-loop-rest l = length l.rest
