use Rattle.std.proofs.Common.{◌≡◌, length}
use Rattle.net_file.specs.Contents.{past_arcs}
use Rattle.net_walk.proofs.past.Given as goal

abbrev pub invariant-loop-rest : goal.invariant-loop-rest
invariant-loop-rest l = past_arcs l.rest ≡ past_arcs l.arcs

abbrev pub decreases-loop-rest : goal.decreases-loop-rest
decreases-loop-rest l = length l.rest
