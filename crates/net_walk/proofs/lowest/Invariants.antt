use Rattle.std.proofs.Common.{◌≡◌, ◌+◌, ◌-◌}
use Rattle.net_walk.specs.Walked.{lowest}
use Rattle.net_file.specs.Contents.{transitions_in}
use Rattle.net_walk.proofs.lowest.Given as goal

abbrev pub invariant-loop-j : goal.invariant-loop-j
invariant-loop-j l = l.j + lowest (transitions_in (l.count - l.j) l.rest) l.marks l.label ≡ lowest (transitions_in l.count l.transitions) l.marks l.label
