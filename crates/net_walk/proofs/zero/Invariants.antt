use Rattle.std.proofs.Common.{◌≡◌, ◌+◌, ◌-◌, length}
use Rattle.net_walk.specs.Walked.{zeros}
use Rattle.net_walk.proofs.zero.Given as goal

abbrev pub invariant-loop-place : goal.invariant-loop-place
invariant-loop-place l = (length l.marks ≡ length l.initial.marks) × (zeros (l.last + 1 - l.place) l.place l.marks ≡ zeros (l.last + 1 - l.first) l.first l.initial.marks)
