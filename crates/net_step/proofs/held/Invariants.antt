use Rattle.std.proofs.Common.{◌≡◌, ◌-◌}
use Rattle.net_file.specs.Contents.{transitions_in}
use Rattle.net_step.specs.Stepping.{wait_held}
use Rattle.net_step.proofs.held.Given as goal

abbrev pub invariant-loop-x : goal.invariant-loop-x
invariant-loop-x l = wait_held l.ticks l.marks l.x (transitions_in (l.net.count - l.x) l.rest) l.clocks ≡ wait_held l.ticks l.marks 0 (transitions_in l.net.count l.net.transitions.now) l.clocks
