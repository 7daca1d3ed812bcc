use Rattle.net_step.proofs.StateWalks.{Written}
use Rattle.net_step.specs.Stepping.{renewed_clock}
use Rattle.net_step.proofs.renew.Given as goal

abbrev pub invariant-loop-x : goal.invariant-loop-x
invariant-loop-x l = Written (renewed_clock l.how l.marks) l.net.count l.net.transitions.now l.initial.clocks l.clocks l.rest l.x
