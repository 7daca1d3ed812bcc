use Rattle.std.proofs.Common.{refl, arith}
use Rattle.net_step.proofs.StateWalks.{write-none, write-go, write-end}
use Rattle.net_step.specs.Stepping.{renewed_clock}
use Rattle.net_step.proofs.renew.Goals as goal

pub loop-x-init : goal.loop-x-init
loop-x-init c = let a = c.args in write-none (renewed_clock a.how a.marks.now) a.net.now.count a.net.now.transitions.now a.clocks.now

pub loop-x-preserved : goal.loop-x-preserved
loop-x-preserved c = let l = c.loop-x in let a = c.args in
    write-go (renewed_clock a.how a.marks.now) a.net.now.count a.net.now.transitions.now a.clocks.now l.clocks l.rest.now l.x l.invariant
    c.renewed.result _ _ c.after-rest.result.now c.requires (omega arith) refl c.renewed.ensures refl c.after-rest.ensures

pub returns : goal.returns
returns c = let l = c.loop-x in let a = c.args in
    write-end (renewed_clock a.how a.marks.now) a.net.now.count a.net.now.transitions.now a.clocks.now l.clocks l.rest.now l.x l.invariant c.requires (omega arith)
