use Rattle.std.proofs.Common.{sym, ap, ◌∙◌}
use native.Mathlib.Nat.{sub-zero}
use Rattle.net_file.specs.Contents.{transition_in}
use Rattle.net_step.proofs.StateWalks.{held-go, held-stop, held-end}
use Rattle.net_step.specs.Stepping.{holds_wait}
use Rattle.net_step.proofs.held.Goals as goal

pub loop-x-init : goal.loop-x-init
loop-x-init c = rw sub-zero

pub returns-then-holds : goal.returns-then-holds
returns-then-holds c = let l = c.loop-x in let a = c.args in
    sym (held-stop a.ticks a.marks.now a.net.now.count l.x l.rest.now a.clocks.now c.loop-x-test.true (ap (holds_wait a.ticks a.marks.now (transition_in l.rest.now)) (sym c.get.ensures) ∙ sym c.holds.ensures ∙ c.if-holds.true)) ∙ l.invariant

pub loop-x-preserved : goal.loop-x-preserved
loop-x-preserved c = let l = c.loop-x in let a = c.args in
    rw c.after-rest.ensures (sym (held-go a.ticks a.marks.now a.net.now.count l.x l.rest.now a.clocks.now c.loop-x-test.true (ap (holds_wait a.ticks a.marks.now (transition_in l.rest.now)) (sym c.get.ensures) ∙ sym c.holds.ensures ∙ c.if-holds.false)) ∙ l.invariant)

pub returns : goal.returns
returns c = let l = c.loop-x in let a = c.args in
    sym (held-end a.ticks a.marks.now a.net.now.count l.x l.rest.now a.clocks.now c.loop-x-test.false) ∙ l.invariant
