use Rattle.std.proofs.Common.{refl, ap, sym, ◌∙◌, length, length-drop, arith}
use Rattle.net_walk.proofs.Turns.{applied-go, applied-end}
use Rattle.net_file.proofs.Walks.{here-long}
use Rattle.net_walk.proofs.apply.Goals as goal

pub loop-rest-init : goal.loop-rest-init
loop-rest-init c = (refl, refl)

pub loop-rest-smaller : goal.loop-rest-smaller
loop-rest-smaller c = let l = c.loop-rest in
    omega (arith, ap length c.tail-rest.ensures, length-drop 8 l.rest.now, here-long l.rest.now (sym c.arc_here.ensures ∙ c.loop-rest-test.true))

pub loop-rest-preserved : goal.loop-rest-preserved
loop-rest-preserved c = let l = c.loop-rest in (
  c.change_if.auto.marks ∙ l.invariant.0,
  rw c.tail-rest.ensures (sym (applied-go l.marks l.rest.now (sym c.arc_here.ensures ∙ c.loop-rest-test.true) c.args.kind c.change_if.new.marks c.change_if.ensures) ∙ l.invariant.1),
)

pub returns : goal.returns
returns c = let l = c.loop-rest in
    sym (applied-end l.marks l.rest.now (sym c.arc_here.ensures ∙ c.loop-rest-test.false) c.args.kind) ∙ l.invariant.1
