use Rattle.std.proofs.Common.{refl, ap, sym, ◌∙◌, length, length-drop, arith}
use Rattle.net_file.proofs.Walks.{here-long, past_more, past-done}
use Rattle.net_walk.proofs.past.Goals as goal

pub loop-rest-init : goal.loop-rest-init
loop-rest-init c = refl

pub loop-rest-smaller : goal.loop-rest-smaller
loop-rest-smaller c = let l = c.loop-rest in
    omega (arith, ap length c.tail-rest.ensures, length-drop 8 l.rest.now, here-long l.rest.now (sym c.arc_here.ensures ∙ c.loop-rest-test.true))

pub loop-rest-preserved : goal.loop-rest-preserved
loop-rest-preserved c = let l = c.loop-rest in
    rw c.tail-rest.ensures (sym (past_more l.rest.now (sym c.arc_here.ensures ∙ c.loop-rest-test.true)) ∙ l.invariant)

pub returns : goal.returns
returns c = let l = c.loop-rest in sym (past-done l.rest.now (sym c.arc_here.ensures ∙ c.loop-rest-test.false)) ∙ l.invariant
