use Rattle.net_file.proofs.Walks.{here-long}
use Rattle.net_walk.proofs.Turns.{sums-go, sums-stop, sums-end}
use Rattle.std.proofs.Common.{refl, ap, sym, ◌∙◌, length, length-drop, arith}
use Rattle.net_walk.proofs.sums_fit.Goals as goal

pub loop-rest-init : goal.loop-rest-init
loop-rest-init c = refl

pub returns-then-too_much : goal.returns-then-too_much
returns-then-too_much c = let l = c.loop-rest in
    sym (sums-stop c.args.marks.now l.rest.now (sym c.arc_here.ensures ∙ c.loop-rest-test.true) c.word.result (sym c.too_much.ensures ∙ c.if-too_much.true) c.word.ensures) ∙ l.invariant

pub loop-rest-smaller : goal.loop-rest-smaller
loop-rest-smaller c = let l = c.loop-rest in
    omega (arith, ap length c.tail-rest.ensures, length-drop 8 l.rest.now, here-long l.rest.now (sym c.arc_here.ensures ∙ c.loop-rest-test.true))

pub loop-rest-preserved : goal.loop-rest-preserved
loop-rest-preserved c = let l = c.loop-rest in
    rw c.tail-rest.ensures (sym (sums-go c.args.marks.now l.rest.now (sym c.arc_here.ensures ∙ c.loop-rest-test.true) (sym c.too_much.ensures ∙ c.if-too_much.false)) ∙ l.invariant)

pub returns : goal.returns
returns c = let l = c.loop-rest in
    sym (sums-end c.args.marks.now l.rest.now (sym c.arc_here.ensures ∙ c.loop-rest-test.false)) ∙ l.invariant
