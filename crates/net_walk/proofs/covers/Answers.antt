use Rattle.std.proofs.Common.{refl, ap, sym, ◌∙◌, length, length-drop, arith}
use Rattle.net_walk.proofs.Turns.{take_long, covered-go, covered-stop, covered-end}
use Rattle.net_walk.proofs.covers.Goals as goal

pub loop-rest-init : goal.loop-rest-init
loop-rest-init c = refl

pub returns-then-get-word : goal.returns-then-get-word
returns-then-get-word c = let l = c.loop-rest in
    sym (covered-stop c.args.marks.now l.rest.now c.word.result c.word-in-loop-rest.result c.get.result (sym c.take_here.ensures ∙ c.loop-rest-test.true) c.word.ensures c.word-in-loop-rest.ensures c.get.ensures c.if-get-word.true) ∙ l.invariant

pub loop-rest-smaller : goal.loop-rest-smaller
loop-rest-smaller c = let l = c.loop-rest in
    omega (arith, ap length c.tail-rest.ensures, length-drop 8 l.rest.now, take_long l.rest.now (sym c.take_here.ensures ∙ c.loop-rest-test.true))

pub loop-rest-preserved : goal.loop-rest-preserved
loop-rest-preserved c = let l = c.loop-rest in
    rw c.tail-rest.ensures (sym (covered-go c.args.marks.now l.rest.now c.word.result c.word-in-loop-rest.result c.get.result (sym c.take_here.ensures ∙ c.loop-rest-test.true) c.word.ensures c.word-in-loop-rest.ensures c.get.ensures c.if-get-word.false) ∙ l.invariant)

pub returns : goal.returns
returns c = let l = c.loop-rest in
    sym (covered-end c.args.marks.now l.rest.now (sym c.take_here.ensures ∙ c.loop-rest-test.false)) ∙ l.invariant
