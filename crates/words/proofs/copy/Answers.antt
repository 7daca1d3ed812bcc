use Rattle.std.proofs.Common.{refl, ◌∙◌, arith, rules}
use lib.ListN.{length-set}
use borrow.Author.Tests.{lt-leb}
use Rattle.words.proofs.Ends.{front-more, whole}
use Rattle.words.proofs.copy.Goals as goal

pub returns-then-to-from : goal.returns-then-to-from
returns-then-to-from c = rw (lt-leb _ _ c.if-to-from.true)

pub loop-i-init : goal.loop-i-init
loop-i-init c = (search rules, refl, refl)

pub loop-i-preserved : goal.loop-i-preserved
loop-i-preserved c = let l = c.loop-i in let a = c.args in
    (omega arith, simp length-set l.invariant.1, rw l.invariant.2 (front-more a.to.now a.from.now l.i (omega arith) (omega arith)))

pub returns : goal.returns
returns c = let l = c.loop-i in let a = c.args in
    l.invariant.2 ∙ whole a.to.now a.from.now l.i (omega arith) (omega arith) (omega arith)
