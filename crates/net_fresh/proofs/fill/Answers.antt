use Rattle.std.proofs.Common.{◌∙◌, arith}
use Rattle.net_fresh.specs.FreshWords.{fresh_word}
use Rattle.net_fresh.proofs.Freshness.{front-more, front-all}
use Rattle.net_fresh.proofs.fill.Goals as goal

pub loop-i-preserved : goal.loop-i-preserved
loop-i-preserved c = let l = c.loop-i in let a = c.args in
    rw (c.fresh_word.ensures, l.invariant) (front-more a.state.now (fresh_word a.net.now a.places) l.i c.loop-i-test.true)

pub returns : goal.returns
returns c = let l = c.loop-i in let a = c.args in
    l.invariant ∙ front-all a.state.now (fresh_word a.net.now a.places) l.i (omega arith)
