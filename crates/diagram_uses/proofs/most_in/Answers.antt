use Rattle.diagram_uses.proofs.UsesBlocked.{most-none, most-more, larger_is}
use Rattle.diagram_moves.specs.StandingCounts.{count-stands, most-standing}
use Rattle.diagram_moves.specs.Decisions.{most_of}
use native.Mathlib.Omega.{arith}
use mathlib.Core.Path.{sym, ◌∙◌, ap}
use Rattle.diagram_uses.proofs.most_in.Goals as goal

pub loop-index-init : goal.loop-index-init
loop-index-init c = let a = c.args in (omega arith, most-none a.rows a.first a.state.now)

pub known_count-requires : goal.known_count-requires
known_count-requires c = let a = c.args in count-stands a.rows a.first a.length a.state.now c.loop-index.index (omega (arith, c.standing-standing.ensures, c.loop-index-test.true))

pub loop-index-smaller : goal.loop-index-smaller
loop-index-smaller c = omega (arith, c.loop-index-test.true)

pub loop-index-preserved : goal.loop-index-preserved
loop-index-preserved c = let a = c.args in let l = c.loop-index in (omega (arith, c.loop-index-test.true), most-more a.rows a.first a.state.now l.index l.invariant.1 c.known_count.ensures (c.max-most.ensures ∙ larger_is c.loop-index.most c.known_count.result))

pub returns : goal.returns
returns c = let a = c.args in let l = c.loop-index in
    l.invariant.1 ∙ (ap (most_of a.rows a.first a.state.now) (omega (arith, c.loop-index-test.false, l.invariant.0, c.standing-standing.ensures)) ∙ sym (most-standing a.rows a.first a.length a.state.now))
