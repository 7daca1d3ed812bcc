use Rattle.std.proofs.Common.{rules, arith}
use Rattle.starts.proofs.WindowTurns.{follow-begins, follow-low, follow-some, follow-fits, follow-on, follow-ends}
use Rattle.starts.proofs.spans.Window.follow.Goals as goal

pub loop-self-init : goal.loop-self-init
loop-self-init c = follow-begins c.args.gaps.now c.args.self.now c.requires

pub overflow_sub-self : goal.overflow_sub-self
overflow_sub-self c = let l = c.loop-self in let f = (follow-low c.args.gaps.now c.args.self.now l.self l.invariant.1 l.invariant.0).0 in search rules

pub gap_at-gap-requires : goal.gap_at-gap-requires
gap_at-gap-requires c = let l = c.loop-self in (follow-low c.args.gaps.now c.args.self.now l.self l.invariant.1 l.invariant.0).1

pub overflow_add-self : goal.overflow_add-self
overflow_add-self c = let l = c.loop-self in let f = follow-fits c.args.gaps.now c.args.self.now l.self l.invariant.1 l.invariant.0 c.loop-self-test.true in let e = c.gap_at-gap.ensures.0 in search rules

pub overflow_sub-self-in-loop-self : goal.overflow_sub-self-in-loop-self
overflow_sub-self-in-loop-self c = let l = c.loop-self in follow-some c.args.gaps.now c.args.self.now l.self l.invariant.1 l.invariant.0 c.loop-self-test.true

pub loop-self-smaller : goal.loop-self-smaller
loop-self-smaller c = let l = c.loop-self in let f = follow-some c.args.gaps.now c.args.self.now l.self l.invariant.1 l.invariant.0 c.loop-self-test.true in omega arith

pub loop-self-preserved : goal.loop-self-preserved
loop-self-preserved c = let l = c.loop-self in let k = l.invariant.1 in
    (follow-on c.args.gaps.now c.args.self.now l.self k l.invariant.0 c.loop-self-test.true _ _ c.gap_at-gap.ensures.0 c.gap_at-gap.ensures.1, record { time = k.time; latest = k.latest; to = k.to; best = k.best })

pub returns : goal.returns
returns c = let l = c.loop-self in follow-ends c.args.gaps.now c.args.self.now l.self l.invariant.1 l.invariant.0 c.loop-self-test.false
