use Rattle.std.proofs.Common.{sym, ◌∙◌, arith}
use Rattle.net_walk.proofs.Turns.{zeros-go, zeros-end}
use Rattle.net_walk.proofs.zero.Goals as goal

pub loop-place-preserved : goal.loop-place-preserved
loop-place-preserved c = let l = c.loop-place in
    (c.put.auto.state ∙ l.invariant.0, rw c.put.ensures (sym (zeros-go c.args.last l.place l.marks (omega arith)) ∙ l.invariant.1))

pub returns : goal.returns
returns c = let l = c.loop-place in sym (zeros-end c.args.last l.place l.marks (omega arith)) ∙ l.invariant.1
