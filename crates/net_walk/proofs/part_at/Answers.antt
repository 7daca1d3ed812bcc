use Rattle.std.proofs.Common.{sym, ◌∙◌}
use Rattle.net_walk.proofs.Turns.{part-go, part_end}
use Rattle.net_walk.proofs.part_at.Goals as goal

pub loop-i-preserved : goal.loop-i-preserved
loop-i-preserved c = let l = c.loop-i in
    rw c.after-rest.ensures (sym (part-go c.args.j l.i l.rest.now c.loop-i-test.true) ∙ l.invariant)

pub returns : goal.returns
returns c = let l = c.loop-i in sym (part_end c.args.j l.i l.rest.now c.loop-i-test.false) ∙ l.invariant
