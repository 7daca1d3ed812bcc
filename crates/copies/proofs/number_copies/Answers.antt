use Rattle.std.proofs.Common.{◌∙◌, arith}
use Rattle.copies.proofs.Turns.{numbers-turn, numbers-end}
use Rattle.copies.proofs.number_copies.Goals as goal

pub loop-item-preserved : goal.loop-item-preserved
loop-item-preserved c = let l = c.loop-item in
    numbers-turn c.args.items l.item l.copies _ _ _ l.table c.put.new.state (omega arith) c.cell-receivers.ensures c.added.ensures c.put.ensures c.added-copies.ensures ∙ l.invariant

pub returns : goal.returns
returns c = let l = c.loop-item in numbers-end c.args.items l.item l.copies l.table c.put-2.new.state (omega arith) c.put-2.ensures ∙ l.invariant
