use Rattle.copies.proofs.Turns.{rows_none, rows-turn}
use Rattle.copies.proofs.count_rows.Goals as goal

pub loop-row-init : goal.loop-row-init
loop-row-init c = rows_none c.args.file.now c.args.table.now

pub loop-row-preserved : goal.loop-row-preserved
loop-row-preserved c = let l = c.loop-row in let a = c.args in
    rows-turn a.file.now l.row a.table.now l.table c.count_row.new.table l.invariant c.count_row.ensures
