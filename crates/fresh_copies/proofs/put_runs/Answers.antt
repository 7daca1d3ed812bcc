use Rattle.fresh_copies.proofs.Turns.{runs_none, runs-turn}
use Rattle.fresh_copies.proofs.put_runs.Goals as goal

pub loop-item-init : goal.loop-item-init
loop-item-init c = let a = c.args in runs_none a.rows a.table.now a.state.now

pub loop-item-preserved : goal.loop-item-preserved
loop-item-preserved c = let l = c.loop-item in let a = c.args in
    runs-turn a.rows l.item _ _ _ a.table.now a.state.now l.state c.put_run.new.state l.invariant c.run_first-first.ensures c.run_length-many.ensures c.cell-count.ensures c.put_run.ensures
