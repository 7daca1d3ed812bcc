use Rattle.net_records.proofs.Writing.{◌and_then◌}
use Rattle.net_clears.specs.Clearing.{kill}
use Rattle.net_clears.proofs.kill.Goals as goal

pub returns : goal.returns
unfolding kill
returns c = rw (← c.cell-closed.ensures, ← c.saturating_sub-last.ensures) (c.pair.ensures and_then c.revives.ensures)
