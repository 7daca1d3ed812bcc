use Rattle.kinds.proofs.KindTable.{cells, table-right}
use Rattle.kinds.proofs.table.Goals as goal

pub returns : goal.returns
unfolding cells
returns c = table-right
