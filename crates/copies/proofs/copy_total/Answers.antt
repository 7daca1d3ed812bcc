use Rattle.std.proofs.Common.{refl}
use Rattle.copies.proofs.Plants.{total-is}
use Rattle.copies.proofs.copy_total.Goals as goal

pub returns : goal.returns
returns c = let a = c.args in total-is a.file.now a.rows a.items a.table.now _ c.count_copies.new.wide c.cell.result refl c.count_copies.ensures c.cell.ensures
