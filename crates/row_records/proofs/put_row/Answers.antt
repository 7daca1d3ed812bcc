use Rattle.row_records.specs.Rows.{put_row}
use Rattle.diagram_table.specs.CellStores.{put_all}
use lib.ListN.{length-set}
use native.Mathlib.Omega.{arith}
use mathlib.Core.Path.{refl}
use Rattle.row_records.proofs.put_row.Goals as goal

pub bounds-table-row-2 : goal.bounds-table-row-2
bounds-table-row-2 c = simp length-set (omega (arith, c.requires))

pub bounds-table-row-3 : goal.bounds-table-row-3
bounds-table-row-3 c = simp length-set (omega (arith, c.requires))

pub bounds-table-row-4 : goal.bounds-table-row-4
bounds-table-row-4 c = simp length-set (omega (arith, c.requires))

pub bounds-table-row-5 : goal.bounds-table-row-5
bounds-table-row-5 c = simp length-set (omega (arith, c.requires))

pub returns : goal.returns
unfolding put_row put_all
returns c = refl
