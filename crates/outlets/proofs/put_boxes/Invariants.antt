use Rattle.outlets.specs.Outlets.{BoxesPut}
use Rattle.outlets.proofs.put_boxes.Given as goal

abbrev pub invariant-loop-row : goal.invariant-loop-row
invariant-loop-row l = BoxesPut l.rows l.initial.table l.row l.table
