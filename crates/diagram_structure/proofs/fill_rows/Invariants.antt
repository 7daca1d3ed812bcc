use Rattle.std.specs.Prelude.{◌≡◌}
use Rattle.diagram_structure.specs.Structure.{structured}
use Rattle.diagram_structure.proofs.fill_rows.Given as goal

abbrev pub invariant-loop-row : goal.invariant-loop-row
invariant-loop-row l = l.table ≡ structured l.rows l.row l.initial.table
