use Rattle.std.specs.Prelude.{◌≡◌, ◌≤◌, ◌-◌, true}
use Rattle.effbd.specs.Ranges.{all_below}
use Rattle.diagram_moves.specs.Decisions.{row_free}
use Rattle.diagram_decide.proofs.waits.unheld.Given as goal

abbrev pub invariant-loop-row : goal.invariant-loop-row
invariant-loop-row l = record {
  within : l.from ≤ l.plant.rows;
  free : all_below l.from (row_free l.plant.table.now l.plant.rows l.plant.items l.plant.file.now l.state l.ticks) ≡ true;
}

abbrev pub decreases-loop-row : goal.decreases-loop-row
decreases-loop-row l = l.plant.rows - l.from
