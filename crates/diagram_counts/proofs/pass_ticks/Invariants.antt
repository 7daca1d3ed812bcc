use Rattle.std.specs.Prelude.{◌≡◌, ◌≤◌, ◌-◌}
use Rattle.diagram_moves.specs.Changes.{tick_turn, fold}
use Rattle.diagram_counts.proofs.pass_ticks.Given as goal

abbrev pub invariant-loop-row : goal.invariant-loop-row
invariant-loop-row l = record {
  within : l.from ≤ l.rows;
  passed : l.state ≡ fold l.from (tick_turn l.ticks) l.initial.state;
}

abbrev pub decreases-loop-row : goal.decreases-loop-row
decreases-loop-row l = l.rows - l.from
