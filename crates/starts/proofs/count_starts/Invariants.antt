use Rattle.std.specs.Prelude.{◌≡◌, ◌≤◌, length}
use Rattle.starts.specs.Counting.{Counting}
use Rattle.diagram_moves.proofs.FunctionMoves.{Small}
use Rattle.starts.proofs.count_starts.Given as goal

abbrev pub invariant-loop-index : goal.invariant-loop-index
invariant-loop-index l = (l.index ≤ l.count) × Counting l.plant.file.now l.log l.plant.rows l.plant.items l.plant.table.now l.row l.index l.state l.gaps l.window × Small l.state × (length l.state ≡ length l.initial.state) × (length l.gaps ≡ length l.initial.gaps)
