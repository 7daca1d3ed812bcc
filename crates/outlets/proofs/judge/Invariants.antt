use Rattle.std.specs.Prelude.{ℕ, ◌<◌, ◌≡◌, true}
use Rattle.diagram_table.specs.Cells.{kind_in}
use Rattle.outlets.specs.Outlets.{matched_in}
use Rattle.outlets.proofs.judge.Given as goal

abbrev pub invariant-loop-opened : goal.invariant-loop-opened
invariant-loop-opened l = (o : ℕ) → o < l.opened → kind_in l.table o ≡ 29 → matched_in l.table l.rows o ≡ true
