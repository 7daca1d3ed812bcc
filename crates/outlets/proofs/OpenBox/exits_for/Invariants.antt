use Rattle.std.specs.Prelude.{◌≡◌}
use Rattle.effbd.specs.Ranges.{how_many}
use Rattle.outlets.specs.Outlets.{names_in}
use Rattle.outlets.proofs.OpenBox.exits_for.Given as goal

abbrev pub invariant-loop-row : goal.invariant-loop-row
invariant-loop-row l = l.count ≡ how_many l.row (names_in l.self.table.now l.self.opened l.number)
