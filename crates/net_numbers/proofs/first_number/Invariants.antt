use Rattle.std.proofs.Common.{◌≡◌, ◌*◌, ◌≤◌}
use Rattle.net_numbers.specs.Numbers.{first_number_in}
use Rattle.net_numbers.proofs.first_number.Given as goal

abbrev pub invariant-loop-below : goal.invariant-loop-below
invariant-loop-below l = (l.sum ≤ 3 * l.below) × (l.sum ≡ first_number_in l.table l.below)
