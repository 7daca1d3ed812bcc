use Rattle.std.proofs.Common.{◌≡◌}
use Rattle.diagram.specs.FreshWords.{counts_put}
use Rattle.diagram.proofs.put_fresh.Given as goal

abbrev pub invariant-loop-item : goal.invariant-loop-item
invariant-loop-item l = l.state ≡ counts_put l.rows l.item l.table l.initial.state
