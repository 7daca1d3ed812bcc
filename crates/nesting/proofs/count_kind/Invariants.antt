use Rattle.std.specs.Prelude.{◌≡◌, ◌==◌, take, count_by}
use Rattle.nesting.proofs.count_kind.Given as goal

abbrev pub invariant-loop-each : goal.invariant-loop-each
invariant-loop-each l = l.count ≡ count_by (λ k. k == l.kind) (take l.each-index l.each-items)
