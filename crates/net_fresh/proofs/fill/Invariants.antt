use Rattle.std.proofs.Common.{◌≡◌, ◌++◌, drop}
use Rattle.effbd.specs.Ranges.{tabulate}
use Rattle.net_fresh.specs.FreshWords.{fresh_word}
use Rattle.net_fresh.proofs.fill.Given as goal

abbrev pub invariant-loop-i : goal.invariant-loop-i
invariant-loop-i l = l.state ≡ tabulate l.i (fresh_word l.net l.places) ++ drop l.i l.initial.state
