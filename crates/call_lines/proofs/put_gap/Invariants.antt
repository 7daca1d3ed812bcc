use Rattle.call_lines.specs.Lines.{spaces}
use Rattle.text.specs.Laid.{Laid}
use Rattle.call_lines.proofs.put_gap.Given as goal

abbrev pub invariant-loop : goal.invariant-loop
invariant-loop l = Laid l.initial.text l.text (spaces l.counter)
