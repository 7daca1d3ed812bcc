use Rattle.std.proofs.Common.{◌-◌}
use Rattle.text.specs.LaidLaws.{Ongoing}
use Rattle.annex_text.specs.Lines.{mark_numbers}
use Rattle.annex_text.proofs.put_marks.Given as goal

abbrev pub invariant-loop-place : goal.invariant-loop-place
invariant-loop-place l = Ongoing l.initial.text l.text (mark_numbers (l.places - l.place) l.rest) (mark_numbers l.places l.bytes)
