use Rattle.std.proofs.Common.{sym, arith}
use Rattle.call_lines.specs.Lines.{reason}
use Rattle.text.specs.LaidLaws.{same, still}
use Rattle.call_lines.proofs.put_reason.Goals as goal

pub returns-in-CutShort : goal.returns-in-CutShort
unfolding reason
returns-in-CutShort c = same (sym (grind (arith, c.in-CutShort.is))) (still _)
