use Rattle.std.proofs.Common.{arith, ne_eqb}
use Rattle.call_lines.specs.Lines.{reason}
use Rattle.text.specs.LaidLaws.{same, still}
use Rattle.call_lines.proofs.put_reason_of.Goals as goal

pub returns-in_default : goal.returns-in_default
unfolding reason
returns-in_default c = let n = c.args.number in same (rw (ne_eqb n 10 (omega arith), ne_eqb n 20 (omega arith), ne_eqb n 21 (omega arith), ne_eqb n 22 (omega arith), ne_eqb n 23 (omega arith), ne_eqb n 24 (omega arith), ne_eqb n 25 (omega arith), ne_eqb n 26 (omega arith), ne_eqb n 27 (omega arith), ne_eqb n 30 (omega arith), ne_eqb n 31 (omega arith), ne_eqb n 32 (omega arith), ne_eqb n 33 (omega arith))) (still _)
