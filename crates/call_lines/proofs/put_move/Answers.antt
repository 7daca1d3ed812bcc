use Rattle.std.proofs.Common.{arith, ne_eqb}
use Rattle.call_lines.specs.Lines.{move_text}
use Rattle.text.specs.LaidLaws.{and_then}
use Rattle.call_lines.proofs.put_move.Goals as goal

pub returns-in-1 : goal.returns-in-1
unfolding move_text
returns-in-1 c = rw (c.in-1.is) c.put_named.ensures

pub returns-in-2 : goal.returns-in-2
unfolding move_text
returns-in-2 c = rw (c.in-2.is) c.put_named-in-2.ensures

pub returns-in_default : goal.returns-in_default
unfolding move_text
returns-in_default c = rw (ne_eqb c.args.code 1 (omega arith), ne_eqb c.args.code 2 (omega arith)) (and_then c.put_named-in_default.ensures c.put_named-in_default-2.ensures)
