use Rattle.text.specs.LaidLaws.{still, and_then}
use Rattle.call_lines.proofs.put_answer_column.Goals as goal

pub returns-in-Ok-fired : goal.returns-in-Ok-fired
returns-in-Ok-fired c = rw (c.in-Ok.is, c.in-Ok-fired.is) (and_then c.put_gap.ensures (and_then c.put_answer.ensures c.put_transition.ensures))

pub returns-in_default : goal.returns-in_default
returns-in_default c = rw (c.in-Ok.is, c.in_default.is) (and_then c.put_gap.ensures (and_then c.put_answer.ensures (still _)))

pub returns-in-Err : goal.returns-in-Err
returns-in-Err c = rw (c.in-Err.is) (and_then c.put_gap.ensures (and_then (and_then c.put_refused.ensures c.put_reason_of.ensures) (still _)))
