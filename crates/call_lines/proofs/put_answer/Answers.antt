use Rattle.text.specs.LaidLaws.{and_then}
use Rattle.call_lines.proofs.put_answer.Goals as goal

pub returns-in-Err : goal.returns-in-Err
returns-in-Err c = rw (c.in-Err.is) (and_then (rw c.number.ensures at c.put_refused.ensures) c.put_reason.ensures)
