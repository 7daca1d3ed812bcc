use Rattle.text.specs.LaidLaws.{still}
use Rattle.call_lines.proofs.put_transition.Goals as goal

pub returns-in_default : goal.returns-in_default
returns-in_default c = rw (c.in_default.is) (still _)
