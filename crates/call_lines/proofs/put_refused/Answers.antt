use Rattle.text.specs.LaidLaws.{and_then}
use Rattle.call_lines.proofs.put_refused.Goals as goal

pub returns : goal.returns
returns c = and_then c.put_named.ensures c.put_number.ensures
