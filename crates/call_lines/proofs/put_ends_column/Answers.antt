use Rattle.text.specs.LaidLaws.{and_then}
use Rattle.call_lines.proofs.put_ends_column.Goals as goal

pub returns : goal.returns
returns c = and_then (and_then c.put_gap.ensures c.put_ends.ensures) c.put.ensures
