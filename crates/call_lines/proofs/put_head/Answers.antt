use Rattle.call_lines.specs.Lines.{head_text}
use Rattle.text.specs.LaidLaws.{and_then}
use Rattle.call_lines.proofs.put_head.Goals as goal

pub returns : goal.returns
unfolding head_text
returns c = and_then (and_then (and_then (and_then c.put_named.ensures c.put_named-2.ensures) c.put_named-3.ensures) c.put_named-4.ensures) c.put.ensures
