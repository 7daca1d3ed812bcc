use Rattle.call_lines.proofs.WrittenTexts.{one-lost, some-lost, none-lost}
use Rattle.text.specs.LaidLaws.{and_then, same}
use Rattle.call_lines.proofs.put_closing.Goals as goal

pub returns-then-sent-taken : goal.returns-then-sent-taken
returns-then-sent-taken c = same (none-lost _ _ c.if-sent-taken.true) c.put_letters.ensures

pub returns-then-sent-first : goal.returns-then-sent-first
returns-then-sent-first c = same (one-lost _ _ c.if-sent-taken.false c.if-sent-first.true) (and_then c.put_named.ensures c.put_letters-then-sent-first.ensures)

pub returns : goal.returns
returns c = same (some-lost _ _ c.if-sent-taken.false c.if-sent-first.false) (and_then (and_then c.put_named-2.ensures c.put_named-3.ensures) c.put_letters-2.ensures)
