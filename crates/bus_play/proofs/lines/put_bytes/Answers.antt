use Rattle.text.specs.LaidLaws.{and_then, same}
use Rattle.bus_play.proofs.WrittenCalls.{telegram-text, other_text}
use Rattle.bus_play.proofs.lines.put_bytes.Goals as goal

pub returns-then-is_telegram : goal.returns-then-is_telegram
returns-then-is_telegram c = same (telegram-text _ _ c.is_telegram.ensures c.if-is_telegram.true _ _ c.long.ensures c.word.ensures) (and_then c.put_named.ensures c.put_named-then-is_telegram.ensures)

pub returns : goal.returns
returns c = same (other_text _ _ c.is_telegram.ensures c.if-is_telegram.false) (and_then c.put_named-2.ensures c.put_letters.ensures)
