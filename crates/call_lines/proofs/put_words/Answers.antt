use Rattle.std.proofs.Common.{arith}
use Rattle.call_lines.proofs.WrittenTexts.{words_on}
use Rattle.text.specs.LaidLaws.{still, same, and_then}
use Rattle.call_lines.specs.Lines.{words_text}
use Rattle.call_lines.proofs.put_words.Goals as goal

pub loop-word-init : goal.loop-word-init
unfolding words_text
loop-word-init c = still _

pub loop-word-preserved : goal.loop-word-preserved
loop-word-preserved c = let l = c.loop-word in same (words_on c.args.state.now l.word-index (omega arith)) (and_then l.invariant c.put_number.ensures)
