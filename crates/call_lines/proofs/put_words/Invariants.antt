use Rattle.std.proofs.Common.{take}
use Rattle.call_lines.specs.Lines.{words_text}
use Rattle.text.specs.Laid.{Laid}
use Rattle.call_lines.proofs.put_words.Given as goal

abbrev pub invariant-loop-word : goal.invariant-loop-word
invariant-loop-word l = Laid l.initial.text l.text (words_text (take l.word-index l.state))
