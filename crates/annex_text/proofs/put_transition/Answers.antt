use Rattle.text.specs.LaidLaws.{and_then, same}
use Rattle.annex_text.proofs.WrittenLines.{transition-of}
use Rattle.annex_text.proofs.put_transition.Goals as goal

pub returns : goal.returns
returns c = same (transition-of _ _ _ _ _ c.word.ensures c.word-2.ensures c.word-3.ensures)
    (and_then (and_then (and_then (and_then c.put_named.ensures c.put_named-2.ensures) c.put_named-3.ensures) c.put_named-4.ensures) c.put.ensures)
