use Rattle.text.specs.LaidLaws.{and_then}
use Rattle.call_lines.proofs.put_ends.Goals as goal

pub returns : goal.returns
returns c =
    let counts = and_then c.put_named.ensures c.put_named-2.ensures in
    let leader = and_then (and_then counts c.put_letters.ensures) c.put_words.ensures in
    and_then (and_then leader c.put_letters-2.ensures) c.put_words-2.ensures
