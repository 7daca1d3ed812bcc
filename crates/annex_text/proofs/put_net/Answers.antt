use Rattle.std.proofs.Common.{◌+◌, ◌*◌}
use Rattle.text.specs.LaidLaws.{and_then, same}
use Rattle.annex_text.proofs.MarksAndRecords.{rest-most}
use Rattle.annex_text.proofs.WrittenLines.{net-of}
use Rattle.annex_text.proofs.put_net.Goals as goal

pub put_records-requires : goal.put_records-requires
put_records-requires c = rest-most c.args.net.now _ (8 + 6 * c.word-places.result) _ c.tail-2.ensures c.requires

pub returns : goal.returns
returns c = same (net-of _ _ _ _ _ c.word-places.ensures c.word.ensures c.tail.ensures c.tail-2.ensures)
    (and_then (and_then (and_then (and_then c.put_line.ensures c.put_letters.ensures) c.put_marks.ensures) c.put.ensures) c.put_records.ensures)
