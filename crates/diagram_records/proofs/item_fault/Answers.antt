use Rattle.effbd.specs.Answers.{fault}
use Rattle.diagram_records.proofs.Fields.{item-fault-is, item-short}
use Rattle.diagram_records.proofs.item_fault.Goals as goal

pub returns-then-bytes-lt4 : goal.returns-then-bytes-lt4
returns-then-bytes-lt4 c = let a = c.args in item-short a.bytes.now c.if-bytes-lt4.true

pub returns : goal.returns
returns c = let a = c.args in
    item-fault-is a.bytes.now c.word-kind.result c.word.result c.base_length.result (fault c.record_reason.result) c.is_item.result c.word-kind.ensures c.word.ensures
    c.base_length.ensures c.is_item.ensures c.record_reason.ensures
