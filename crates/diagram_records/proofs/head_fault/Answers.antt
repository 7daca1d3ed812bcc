use Rattle.effbd.specs.Answers.{fault}
use Rattle.diagram_records.proofs.Fields.{head-fault-is}
use Rattle.diagram_records.proofs.head_fault.Goals as goal

pub returns : goal.returns
returns c = let a = c.args in
    head-fault-is a.bytes.now c.word-kind.result c.word.result c.base_length.result c.word-2.result c.word-3.result c.word-4.result (fault c.record_reason.result) c.head_fine-fine.result c.word-kind.ensures c.word.ensures
    c.base_length.ensures c.word-2.ensures c.word-3.ensures c.word-4.ensures c.head_fine-fine.ensures c.record_reason.ensures
