use native.Mathlib.Omega.{arith}
use Rattle.row_records.proofs.Fields.{function-cut, function-whole}
use Rattle.row_records.proofs.function_fault.Goals as goal

pub returns-then-bytes-size : goal.returns-then-bytes-size
returns-then-bytes-size c = let a = c.args in function-cut a.items a.bytes.now a.base a.behind c.word-size.ensures c.function_right-right.ensures c.if-bytes-size.true c.record_reason.ensures

pub function_fine-fine-requires : goal.function_fine-fine-requires
function_fine-fine-requires c = let h = c.word-size.ensures in (omega (arith, h, c.if-bytes-size.false), c.requires)

pub returns : goal.returns
returns c = let a = c.args in function-whole a.items a.bytes.now a.base a.behind c.word-size.ensures c.function_right-right.ensures c.function_fine-fine.ensures c.record_reason-2.ensures
