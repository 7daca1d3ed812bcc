use Rattle.row_records.proofs.Fields.{behind-base, function-fault, limit-fault, other-fault, row-short}
use native.Mathlib.Omega.{arith}
use Rattle.row_records.proofs.row_fault.Goals as goal

pub returns-then-bytes-lt4 : goal.returns-then-bytes-lt4
returns-then-bytes-lt4 c = let a = c.args in row-short a.items a.bytes.now c.if-bytes-lt4.true

pub function_fault-requires : goal.function_fault-requires
function_fault-requires c = let a = c.args in
    behind-base c.in-16.is c.base_length-base.ensures c.behind_fields-behind.ensures.0

pub returns-in-16 : goal.returns-in-16
returns-in-16 c = let a = c.args in
    function-fault a.items a.bytes.now c.word-kind.ensures c.in-16.is c.base_length-base.ensures
    c.behind_fields-behind.ensures.0 c.function_fault.ensures

pub returns-in-22 : goal.returns-in-22
returns-in-22 c = let a = c.args in
    limit-fault a.items a.bytes.now c.word-kind.ensures c.word-size.ensures c.in-22.is c.base_length-base.ensures c.word.ensures c.turn_limit_fine-fine.ensures c.record_reason.ensures

pub returns-in_default : goal.returns-in_default
returns-in_default c = let a = c.args in
    other-fault a.items a.bytes.now c.word-kind.ensures c.word-size.ensures (omega arith) (omega arith) c.is_row-due.ensures c.base_length-base.ensures c.record_reason-in_default.ensures
