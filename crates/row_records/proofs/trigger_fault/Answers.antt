use Rattle.row_records.proofs.Fields.{no-uses, fault-none, fault-some}
use Rattle.row_records.proofs.trigger_fault.Goals as goal

pub returns-then-kind-ne-FUNCTION : goal.returns-then-kind-ne-FUNCTION
returns-then-kind-ne-FUNCTION c = no-uses c.args.table.now c.args.bytes.now c.word-kind.ensures c.if-kind-ne-FUNCTION.true

pub returns-then-triggers_fit : goal.returns-then-triggers_fit
returns-then-triggers_fit c = let a = c.args in
    fault-none a.table.now a.bytes.now c.word-kind.ensures c.if-kind-ne-FUNCTION.false c.word.ensures c.base_length.ensures c.use_count-number.ensures
    c.behind_fields-behind.ensures.0 c.tail.ensures c.triggers_fit.ensures c.if-triggers_fit.true

pub returns : goal.returns
returns c = let a = c.args in
    fault-some a.table.now a.bytes.now c.word-kind.ensures c.if-kind-ne-FUNCTION.false c.word.ensures c.base_length.ensures c.use_count-number.ensures
    c.behind_fields-behind.ensures.0 c.tail.ensures c.triggers_fit.ensures c.if-triggers_fit.false
