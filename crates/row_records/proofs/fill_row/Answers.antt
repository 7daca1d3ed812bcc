use Rattle.row_records.proofs.Fields.{function-row, killer-row, other_row}
use Rattle.row_records.proofs.fill_row.Goals as goal

pub returns-then-kind-eq-FUNCTION : goal.returns-then-kind-eq-FUNCTION
returns-then-kind-eq-FUNCTION c = let a = c.args in
    function-row a.row a.at a.bytes.now a.table.now c.word-kind.ensures c.field_count-fields.ensures.0 c.field-first.ensures c.field-second.ensures
    c.if-kind-eq-FUNCTION.true c.word.ensures c.base_length.ensures c.use_count-number.ensures c.behind_fields.ensures.0 c.put_row.ensures

pub returns-then-kind-eq-KILLING_BRANCH : goal.returns-then-kind-eq-KILLING_BRANCH
returns-then-kind-eq-KILLING_BRANCH c = let a = c.args in
    killer-row a.row a.at a.bytes.now a.table.now c.word-kind.ensures c.field_count-fields.ensures.0 c.field-first.ensures c.field-second.ensures
    c.if-kind-eq-KILLING_BRANCH.true c.put_row-then-kind-eq-KILLING_BRANCH.ensures

pub returns-else-kind-eq-KILLING_BRANCH : goal.returns-else-kind-eq-KILLING_BRANCH
returns-else-kind-eq-KILLING_BRANCH c = let a = c.args in
    other_row a.row a.at a.bytes.now a.table.now c.word-kind.ensures c.field_count-fields.ensures.0 c.field-first.ensures c.field-second.ensures
    c.if-kind-eq-FUNCTION.false c.if-kind-eq-KILLING_BRANCH.false c.put_row-else-kind-eq-KILLING_BRANCH.ensures
