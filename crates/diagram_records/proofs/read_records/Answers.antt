use Rattle.std.proofs.Common.{refl}
use Rattle.effbd.specs.Answers.{number}
use Rattle.ranges.specs.Reasons.{number-some}
use Rattle.diagram_records.proofs.Files.{head-bad, head_near, read_through}
use Rattle.diagram_records.proofs.Laid.{other_length, head-laid, file-laid}
use Rattle.diagram_records.proofs.read_records.Goals as goal

pub returns-then-table-ne-CELLS : goal.returns-then-table-ne-CELLS
returns-then-table-ne-CELLS c = let a = c.args in record { is = other_length a.file.now a.table.now c.if-table-ne-CELLS.true; other = λ _. refl; of = λ z. absurd (c.if-table-ne-CELLS.true z) }

pub returns-in-Some : goal.returns-in-Some
returns-in-Some c = let a = c.args in let z = c.if-table-ne-CELLS.false in let reason = c.in-Some.reason in record {
  is = head-laid a.file.now a.table.now z c.in-Some.ensures (number-some reason);
  other = λ ne. absurd (ne z);
  of = λ _. head-bad a.file.now a.table.now (number reason) c.in-Some.ensures (number-some reason);
}

pub read_items-requires : goal.read_items-requires
read_items-requires c = record {
  from_bound = head_near c.args.file.now c.in_default.ensures refl c.word-size.ensures c.word-rows.ensures c.word-items.ensures;
  table_len = c.if-table-ne-CELLS.false;
}

pub returns : goal.returns
returns c = let a = c.args in let z = c.if-table-ne-CELLS.false in record {
  is = file-laid a.file.now a.table.now z c.in_default.ensures refl c.word-size.ensures c.word-rows.ensures c.word-items.ensures c.tail.ensures c.read_items.ensures.table_after;
  other = λ ne. absurd (ne z);
  of = λ _. read_through a.file.now c.in_default.ensures refl c.word-size.ensures c.word-rows.ensures c.word-items.ensures c.tail.ensures c.read_items.ensures.items_read;
}
