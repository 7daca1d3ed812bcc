use Rattle.std.proofs.Common.{ℕ, refl, sym, ◌∙◌, ap, length, eqb, arith}
use Rattle.effbd.specs.Answers.{number}
use Rattle.ranges.specs.Reasons.{number-some}
use Rattle.row_records.specs.Rows.{reached}
use Rattle.row_records.proofs.RowsFit.{fits, laid}
use Rattle.diagram_records.proofs.RecordsRead.{items-start, items-turn, items-stop, items-end}
use Rattle.diagram_records.proofs.Laid.{items-due, item-laid, items-laid-stop, items-laid}
use Rattle.diagram_records.proofs.read_items.Goals as goal

pub loop-item-init : goal.loop-item-init
loop-item-init c = let a = c.args in (items-start a.from a.lines.now a.table.now c.requires.table_len, items-due a.rows a.items a.from a.items a.lines.now a.table.now)

pub returns-in-Some : goal.returns-in-Some
returns-in-Some c = let l = c.loop-item in let a = c.args in let reason = c.in-Some.reason in record {
  items_read = items-stop a.from a.lines.now l.item l.at l.rest.now l.table l.invariant.0 a.items a.rows (number reason) c.loop-item-test.true c.in-Some.ensures (number-some reason);
  table_after = items-laid-stop a.rows a.items l.item l.at a.items l.rest.now l.table c.loop-item-test.true c.in-Some.ensures (number-some reason) ∙ l.invariant.1;
}

pub loop-item-preserved : goal.loop-item-preserved
loop-item-preserved c = let l = c.loop-item in let a = c.args in let b = c.requires.from_bound in let none = sym c.in_default.ensures in (
  items-turn a.from a.lines.now l.item l.at l.rest.now l.table l.invariant.0 c.word-size.result c.word.result (eqb c.word-in-loop-item.result 3) c.tail-rest.result.now c.put_item.new.table
      (omega arith) none c.word.ensures (ap (λ (x : ℕ). eqb x 3) c.word-in-loop-item.ensures) c.word-size.ensures c.tail-rest.ensures c.put_item.ensures,
  item-laid a.rows a.items l.item l.at a.items l.rest.now l.table c.loop-item-test.true (sym none) refl
      c.word.ensures (ap (λ (x : ℕ). eqb x 3) c.word-in-loop-item.ensures) c.word-size.ensures c.tail-rest.ensures c.put_item.ensures ∙ l.invariant.1,
)

pub returns : goal.returns
returns c = let l = c.loop-item in let a = c.args in let p = c.requires in let w = c.read in let t = w.new.table in
    let z = fits l.at a.rows a.items (length l.table) (let near = l.invariant.0.near in omega (arith, p.from_bound.0.0, p.from_bound.1)) p.from_bound.0.1 p.from_bound.1 l.invariant.0.long in record {
      items_read = items-end a.from a.lines.now l.item l.at l.rest.now l.table l.invariant.0 a.items a.rows t (reached w.result) (omega arith) (w.ensures.of z);
      table_after = items-laid a.rows a.items l.item l.at a.items l.rest.now l.table (omega arith) (laid a.items l.at l.rest.now a.rows l.table t (reached w.result) w.ensures z) ∙ l.invariant.1;
    }
