use Rattle.std.proofs.Common.{◌≡◌, ◌+◌, ◌*◌, ap, ℕ, length, length-append, refl, ◌∙◌, arith}
use Rattle.effbd.specs.Diagrams.{most_items}
use Rattle.copies.specs.Counting.{uses_counted}
use Rattle.diagram_table.specs.Cells.{counted_total, rank_cell, uses_of}
use Rattle.copies.proofs.Turns.{chunk-turn, uses-end}
use Rattle.copies.proofs.count_uses.Goals as goal

pub loop-index-init : goal.loop-index-init
loop-index-init c = let a = c.args in let it = c.into_iter-index-iterator.ensures.into_iter_gives in let e = c.enumerate-index-items.ensures in let k = c.chunks_exact.ensures in
    rw (it, e.count, e.source, k.rest, k.size) (refl, omega arith, (let z : counted_total + most_items * a.row + 0 ≡ rank_cell a.row 0 = omega arith in ap (λ (n : ℕ). uses_counted n (uses_of a.uses.now) a.table.now) z))

pub loop-index-preserved : goal.loop-index-preserved
loop-index-preserved c = let s = c.in-Some.ensures.steps in let l = c.loop-index in
    let old = l.index-iterator in let new = c.next.new.self in let first = counted_total + most_items * c.args.row in let index = c.in-Some.index in
    let six = s.0.1.1 ∙ l.invariant.0 in
    let here : first + index ≡ first + old.count = omega arith in let next : first + new.count ≡ first + index + 1 = omega arith in (
      s.0.0 ∙ l.invariant.0,
      omega (arith, ap length s.0.1.0, length-append c.in-Some.one.now new.iter.rest.now),
      ap (λ (n : ℕ). uses_counted n (uses_of new.iter.rest.now) c.count_use.new.table) next
          ∙ (chunk-turn (first + index) c.word-item.result c.word-much.result c.in-Some.one.now new.iter.rest.now old.iter.rest.now l.table c.count_use.new.table s.0.1.0 six c.word-item.ensures c.word-much.ensures c.count_use.ensures
          ∙ (ap (λ (n : ℕ). uses_counted n (uses_of old.iter.rest.now) l.table) here ∙ l.invariant.2)),
    )

pub returns : goal.returns
returns c = let s = c.in-None.ensures.steps in let l = c.loop-index in
    uses-end (counted_total + most_items * c.args.row + l.index-iterator.count) l.index-iterator.iter.rest.now l.table (omega (arith, s.0.1.0, l.invariant.0)) ∙ l.invariant.2
