use Rattle.std.proofs.Common.{◌≡◌, ◌+◌, ◌-◌, suc, sym, ◌∙◌, ap, length, length-drop, arith}
use Rattle.effbd.specs.Diagrams.{uses_fine, uses_at}
use Rattle.row_records.proofs.Fields.{uses-stop, uses-go, uses-none}
use Rattle.row_records.proofs.uses_fine.Goals as goal

pub returns-then-not-use_fine : goal.returns-then-not-use_fine
returns-then-not-use_fine c = let l = c.loop in
    uses-stop c.args.items l.rest.now l.from (c.args.count - l.counter) c.known_word-item.result c.known_word.result c.known_word-in-loop.result (omega arith) c.known_word-item.ensures c.known_word.ensures c.known_word-in-loop.ensures
    (sym c.use_fine.ensures ∙ c.if-not-use_fine.true) ∙ l.invariant.1

pub loop-preserved : goal.loop-preserved
loop-preserved c = let l = c.loop in
    let m = ap length c.tail-rest.ensures ∙ length-drop 6 l.rest.now in let h = l.invariant.0 in let left : c.args.count - l.counter ≡ suc (c.args.count - (l.counter + 1)) = omega arith in (
      omega arith,
      uses-go c.args.items l.rest.now l.from (c.args.count - l.counter) _ c.known_word-item.result c.known_word.result c.known_word-in-loop.result c.tail-rest.result.now left c.known_word-item.ensures
          c.known_word.ensures c.known_word-in-loop.ensures (sym c.use_fine.ensures ∙ c.if-not-use_fine.false) c.tail-rest.ensures ∙ l.invariant.1,
    )

pub returns : goal.returns
returns c = let l = c.loop in
    let z : c.args.count - l.counter ≡ 0 = omega arith in
    (uses-none c.args.items l.from l.rest.now ∙ ap (λ n. uses_fine c.args.items l.from (uses_at n l.rest.now)) (sym z)) ∙ l.invariant.1
