use Rattle.std.proofs.Common.{◌≡◌, ◌+◌, ◌-◌, suc, sym, ◌∙◌, arith}
use Rattle.row_records.proofs.Fields.{fits-stop, fits-go, fits-over}
use Rattle.row_records.proofs.triggers_fit.Goals as goal

pub returns-then-not-use_fits : goal.returns-then-not-use_fits
returns-then-not-use_fits c = let l = c.loop in
    fits-stop c.args.table.now l.rest.now (c.args.count - l.counter) c.word.result c.word-in-loop.result c.word-in-loop-2.result (omega arith) c.word.ensures c.word-in-loop.ensures c.word-in-loop-2.ensures
    (sym c.if-not-use_fits.true ∙ c.use_fits.ensures) ∙ l.invariant

pub loop-preserved : goal.loop-preserved
loop-preserved c = let l = c.loop in let left : c.args.count - l.counter ≡ suc (c.args.count - (l.counter + 1)) = omega arith in
    fits-go c.args.table.now l.rest.now (c.args.count - l.counter) _ c.word.result c.word-in-loop.result c.word-in-loop-2.result c.tail-rest.result.now left c.word.ensures c.word-in-loop.ensures c.word-in-loop-2.ensures
    (sym c.if-not-use_fits.false ∙ c.use_fits.ensures) c.tail-rest.ensures ∙ l.invariant

pub returns : goal.returns
returns c = let l = c.loop in fits-over c.args.table.now l.rest.now (c.args.count - l.counter) (omega arith) ∙ l.invariant
