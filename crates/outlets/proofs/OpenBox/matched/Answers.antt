use Rattle.std.proofs.Common.{sym, ◌∙◌, arith}
use Rattle.ranges.specs.RangeLaws.{all-fail, all-intro}
use Rattle.outlets.specs.Outlets.{matched_at, matched_in}
use Rattle.outlets.proofs.Counting.{true-next}
use Rattle.outlets.proofs.OpenBox.matched.Goals as goal

pub loop-row-init : goal.loop-row-init
loop-row-init c = λ q l. absurd (omega arith)

pub returns-then-not-matched_at : goal.returns-then-not-matched_at
unfolding matched_in
returns-then-not-matched_at c = let s = c.loop-row in let a = c.args.self.now in sym (all-fail a.rows (matched_at a.table.now a.rows a.opened) s.row (omega arith) (sym c.matched_at.ensures ∙ c.if-not-matched_at.true))

pub loop-row-preserved : goal.loop-row-preserved
loop-row-preserved c = let s = c.loop-row in let a = c.args.self.now in true-next s.row (matched_at a.table.now a.rows a.opened) s.invariant (sym c.matched_at.ensures ∙ c.if-not-matched_at.false)

pub returns : goal.returns
unfolding matched_in
returns c = let s = c.loop-row in let a = c.args.self.now in sym (all-intro a.rows (matched_at a.table.now a.rows a.opened) (λ q l. s.invariant q (omega arith)))
