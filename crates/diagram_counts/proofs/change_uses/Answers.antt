use Rattle.diagram_counts.proofs.CountsChanged.{change-more, change-end}
use Rattle.diagram_table.proofs.UsesWalked.{uses-fall}
use lib.ListN.{length, length-drop}
use native.Mathlib.Omega.{arith}
use mathlib.Core.Path.{refl, ◌∙◌, ap}
use borrow.Author.Rules.{rules}
use Rattle.diagram_counts.proofs.change_uses.Goals as goal

pub loop-rest-init : goal.loop-rest-init
loop-rest-init c = (search rules, refl, refl)

pub loop-rest-smaller : goal.loop-rest-smaller
loop-rest-smaller c = uses-fall c.loop-rest.rest.now c.tail-rest.result.now c.loop-rest-test.true c.tail-rest.ensures

pub loop-rest-preserved : goal.loop-rest-preserved
loop-rest-preserved c = let a = c.args in let l = c.loop-rest in (
  let b = l.invariant.0 in let t = c.loop-rest-test.true in omega (arith, ap length c.tail-rest.ensures, length-drop 6 l.rest.now),
  c.change_use.auto.state ∙ l.invariant.1,
  change-more a.table.now a.giving a.rows a.row l.index l.rest.now l.state c.loop-rest-test.true _ _ _ _ c.word-item.ensures c.amount-amount.ensures c.change_use.ensures c.tail-rest.ensures ∙ l.invariant.2,
)

pub returns : goal.returns
returns c = let a = c.args in let l = c.loop-rest in change-end a.table.now a.giving a.rows a.row l.index l.rest.now l.state c.loop-rest-test.false ∙ l.invariant.2
