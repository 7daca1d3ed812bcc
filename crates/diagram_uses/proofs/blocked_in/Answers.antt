use Rattle.diagram_uses.proofs.UsesBlocked.{blocked-hit, blocked-miss, blocked-none}
use Rattle.diagram_table.proofs.UsesWalked.{uses-fall}
use lib.ListN.{length, length-drop}
use native.Mathlib.Omega.{arith}
use mathlib.Core.Path.{refl, ◌∙◌, ap}
use borrow.Author.Rules.{rules}
use Rattle.diagram_uses.proofs.blocked_in.Goals as goal

pub loop-rest-init : goal.loop-rest-init
loop-rest-init c = (search rules, refl)

pub returns-then-use_blocked : goal.returns-then-use_blocked
returns-then-use_blocked c = let a = c.args in let l = c.loop-rest in
    blocked-hit a.table.now a.giving a.rows a.items a.state.now a.row l.index l.rest.now c.loop-rest-test.true _ _ _ c.word-item.ensures c.amount-amount.ensures c.use_blocked.ensures c.if-use_blocked.true ∙ l.invariant.1

pub loop-rest-smaller : goal.loop-rest-smaller
loop-rest-smaller c = uses-fall c.loop-rest.rest.now c.tail-rest.result.now c.loop-rest-test.true c.tail-rest.ensures

pub loop-rest-preserved : goal.loop-rest-preserved
loop-rest-preserved c = let a = c.args in let l = c.loop-rest in (
  let b = l.invariant.0 in let t = c.loop-rest-test.true in omega (arith, ap length c.tail-rest.ensures, length-drop 6 l.rest.now),
  blocked-miss a.table.now a.giving a.rows a.items a.state.now a.row l.index l.rest.now c.loop-rest-test.true _ _ _ c.word-item.ensures c.amount-amount.ensures c.use_blocked.ensures c.tail-rest.result.now c.tail-rest.ensures c.if-use_blocked.false ∙ l.invariant.1,
)

pub returns : goal.returns
returns c = let a = c.args in let l = c.loop-rest in blocked-none a.table.now a.giving a.rows a.items a.state.now a.row l.index l.rest.now c.loop-rest-test.false ∙ l.invariant.1
