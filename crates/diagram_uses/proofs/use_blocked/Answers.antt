use Rattle.diagram_uses.proofs.UsesBlocked.{one-blocked, give-is, more_given}
use borrow.Author.Tests.{eq-eqb, ne_eqb}
use Rattle.diagram_moves.specs.Decisions.{use_blocked, run_blocked}
use mathlib.Core.Bool.{Bool}
use mathlib.Core.Path.{◌≡◌, sym, subst}
use Rattle.diagram_uses.proofs.use_blocked.Goals as goal

pub returns-then-amount-eq0 : goal.returns-then-amount-eq0
unfolding use_blocked
returns-then-amount-eq0 c = rw (eq-eqb _ _ c.if-amount-eq0.true)

pub returns-then-length-eq1 : goal.returns-then-length-eq1
unfolding use_blocked
returns-then-length-eq1 c = let a = c.args in rw (ne_eqb _ _ c.if-amount-eq0.false, ← c.run_first-first.ensures, ← c.run_length-length.ensures) (one-blocked a.giving a.rows c.run_first-first.result a.amount a.state.now c.if-length-eq1.true c.count.ensures c.exceeds.ensures)

pub returns : goal.returns
unfolding use_blocked
returns c = let a = c.args in let first = c.run_first-first.result in let length = c.run_length-length.result in
    rw (ne_eqb _ _ c.if-amount-eq0.false, ← c.run_first-first.ensures, ← c.run_length-length.ensures)
    (subst (λ (g : Bool). c.exceeds-2.result ≡ run_blocked g a.rows first a.amount length a.state.now) (sym (more_given a.table.now a.giving a.item c.run_length-length.ensures c.if-length-eq1.false))
    (give-is a.rows first a.amount a.state.now length c.most_in-most.ensures c.exceeds-2.ensures))
