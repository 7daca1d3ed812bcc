use Rattle.std.proofs.Common.{◌≡◌, sym, ◌∙◌, arith}
use native.Mathlib.Nat.{sub-zero, zero-add}
use Rattle.net_walk.proofs.Turns.{lowest-go, lowest-found, lowest-end}
use Rattle.net_walk.proofs.lowest.Goals as goal

pub loop-j-init : goal.loop-j-init
loop-j-init c = rw (sub-zero, zero-add)

pub returns-then-stands-clause-number : goal.returns-then-stands-clause-number
returns-then-stands-clause-number c = let l = c.loop-j in let a = c.args in
    sym (lowest-found a.count l.j a.marks.now l.rest.now a.label c.loop-j-test.true (sym c.stands.ensures ∙ c.if-stands.true)) ∙ l.invariant

pub loop-j-preserved : goal.loop-j-preserved
loop-j-preserved c = let l = c.loop-j in let a = c.args in
    rw c.after-rest.ensures (sym (lowest-go a.count l.j a.marks.now l.rest.now a.label c.loop-j-test.true (sym c.stands.ensures ∙ c.if-stands.false)) ∙ l.invariant)

pub returns-clause-number : goal.returns-clause-number
returns-clause-number c = let l = c.loop-j in let a = c.args in
    let e : a.count ≡ l.j = omega arith in
    e ∙ sym (lowest-end a.count l.j a.marks.now l.rest.now a.label c.loop-j-test.false) ∙ l.invariant
