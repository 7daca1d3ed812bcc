use Rattle.std.specs.Prelude.{ℕ, ◌-◌, refl}
use Rattle.std.proofs.Common.{subst, arith}
use Rattle.loop_times.proofs.Looks.{SeenFrom, seen_none, seen-before, seen-close, loops-fine, loops-faulty}
use Rattle.loop_times.proofs.judge.Goals as goal

pub loop-row-init : goal.loop-row-init
loop-row-init c = let a = c.args in let b = c.behind_close-row.ensures in (seen-close a.table.now a.rows a.rows (omega arith) _ (seen_none a.table.now a.rows) c.behind_close-row.result refl b, b.low)

pub loop-row-preserved-then-seen-eq0 : goal.loop-row-preserved-then-seen-eq0
loop-row-preserved-then-seen-eq0 c = let a = c.args in let s = c.loop-row in let b = c.behind_close-row-then-seen-eq0.ensures in (
  seen-close a.table.now a.rows (s.row - 1) (omega (arith, s.invariant.1)) c.look-seen.result (seen-before a.table.now a.rows s.row s.invariant.1 s.seen s.invariant.0 c.look-seen.result c.loop-row-test.true c.look-seen.ensures) c.behind_close-row-then-seen-eq0.result c.if-seen-eq0.true b,
  omega (arith, s.invariant.1, b.low),
)

pub loop-row-preserved : goal.loop-row-preserved
loop-row-preserved c = let a = c.args in let s = c.loop-row in (seen-before a.table.now a.rows s.row s.invariant.1 s.seen s.invariant.0 c.look-seen.result c.loop-row-test.true c.look-seen.ensures, omega (arith, s.invariant.1))

pub returns-in-Some : goal.returns-in-Some
returns-in-Some c = let a = c.args in let s = c.loop-row in loops-faulty a.table.now a.rows s.seen (subst (λ (n : ℕ). SeenFrom a.table.now a.rows n s.seen) (omega (arith, c.loop-row-test.false)) s.invariant.0) c.in-Some.first c.in-Some.is

pub returns-in-None : goal.returns-in-None
returns-in-None c = let a = c.args in let s = c.loop-row in loops-fine a.table.now a.rows s.seen (subst (λ (n : ℕ). SeenFrom a.table.now a.rows n s.seen) (omega (arith, c.loop-row-test.false)) s.invariant.0) c.in-None.is
