use Prim.Native.Nat.{ℕ, ◌≤◌}
use native.Mathlib.Omega.{arith}
use mathlib.Core.Path.{ap, sym, ◌∙◌}
use lib.ListN.{length, take, drop}
use mathlib.Core.List.{List, ◌++◌}
use Rattle.net_step.specs.declared.Renewal.TheVariants.{Waited}
use Rattle.ranges.specs.RangeLaws.{tail-is}
use Rattle.net_step.proofs.Cases.{tail-put, wait-zero, wait-held, wait-free, turned-away, moved_to}
use Rattle.net_file.specs.Contents.{transitions_in}
use Rattle.net_step.specs.Stepping.{clocks_by, renewed_clock}
use Rattle.net_step.proofs.wait_ticks.Goals as goal

pub returns-then-ticks-eq0 : goal.returns-then-ticks-eq0
returns-then-ticks-eq0 c = let a = c.args in
    let e = wait-zero (transitions_in a.net.now.count a.net.now.transitions.now) a.ticks a.marks.now (drop (length a.marks.now) a.state.now) c.if-ticks-eq0.true in
    turned-away a.state.now _ _ e

pub returns-then-held : goal.returns-then-held
returns-then-held c = let a = c.args in
    let e = wait-held (transitions_in a.net.now.count a.net.now.transitions.now) a.ticks a.marks.now (drop (length a.marks.now) a.state.now) c.if-ticks-eq0.false (rw tail-is at (sym c.held.ensures) ∙ c.if-held.true) in
    turned-away a.state.now _ _ e

pub returns : goal.returns
returns c = let a = c.args in
    let p = length a.marks.now in
    let l : p ≤ length a.state.now = omega (arith, c.requires.0) in
    let f = renewed_clock (Waited a.ticks) a.marks.now in
    let ts = transitions_in a.net.now.count a.net.now.transitions.now in
    let e = wait-free ts a.ticks a.marks.now (drop p a.state.now) c.if-ticks-eq0.false (rw tail-is at (sym c.held.ensures) ∙ c.if-held.false) in
    moved_to a.state.now _ _ _ e
    (tail-put p a.state.now c.renew.new.clocks l
    ∙ ap (λ (q : List ℕ). take p a.state.now ++ q) (c.renew.ensures ∙ ap (λ (q : List ℕ). clocks_by f 0 ts q) (tail-is p a.state.now))
    ∙ ap (λ (q : List ℕ). q ++ clocks_by f 0 ts (drop p a.state.now)) (sym c.requires.1))
