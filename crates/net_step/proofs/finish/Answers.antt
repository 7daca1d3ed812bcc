use Prim.Native.Nat.{ℕ, ◌≤◌}
use native.Mathlib.Omega.{arith}
use mathlib.Core.Path.{ap, ◌∙◌}
use lib.ListN.{length, drop}
use mathlib.Core.List.{List, ◌++◌}
use Rattle.effbd.specs.Nets.{give_arc}
use Rattle.net_step.specs.declared.Renewal.TheVariants.{Fired}
use Rattle.net_step.proofs.Cases.{written, fired-clocks}
use Rattle.net_walk.specs.Walked.{applied}
use Rattle.net_file.specs.Contents.{arcs_in, transitions_in}
use Rattle.net_step.specs.Stepping.{clocks_by, renewed_clock}
use Rattle.net_step.proofs.finish.Goals as goal

pub returns : goal.returns
returns c = let a = c.args in
    let p = length a.marks.now in
    let l : p ≤ length a.state.now = omega (arith, c.requires) in
    let f = renewed_clock (Fired a.j) a.marks.now in
    let ts = transitions_in a.net.now.count a.net.now.transitions.now in
    written p f ts a.state.now c.renew.new.clocks c.apply.new.marks c.copy.new.to l c.apply.auto.marks c.renew.ensures c.copy.ensures
    ∙ ap (λ (q : List ℕ). q ++ clocks_by f 0 ts (drop p a.state.now)) c.apply.ensures
    ∙ ap (λ (q : List ℕ). applied give_arc (arcs_in a.arcs.now) a.marks.now ++ q) (fired-clocks a.j a.marks.now ts (drop p a.state.now))
