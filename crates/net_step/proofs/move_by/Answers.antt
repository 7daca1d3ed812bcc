use Prim.Native.Nat.{ℕ}
use native.Mathlib.Omega.{arith}
use mathlib.Core.Path.{refl, ap, sym, ◌∙◌}
use lib.ListN.{length, take, drop}
use Rattle.net_step.proofs.Cases.{marks-are, move_step, move-wait, move-none, turned-away, answered-as}
use Rattle.net_file.specs.Contents.{transitions_in}
use borrow.Author.Rules.{rules}
use Rattle.net_step.proofs.move_by.Goals as goal

pub wait_ticks-requires : goal.wait_ticks-requires
wait_ticks-requires c = let a = c.args in
    let k = c.copy in
    (omega (arith, k.auto.to, c.requires), marks-are (length a.marks.now) a.marks.now a.state.now k.new.to refl (omega (arith, c.requires)) k.ensures ∙ ap (λ (q : ℕ). take q a.state.now) (sym k.auto.to))

pub returns-in-1 : goal.returns-in-1
returns-in-1 c = let a = c.args in
    let k = c.copy in
    let e = move_step (transitions_in a.net.now.count a.net.now.transitions.now) a.code a.argument (length a.marks.now) k.new.to a.state.now (marks-are (length a.marks.now) a.marks.now a.state.now k.new.to refl (omega (arith, c.requires)) k.ensures) k.auto.to c.in-1.is in
    answered-as c.step_label.ensures e

pub returns-in-2 : goal.returns-in-2
returns-in-2 c = let a = c.args in
    let k = c.copy in
    let e = move-wait (transitions_in a.net.now.count a.net.now.transitions.now) a.code a.argument (length a.marks.now) k.new.to a.state.now (marks-are (length a.marks.now) a.marks.now a.state.now k.new.to refl (omega (arith, c.requires)) k.ensures) k.auto.to c.in-2.is in
    answered-as c.wait_ticks.ensures e

pub returns-in_default : goal.returns-in_default
returns-in_default c = let a = c.args in
    let e = move-none (transitions_in a.net.now.count a.net.now.transitions.now) a.code a.argument (take (length a.marks.now) a.state.now) (drop (length a.marks.now) a.state.now) (search rules) (search rules) in
    turned-away a.state.now _ _ e
