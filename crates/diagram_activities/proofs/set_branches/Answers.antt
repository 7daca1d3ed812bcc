use Rattle.diagram_activities.proofs.BranchWalks.{walk_start, walk-whole, walk-on, walk-done}
use Rattle.diagram_moves.specs.Changes.{row_set, branches_set}
use mathlib.Core.Path.{refl, ◌∙◌}
use Prim.Native.Nat.{ℕ}
use Rattle.diagram_activities.proofs.set_branches.Goals as goal

pub loop-before-init : goal.loop-before-init
loop-before-init c = let a = c.args in
    (refl, walk_start a.table.now (λ (q : ℕ). row_set q a.activity) _ a.last c.cell-before.result)

pub loop-before-preserved : goal.loop-before-preserved
loop-before-preserved c = let a = c.args in
    let l = c.loop-before in
    (c.set_row-in-loop-before.auto.state ∙ l.invariant.0, walk-on a.table.now (λ (q : ℕ). row_set q a.activity) _ l.state _ l.row l.before c.cell-before-in-loop-before.result c.loop-before-test.true l.invariant.1 c.set_row-in-loop-before.ensures c.cell-before-in-loop-before.ensures)

pub returns : goal.returns
unfolding branches_set
returns c = let a = c.args in
    let l = c.loop-before in
    walk-done a.table.now (λ (q : ℕ). row_set q a.activity) _ l.state l.row l.before c.loop-before-test.false l.invariant.1 ∙ walk-whole a.table.now (λ (q : ℕ). row_set q a.activity) a.state.now _ a.last c.cell-before.result c.set_row.ensures c.cell-before.ensures
