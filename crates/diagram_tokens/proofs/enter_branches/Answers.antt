use Rattle.std.specs.Prelude.{ℕ, ◌+◌}
use Rattle.std.proofs.Common.{ap, ◌∙◌, sym, subst, refl, arith}
use Rattle.diagram_table.specs.Branches.{branches_left}
use Rattle.diagram_table.specs.Cells.{cell_of}
use Rattle.diagram_tokens.proofs.BranchTurns.{walk-on, walk-whole, rows_words, Words}
use Rattle.diagram_moves.specs.Changes.{entered, branches_entered}
use Rattle.diagram_tokens.proofs.enter_branches.Goals as goal

pub loop-row-init : goal.loop-row-init
loop-row-init c = let a = c.args in
    (subst Words (sym (ap branches_left c.into_iter-row-iterator.ensures.into_iter_gives ∙ c.back_from-row-items.ensures)) (rows_words a.table.now (λ r. omega (arith, c.type_inv.table (cell_of 6 r))) (a.last + 1) a.last (omega arith)), refl)

pub overflow_add-row : goal.overflow_add-row
overflow_add-row c = let f = subst Words c.in-Some.ensures.steps c.loop-row.invariant.0 in omega (arith, f.0)

pub loop-row-preserved : goal.loop-row-preserved
loop-row-preserved c = let a = c.args in let f = subst Words c.in-Some.ensures.steps c.loop-row.invariant.0 in (f.1, walk-on a.table.now (λ (q : ℕ). entered a.table.now (q + 1)) _ _ _ _ _ _ c.in-Some.ensures.steps c.enter.ensures c.loop-row.invariant.1)

pub returns : goal.returns
unfolding branches_entered
returns c = let a = c.args in
    walk-whole a.table.now (λ (q : ℕ). entered a.table.now (q + 1)) a.last a.state.now _ (branches_left c.into_iter-row-iterator.result) _ (ap branches_left c.into_iter-row-iterator.ensures.into_iter_gives ∙ c.back_from-row-items.ensures) c.loop-row.invariant.1 c.in-None.ensures.steps.0
