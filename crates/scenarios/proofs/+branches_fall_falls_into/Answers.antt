-- The cycle of calls of the run's judge and the branches' judge.
use mathlib.Core.Path.{sym, ◌∙◌, subst}
use Prim.Native.Nat.{◌+◌}
use native.Mathlib.Omega.{arith}
use Rattle.scenarios.specs.Scenarios.{FallsRead}
use Rattle.scenarios.proofs.Branching.{SoFar, so-start, so-more, so-same, so-done}
use Rattle.scenarios.proofs.Falling.{empty-falls, exits-stop, loop-falls, or-falls, and-falls, rest-falls}
use Rattle.scenarios.proofs.+branches_fall_falls_into.Goals.{branches_fall-then-ends_branch, branches_fall-else-ends_branch}
use Rattle.scenarios.proofs.+branches_fall_falls_into.Goals as goal

pub branches_fall-loop-row-init : goal.branches_fall-loop-row-init
branches_fall-loop-row-init t c = let a = c.args in so-start a.table.now a.close c.cell-owner.result c.cell-owner.ensures

pub branches_fall-loop-row-preserved : goal.branches_fall-loop-row-preserved
branches_fall-loop-row-preserved t c =
    let a = c.args in
    let s = c.loop-row in
    let o = c.cell-owner in
    let ends = c.ends_branch.ensures in
    elim c.if-ends_branch.branch [
      | branches_fall-then-ends_branch w ↦ subst (SoFar a.table.now a.close (s.row + 1)) (sym (w.fall-is ∙ w.with_branch-fall.ensures))
          (so-more a.table.now a.close o.result o.ensures s.row s.fall s.invariant w.falls_into-falls.result w.ends_killer-killing.result (omega arith) (sym ends ∙ w.if-ends_branch.true) w.falls_into-falls.ensures w.ends_killer-killing.ensures)
      | branches_fall-else-ends_branch w ↦ subst (SoFar a.table.now a.close (s.row + 1)) (sym w.fall-is)
          (so-same a.table.now a.close o.result o.ensures s.row s.fall s.invariant (omega arith) (sym ends ∙ w.if-ends_branch.false))
    ]

pub branches_fall-returns : goal.branches_fall-returns
branches_fall-returns t c =
    let a = c.args in
    let s = c.loop-row in
    so-done a.table.now a.close c.cell-owner.result c.cell-owner.ensures s.row s.fall s.invariant (omega arith)

pub falls_into-returns-then-row-eq0 : goal.falls_into-returns-then-row-eq0
falls_into-returns-then-row-eq0 t c = let a = c.args in empty-falls a.table.now a.row c.if-row-eq0.true

pub falls_into-returns-in-26 : goal.falls_into-returns-in-26
falls_into-returns-in-26 t c = let a = c.args in exits-stop a.table.now a.row c.if-row-eq0.false c.kind.result c.kind.ensures c.in-26.is

pub falls_into-returns-in-25 : goal.falls_into-returns-in-25
falls_into-returns-in-25 t c = let a = c.args in loop-falls a.table.now a.row c.if-row-eq0.false c.cell-first.result c.loop_left.result (sym c.kind.ensures ∙ c.in-25.is) c.cell-first.ensures c.loop_left.ensures

pub falls_into-returns-in-21 : goal.falls_into-returns-in-21
falls_into-returns-in-21 t c = let a = c.args in or-falls a.table.now a.row c.if-row-eq0.false c.branches_fall.result (sym c.kind.ensures ∙ c.in-21.is) c.branches_fall.ensures

pub falls_into-returns-then-fall : goal.falls_into-returns-then-fall
falls_into-returns-then-fall t c = let a = c.args in let b = c.branches_fall-fall in
    subst (FallsRead a.table.now a.row) (rw c.if-fall.true)
    (and-falls a.table.now a.row c.if-row-eq0.false b.result (sym c.kind.ensures ∙ c.in-19.is) b.ensures)

pub falls_into-returns-else-fall : goal.falls_into-returns-else-fall
falls_into-returns-else-fall t c = let a = c.args in let b = c.branches_fall-fall in
    subst (FallsRead a.table.now a.row) (rw c.if-fall.false)
    (and-falls a.table.now a.row c.if-row-eq0.false b.result (sym c.kind.ensures ∙ c.in-19.is) b.ensures)

pub falls_into-returns-in_default : goal.falls_into-returns-in_default
falls_into-returns-in_default t c = let a = c.args in let k = c.kind.ensures in
    rest-falls a.table.now a.row c.if-row-eq0.false (grind (arith, k)) (grind (arith, k)) (omega (arith, k)) (omega (arith, k)) (omega (arith, k))
