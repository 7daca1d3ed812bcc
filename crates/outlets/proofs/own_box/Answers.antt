use mathlib.Core.Path.{sym, ◌∙◌, subst}
use native.Mathlib.Omega.{arith}
use borrow.Author.Rules.{rules}
use Rattle.outlets.proofs.Scenarios.{Climb, climb-start, climb-found, climb-next, climb-over}
use Rattle.outlets.proofs.own_box.Goals as goal

pub loop-around-init : goal.loop-around-init
loop-around-init c = (search rules, subst (Climb c.args.table.now c.args.row) (sym c.cell-owner.ensures) (climb-start c.args.table.now c.args.row))

pub returns-then-owner-around : goal.returns-then-owner-around
returns-then-owner-around c = let s = c.loop-around in climb-over c.args.table.now c.args.row s.owner s.invariant.1 (sym c.in_scenario.ensures ∙ c.loop-around-test.true) (omega (arith, c.if-owner-around.true, c.cell-around.ensures))

pub loop-around-preserved : goal.loop-around-preserved
loop-around-preserved c = let s = c.loop-around in (search rules, subst (Climb c.args.table.now c.args.row) (sym c.cell-around.ensures) (climb-next c.args.table.now c.args.row s.owner s.invariant.1 (sym c.in_scenario.ensures ∙ c.loop-around-test.true)))

pub returns : goal.returns
returns c = let s = c.loop-around in climb-found c.args.table.now c.args.row s.owner s.invariant.1 (sym c.in_scenario.ensures ∙ c.loop-around-test.false)
