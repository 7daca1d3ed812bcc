use borrow.Author.Rules.{rules}
use mathlib.Core.Path.{refl, sym, ◌∙◌}
use native.Mathlib.Omega.{arith}
use Rattle.diagram_moves.specs.Changes.{count_turn}
use Rattle.diagram_moves.proofs.RowStores.{fold_more, fold_end}
use Rattle.diagram_moves.specs.Decisions.{standing}
use Rattle.diagram_moves.specs.StandingCounts.{count-stands, turns-standing}
use Rattle.diagram_counts.proofs.change_run.Goals as goal

pub loop-index-init : goal.loop-index-init
loop-index-init c = (search rules, refl, refl)

pub change_known-requires : goal.change_known-requires
change_known-requires c = let a = c.args in let l = c.loop-index in
    let z = count-stands a.rows a.first a.length a.state.now l.index (omega (arith, c.standing-standing.ensures, c.loop-index-test.true)) in
    omega (arith, l.invariant.1)

pub loop-index-preserved : goal.loop-index-preserved
loop-index-preserved c = let a = c.args in let l = c.loop-index in
    (omega arith, c.change_known.auto.state ∙ l.invariant.1, fold_more (count_turn a.giving a.rows a.first a.amount) l.index a.state.now l.state _ l.invariant.2 c.change_known.ensures)

pub returns : goal.returns
returns c = let a = c.args in let l = c.loop-index in
    let few = standing a.rows a.first a.length a.state.now in
    fold_end (count_turn a.giving a.rows a.first a.amount) l.index few a.state.now l.state l.invariant.2 (omega (arith, l.invariant.0, c.standing-standing.ensures)) (omega (arith, c.loop-index-test.false, c.standing-standing.ensures))
    ∙ sym (turns-standing a.rows a.first a.length a.state.now a.giving a.amount)
