use Rattle.std.specs.Prelude.{◌+◌}
use Rattle.std.specs.List.{list_all}
use Rattle.std.proofs.Common.{◌∙◌, ap}
use Rattle.diagram_table.specs.Branches.{branches_left}
use Rattle.diagram_moves.specs.Decisions.{branches_done}
use Rattle.diagram_decide.proofs.BranchesDone.{done, done-is, row-not, row-done}
use Rattle.diagram_decide.proofs.steps.all_done.Goals as goal

pub loop-row-init : goal.loop-row-init
unfolding branches_done
loop-row-init c = let a = c.args in
    ap (list_all (done a.table.now a.state.now)) (ap branches_left c.into_iter-row-iterator.ensures.into_iter_gives ∙ c.back_from-row-items.ensures) ∙ done-is a.table.now a.state.now (a.last + 1) a.last

pub returns-then-activity-ne3 : goal.returns-then-activity-ne3
returns-then-activity-ne3 c = row-not c.args.table.now c.args.state.now _ _ _ _ _ c.in-Some.ensures.steps c.activity.ensures c.if-activity-ne3.true c.loop-row.invariant

pub loop-row-preserved : goal.loop-row-preserved
loop-row-preserved c = row-done c.args.table.now c.args.state.now _ _ _ _ _ c.in-Some.ensures.steps c.activity.ensures c.if-activity-ne3.false c.loop-row.invariant
