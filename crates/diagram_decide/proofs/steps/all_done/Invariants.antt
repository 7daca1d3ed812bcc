use Rattle.std.specs.Prelude.{◌≡◌}
use Rattle.std.specs.List.{list_all}
use Rattle.diagram_table.specs.Branches.{branches_left}
use Rattle.diagram_moves.specs.Decisions.{branches_done}
use Rattle.diagram_decide.proofs.BranchesDone.{done}
use Rattle.diagram_decide.proofs.steps.all_done.Given as goal

abbrev pub invariant-loop-row : goal.invariant-loop-row
invariant-loop-row l = list_all (done l.table l.state) (branches_left l.row-iterator) ≡ branches_done l.table l.state l.last
