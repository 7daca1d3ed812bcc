use Rattle.diagram_moves.specs.Changes.{row_set}
use mathlib.Core.Path.{◌∙◌}
use Rattle.diagram_activities.proofs.set_row.Goals as goal

pub returns : goal.returns
unfolding row_set
returns c = c.put-2.ensures ∙ rw c.put.ensures
