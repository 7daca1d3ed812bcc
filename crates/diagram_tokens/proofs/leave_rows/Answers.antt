use Rattle.diagram_moves.specs.Changes.{rows_cleared, rows_left}
use mathlib.Core.Path.{◌∙◌}
use Rattle.diagram_tokens.proofs.leave_rows.Goals as goal

pub returns : goal.returns
unfolding rows_left rows_cleared
returns c = c.enter.ensures ∙ rw c.clear_words.ensures
