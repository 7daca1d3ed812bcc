use Rattle.diagram_moves.specs.Changes.{token_passed}
use mathlib.Core.Path.{◌∙◌}
use Rattle.diagram_tokens.proofs.pass_token.Goals as goal

pub returns : goal.returns
unfolding token_passed
returns c = c.enter.ensures ∙ rw c.set_row.ensures
