use Rattle.diagram_tokens.proofs.KilledRows.{killed-whole}
use Rattle.diagram_tokens.proofs.kill_rows.Goals as goal

pub returns : goal.returns
returns c = let a = c.args in
    killed-whole a.table.now a.state.now _ _ a.owner c.cell-close.result c.cell-last.result c.cell-close.ensures c.cell-last.ensures c.clear_words.ensures c.set_branches.ensures
