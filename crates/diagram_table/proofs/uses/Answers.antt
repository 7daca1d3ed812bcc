use Rattle.diagram_table.proofs.UsesCut.{uses-there, uses-missing}
use Rattle.diagram_table.proofs.uses.Goals as goal

pub returns-then-end-file : goal.returns-then-end-file
returns-then-end-file c = let p = c.uses_part-part.ensures.start_value in uses-there _ _ _ p.0 p.1 c.if-end-file.true

pub returns : goal.returns
returns c = let p = c.uses_part-part.ensures.start_value in uses-missing _ _ _ p.0 p.1 c.if-end-file.false
