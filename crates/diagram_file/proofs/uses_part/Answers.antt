use Rattle.diagram_file.proofs.Promises.{part-refused, part_none, part-there}
use Rattle.diagram_file.proofs.uses_part.Goals as goal

pub returns-in-Ok : goal.returns-in-Ok
returns-in-Ok c = let a = c.args in part-there a.file.now c.in-Ok.diagram c.in-Ok.ensures a.row c.uses_part.result c.if-row-diagram.true c.uses_part.ensures.start_value c.uses_part.ensures.start_bound

pub returns-in_default : goal.returns-in_default
returns-in_default c = let a = c.args in part_none a.file.now c.in-Ok.diagram c.in-Ok.ensures a.row c.if-row-diagram.false

pub returns-in_default-2 : goal.returns-in_default-2
returns-in_default-2 c = let a = c.args in part-refused a.file.now _ c.in_default.ensures a.row
