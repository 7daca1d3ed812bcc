use Rattle.diagram_file.proofs.Promises.{part_cut}
use Rattle.diagram_file.proofs.uses.Goals as goal

pub returns : goal.returns
returns c = part_cut _ _ c.uses_part-part.result c.uses_part-part.ensures
