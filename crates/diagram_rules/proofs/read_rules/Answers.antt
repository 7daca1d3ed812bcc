use Rattle.std.specs.Prelude.{refl}
use Rattle.diagram_rules.proofs.Behind.{rules-read}
use Rattle.diagram_rules.proofs.read_rules.Goals as goal

pub returns : goal.returns
returns c = rules-read c.args.rows c.args.table.now _ _ c.in_ok-read_boxes.ensures refl c.read_loops.result c.read_loops.ensures
