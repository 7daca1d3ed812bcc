use Rattle.diagram.proofs.Freshness.{fresh-is}
use mathlib.Core.Path.{refl}
use Rattle.diagram.proofs.Diagram.fresh.Goals as goal

pub returns : goal.returns
returns c = let d = c.args.self in fresh-is d.rows d.items d.table _ c.put_fresh.new.state c.put_fresh.ensures refl refl refl
