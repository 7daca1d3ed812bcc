use mathlib.Core.Path.{refl}
use Rattle.fresh_copies.proofs.Freshness.{fresh-made}
use Rattle.fresh_copies.proofs.fresh_state.Goals as goal

pub returns : goal.returns
returns c = let a = c.args in fresh-made a.rows a.items a.plain.now a.table.now _ c.put_fresh.new.state refl c.put_fresh.ensures
