use Rattle.std.proofs.Common.{sym, ◌∙◌}
use Rattle.loop_times.proofs.Counted.{no-loops}
use Rattle.loop_times.proofs.read_loops.Goals as goal

pub returns-then-count_kind-eq0 : goal.returns-then-count_kind-eq0
returns-then-count_kind-eq0 c = let a = c.args in no-loops a.table.now a.rows (sym c.count_kind.ensures ∙ c.if-count_kind-eq0.true)
