use Rattle.std.proofs.Common.{◌≡◌, ◌+◌, ◌≤◌, length}
use Rattle.effbd.specs.Editions.{convert_from, telegram_count}
use Rattle.editions.specs.Checks.{checked}
use Rattle.editions.specs.Conversions.{converted}
use Rattle.editions.proofs.check.Given as goal

abbrev pub invariant-loop-rest : goal.invariant-loop-rest
invariant-loop-rest g l = (l.index + length l.rest ≤ length l.run) × (checked (convert_from g.C.Conversion.SIZE (g.C.Conversion.off l.way) (g.C.Conversion.made l.way) (l.first + l.index) l.index (telegram_count g.C.Conversion.SIZE l.rest) l.rest) ≡ checked (converted g.C.Conversion.SIZE (g.C.Conversion.off l.way) (g.C.Conversion.made l.way) l.first l.run))

abbrev pub decreases-loop-rest : goal.decreases-loop-rest
decreases-loop-rest g l = length l.rest
