use Rattle.std.proofs.Common.{ℕ, ◌+◌, ◌<◌, get_or, length}
use Rattle.editions.specs.Conversions.{converted}
use Rattle.editions.proofs.Turns.{Underway}
use Rattle.editions.proofs.write.Given as goal

abbrev pub invariant-loop-rest : goal.invariant-loop-rest
invariant-loop-rest g l = let s = g.met.C.Conversion.sizes in let t = g.met.C.Conversion.telegrams l.way in
    Underway g.C.Conversion.SIZE (g.C.Conversion.off l.way) (g.C.Conversion.made l.way) s.counts s.none g.C.Conversion.OUT t.whole t.becomes
    (converted g.C.Conversion.SIZE (g.C.Conversion.off l.way) (g.C.Conversion.made l.way) l.first l.run) l.initial.area l.area l.rest (l.first + l.index) l.at
    × ((i : ℕ) → get_or l.rest i 0 < 256)

abbrev pub decreases-loop-rest : goal.decreases-loop-rest
decreases-loop-rest g l = length l.rest
