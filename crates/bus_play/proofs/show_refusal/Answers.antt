use Rattle.std.proofs.Common.{refl}
use Rattle.bus_play.proofs.LineLengths.{refusal-fits, written-part}
use Rattle.bus_play.proofs.show_refusal.Goals as goal

pub slice_bounds-write_all-end : goal.slice_bounds-write_all-end
slice_bounds-write_all-end g c = let w = c.put_line.ensures in written-part w (refusal-fits _ _ refl w)
