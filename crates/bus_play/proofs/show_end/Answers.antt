use Rattle.std.proofs.Common.{refl}
use Rattle.bus_play.proofs.LineLengths.{closing-fits, written-part}
use Rattle.bus_play.proofs.show_end.Goals as goal

pub slice_bounds-write_all-end-2 : goal.slice_bounds-write_all-end-2
slice_bounds-write_all-end-2 g c = let w = c.put_closing.ensures in written-part w (closing-fits _ _ refl w)
