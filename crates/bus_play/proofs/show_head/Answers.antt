use Rattle.std.proofs.Common.{refl}
use Rattle.bus_play.proofs.LineLengths.{head-fits, written-part}
use Rattle.bus_play.proofs.show_head.Goals as goal

pub slice_bounds-write_all-end : goal.slice_bounds-write_all-end
slice_bounds-write_all-end g c = let w = c.put_head.ensures in written-part w (head-fits _ _ _ _ refl w)
