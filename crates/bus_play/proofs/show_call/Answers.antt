use Rattle.std.proofs.Common.{arith, refl}
use Rattle.bus_play.proofs.LineLengths.{played-part}
use Rattle.bus_play.proofs.StateLengths.{leader-kept, follower-kept}
use Rattle.bus_play.proofs.show_call.Goals as goal

pub slice_bounds-write_all-end : goal.slice_bounds-write_all-end
slice_bounds-write_all-end g c =
    let p = c.play_call.ensures in let r = c.requires in
    played-part p.made _ (omega (arith, leader-kept p.made, r.leader_len_bound)) (omega (arith, follower-kept p.made, r.follower_len_bound)) refl (omega arith) p.laid

pub returns-clause-leader_kept : goal.returns-clause-leader_kept
returns-clause-leader_kept g c = leader-kept c.play_call.ensures.made

pub returns-clause-follower_kept : goal.returns-clause-follower_kept
returns-clause-follower_kept g c = follower-kept c.play_call.ensures.made
