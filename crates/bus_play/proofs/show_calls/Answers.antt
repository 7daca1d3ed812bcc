use Rattle.std.proofs.Common.{rules, ◌∙◌}
use Rattle.bus_play.proofs.show_calls.Goals as goal

pub loop-preserved : goal.loop-preserved
loop-preserved g c = let i = c.loop.invariant in let s = c.show_call.ensures in record {
  same = record { leader = s.same.leader ∙ i.same.leader; follower = s.same.follower ∙ i.same.follower };
  leader = s.leader_kept ∙ i.leader;
  follower = s.follower_kept ∙ i.follower;
  call = search rules;
}
