-- Calls change neither end's length, nor what memory they lend, nor the room that records are read into.
use Rattle.std.proofs.Common.{length, ◌≡◌}
use Rattle.calls.specs.LiveEnds.{SameLent}
use Rattle.bus_play.proofs.show_calls.Given as goal

abbrev pub invariant-loop : goal.invariant-loop
invariant-loop g l = record {
  same : SameLent l.initial.ends l.ends;
  leader : length l.ends.leader.now ≡ length l.initial.ends.leader.now;
  follower : length l.ends.follower.now ≡ length l.initial.ends.follower.now;
  call : length l.call ≡ length l.initial.call;
}
