use Rattle.std.specs.Prelude.{◌-◌, ◌≡◌, length}
use Rattle.calls.specs.LiveEnds.{live}
use Rattle.calls.proofs.Lists.{Making}
use Rattle.calls.proofs.make_calls.Given as goal

abbrev pub invariant-loop-made : goal.invariant-loop-made
invariant-loop-made l = record {
  made : Making l.line.file.now l.line.net.now l.line.station (live l.initial.ends) l.initial.calls (length l.initial.calls - l._made) l.at (live l.ends) l.calls;
  long : length l.calls ≡ length l.initial.calls;
  leader : l.ends.leader.ghost_name ≡ l.initial.ends.leader.ghost_name;
  follower : l.ends.follower.ghost_name ≡ l.initial.ends.follower.ghost_name;
}
