use Rattle.starts.specs.Windows.{Following}
use Rattle.starts.proofs.WindowTurns.{Kept}
use Rattle.starts.proofs.spans.Window.follow.Given as goal

abbrev pub invariant-loop-self : goal.invariant-loop-self
invariant-loop-self l = Following l.gaps l.initial.self l.self.since l.self.starts l.self.from × Kept l.initial.self l.self

abbrev pub decreases-loop-self : goal.decreases-loop-self
decreases-loop-self l = l.self.starts
