use Rattle.starts.proofs.WindowTurns.{count-more, count_same}
use Rattle.starts.proofs.spans.Window.count_start.Goals as goal

pub returns-then-self : goal.returns-then-self
returns-then-self c = count-more c.args.gaps.now _ c.args.self.now _ c.join.ensures c.if-self.true

pub returns-else-self : goal.returns-else-self
returns-else-self c = count_same c.args.gaps.now _ c.args.self.now _ c.join.ensures c.if-self.false
