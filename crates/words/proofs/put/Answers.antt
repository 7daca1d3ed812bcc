use lib.Seq.{set_out}
use mathlib.Core.Path.{sym}
use Rattle.words.proofs.put.Goals as goal

pub returns-else-at-state : goal.returns-else-at-state
returns-else-at-state c = sym (set_out c.args.state.now c.args.at c.args.value c.if-at-state.false)
