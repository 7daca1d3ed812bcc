use lib.ListN.{get_or-eq_default}
use mathlib.Core.Path.{sym}
use Rattle.words.proofs.get.Goals as goal

pub returns : goal.returns
returns c = sym (get_or-eq_default c.args.state.now 0 c.if-at-state.false)
