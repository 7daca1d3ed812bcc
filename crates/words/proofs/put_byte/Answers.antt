use lib.Seq.{set_out}
use mathlib.Core.Path.{sym}
use Rattle.words.proofs.put_byte.Goals as goal

pub returns-else-at-area : goal.returns-else-at-area
returns-else-at-area c = sym (set_out c.args.area.now c.args.at c.args.value c.if-at-area.false)
