use Rattle.words.proofs.Ends.{long-out}
use Rattle.words.proofs.long.Goals as goal

pub returns : goal.returns
returns c = long-out c.args.bytes.now c.args.at c.if-at-bytes.false
