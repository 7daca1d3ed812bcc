use Rattle.std.proofs.Common.{ap, arith}
use Rattle.call_lines.proofs.WrittenTexts.{one-more, gap-is}
use Rattle.call_lines.specs.Lines.{spaces}
use Rattle.text.specs.LaidLaws.{still, same, and_then}
use Rattle.call_lines.proofs.put_gap.Goals as goal

pub loop-init : goal.loop-init
unfolding spaces
loop-init c = still _

pub loop-preserved : goal.loop-preserved
loop-preserved c = same (one-more c.loop.counter) (and_then c.loop.invariant c.put.ensures)

pub returns : goal.returns
returns c = let e = gap-is c.args.text.now.at c.args.column in same (ap spaces (omega (arith, e))) c.loop.invariant
