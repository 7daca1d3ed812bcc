use Rattle.std.proofs.Common.{arith, ap}
use Rattle.text.specs.LaidLaws.{same}
use Rattle.annex_text.specs.Lines.{net_text}
use Rattle.annex_text.proofs.MarksAndRecords.{first-most}
use Rattle.annex_text.proofs.put_answer.Goals as goal

pub put_net-requires : goal.put_net-requires
put_net-requires c = first-most c.args.net.now _ c.in-Ok.size _ c.front.ensures (omega arith)

pub returns-in-Ok : goal.returns-in-Ok
returns-in-Ok c = rw c.in-Ok.is (same (ap net_text c.front.ensures) c.put_net.ensures)
