use Rattle.std.proofs.Common.{length}
use Rattle.annex_text.proofs.MarksAndRecords.{InRecords}
use Rattle.annex_text.proofs.put_records.Given as goal

abbrev pub invariant-loop-rest : goal.invariant-loop-rest
invariant-loop-rest l = InRecords l.initial.text l.text l.records l.rest l.j

abbrev pub decreases-loop-rest : goal.decreases-loop-rest
decreases-loop-rest l = length l.rest
