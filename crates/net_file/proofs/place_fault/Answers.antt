use Rattle.net_file.specs.Due.{place_fault}
use Rattle.net_file.proofs.place_fault.Goals as goal

pub returns : goal.returns
unfolding place_fault
returns c = rw (← c.own_length.ensures, ← c.word-due.ensures, ← c.word.ensures) c.record_reason.ensures
