use Rattle.net_file.proofs.Turns.{own-length}
use Rattle.net_file.specs.Contents.{head_fine}
use Rattle.effbd.specs.Nets.{net_head_fault}
use Rattle.net_file.proofs.head_fault.Goals as goal

pub returns : goal.returns
unfolding net_head_fault head_fine
returns c = rw (← own-length c.args.net.now 32 4 _, ← c.own_length.ensures, ← c.word-due.ensures, ← c.word.ensures, ← c.word-2.ensures, ← c.word-3.ensures, ← c.head_fine-fine.ensures) c.record_reason.ensures
