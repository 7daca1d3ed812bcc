use Rattle.starts.specs.Faults.{starts_fault}
use Rattle.starts.proofs.Told.{first-fault}
use Rattle.starts.proofs.fault.Goals as goal

pub returns : goal.returns
unfolding starts_fault
returns c = first-fault _ _ _ c.or.ensures c.fault.ensures c.not_function.ensures
