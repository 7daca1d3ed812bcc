use Rattle.translate.specs.NetRecords.{net_records}
use Rattle.net_records.proofs.Writing.{◌and_then◌}
use Rattle.translate.proofs.Source.put_net.Goals as goal

pub returns : goal.returns
unfolding net_records
returns c = c.head.ensures and_then c.of_rows.ensures and_then c.of_counts.ensures and_then c.transitions.ensures
