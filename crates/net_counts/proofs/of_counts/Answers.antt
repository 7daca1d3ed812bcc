use Rattle.net_records.proofs.Writing.{◌and_then◌}
use Rattle.net_counts.specs.Marks.{count_marks}
use Rattle.net_counts.proofs.of_counts.Goals as goal

pub returns : goal.returns
unfolding count_marks
returns c = c.of_items.ensures and_then c.of_copies.ensures
