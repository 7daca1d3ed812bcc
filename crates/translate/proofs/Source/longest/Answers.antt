use Rattle.std.proofs.Common.{arith}
use Rattle.translate.proofs.Sizes.{rows_fit}
use Rattle.translate.specs.NetRecords.{longest_net}
use Rattle.translate.proofs.Source.longest.Goals as goal

pub overflow_mul-result-3 : goal.overflow_mul-result-3
overflow_mul-result-3 c = let p = rows_fit c.args.self.now.rows c.most_bytes-row.result (omega arith) c.most_bytes-row.ensures.1 in
    record { fits = omega arith }

pub overflow_add-result-3 : goal.overflow_add-result-3
overflow_add-result-3 c = let p = rows_fit c.args.self.now.rows c.most_bytes-row.result (omega arith) c.most_bytes-row.ensures.1 in
    record { fits = omega arith }

pub returns : goal.returns
unfolding longest_net
returns c = rw (c.most_bytes-row.ensures.0, c.count_total-counts.ensures)
