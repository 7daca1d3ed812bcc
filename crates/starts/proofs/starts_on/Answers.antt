use Rattle.std.specs.Prelude.{ℕ}
use Rattle.std.proofs.Common.{refl, sym}
use lib.ListN.{length-replicate}
use Rattle.effbd.specs.Answers.{number}
use Rattle.ranges.specs.Reasons.{number-some}
use Rattle.starts.specs.Counting.{gap_bytes}
use Rattle.starts.proofs.Told.{fault-off, begins}
use Rattle.starts.proofs.starts_on.Goals as goal

pub returns-in-Some : goal.returns-in-Some
returns-in-Some c = let a = c.args in let p = a.plant.now in let r = c.in-Some.reason in
    let t = fault-off p.file.now a.log.now a.row a.at.now p.rows p.items p.table.now c.requires.fresh.plant (number r) c.in-Some.ensures (number-some r) in
    record { result_value = t.0; at_after = t.1 }

pub slice_bounds-count_starts-end : goal.slice_bounds-count_starts-end
slice_bounds-count_starts-end c = sym (length-replicate {A = ℕ} gap_bytes 0)

pub count_starts-requires : goal.count_starts-requires
count_starts-requires c = let a = c.args in let p = a.plant.now in
    record { bytes = c.requires.bytes; fresh = begins p.file.now a.log.now a.row a.at.now p.rows p.items p.table.now c.requires.fresh.plant a.state.now _ (sym c.in_default.ensures) c.requires.fresh.fresh refl }
