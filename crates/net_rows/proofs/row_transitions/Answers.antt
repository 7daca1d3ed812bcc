use Rattle.std.proofs.Common.{◌≡◌, [], arith}
use Rattle.net_rows.specs.Rows.{row_as, row_records}
use Rattle.net_records.proofs.Writing.{still, same}
use Rattle.std.proofs.lemmas.Grind.{common_steps}
use Rattle.net_rows.proofs.row_transitions.Goals as goal

pub returns-in_default : goal.returns-in_default
unfolding row_records row_as
returns-in_default c = let a = c.args in
    let e : [] ≡ row_records a.table.now a.file.now a.rows a.row = grind (arith, common_steps) in same e (still _)

pub returns-in_default-2 : goal.returns-in_default-2
unfolding row_records row_as
returns-in_default-2 c = let a = c.args in
    let e : [] ≡ row_records a.table.now a.file.now a.rows a.row = grind (arith, common_steps) in same e (still _)
