use Rattle.std.proofs.Common.{arith, refl, ◌∙◌, rules}
use Rattle.translate.proofs.AnswerAndArea.{measured, long-enough}
use Rattle.translate.proofs.Source.write_whole.Goals as goal

pub overflow_cast-result : goal.overflow_cast-result
overflow_cast-result c = let s = c.args.self.now in
    let small = measured s.file.now s.rows s.items s.table.now c.requires.holds_plant s.bytes refl c.put_net.ensures in omega arith

pub returns : goal.returns
returns c = let s = c.args.self.now in
    let e = long-enough s.file.now s.rows s.items s.table.now c.requires.holds_plant s.bytes refl c.requires.in_bounds c.put_net.ensures in
    record { result_value = e.0; area_after = (search rules) ∙ e.1 }
