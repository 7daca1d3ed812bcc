use Rattle.std.proofs.Common.{arith, refl, ◌∙◌}
use Rattle.translate.proofs.AnswerAndArea.{nothing_written, measure, measured, too_short}
use Rattle.translate.proofs.Source.write_measured.Goals as goal

pub overflow_cast-result : goal.overflow_cast-result
overflow_cast-result c = let s = c.args.self.now in
    let small = measured s.file.now s.rows s.items s.table.now c.requires s.bytes refl c.put_net.ensures in omega arith

pub returns-then-room-needed : goal.returns-then-room-needed
returns-then-room-needed c = let s = c.args.self.now in
    let e = too_short s.file.now s.rows s.items s.table.now c.requires s.bytes c.args.area.now refl c.put_net.ensures c.if-room-needed.true in
    record { result_value = e.0; area_after = nothing_written _ _ (omega arith) ∙ e.1 }

pub write_whole-requires : goal.write_whole-requires
write_whole-requires c = let s = c.args.self.now in
    let e = measure s.file.now s.rows s.items s.table.now c.requires s.bytes refl c.put_net.ensures in
    record { holds_plant = c.requires; in_bounds = omega (arith, e, c.if-room-needed.false) }
