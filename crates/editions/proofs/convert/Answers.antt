use Rattle.std.proofs.Common.{sym, ◌∙◌}
use Rattle.std.proofs.lemmas.Result.{err_from_is_err_and}
use Rattle.effbd.specs.Answers.{number}
use Rattle.editions.specs.Conversions.{converted}
use Rattle.editions.proofs.Calls.{refused-told, lacking, having, told, out-of}
use Rattle.editions.proofs.convert.Goals as goal

pub returns-in_err-check : goal.returns-in_err-check
returns-in_err-check g c = let a = c.args in let w = a.way.now in let r = c.in_err-check.field-0.0 in
    let k = refused-told a.area.now (converted g.C.Conversion.SIZE (g.C.Conversion.off w) (g.C.Conversion.made w) a.first a.run.now) (number r.reason) r.value c.in_err-check.ensures in
    let p = err_from_is_err_and c.from_residual.result c.from_residual.ensures.1 in
    record { answer = rw (p.1, p.2) k.0; area = k.1 }

pub returns-then-area-size : goal.returns-then-area-size
returns-then-area-size g c = let a = c.args in let w = a.way.now in
    let k = lacking a.area.now (converted g.C.Conversion.SIZE (g.C.Conversion.off w) (g.C.Conversion.made w) a.first a.run.now) c.in_ok-check.field-0 c.room-size.result c.in_ok-check.ensures
    (λ b e. out-of g.C.Conversion.SIZE g.C.Conversion.OUT g.met.C.Conversion.sizes (g.C.Conversion.off w) (g.C.Conversion.made w) (g.met.C.Conversion.telegrams w) a.first a.run.now b e ∙ sym c.room-size.ensures)
    c.stopped.result c.if-area-size.true c.stopped.ensures in
    record { answer = k.0; area = k.1 }

pub write-requires : goal.write-requires
write-requires g c = let a = c.args in let w = a.way.now in
    having a.area.now (converted g.C.Conversion.SIZE (g.C.Conversion.off w) (g.C.Conversion.made w) a.first a.run.now) c.in_ok-check.field-0 c.room-size.result c.in_ok-check.ensures
    (λ b e. out-of g.C.Conversion.SIZE g.C.Conversion.OUT g.met.C.Conversion.sizes (g.C.Conversion.off w) (g.C.Conversion.made w) (g.met.C.Conversion.telegrams w) a.first a.run.now b e ∙ sym c.room-size.ensures)
    c.if-area-size.false

pub returns-clause-answer : goal.returns-clause-answer
returns-clause-answer g c = let a = c.args in let w = a.way.now in
    told a.area.now (converted g.C.Conversion.SIZE (g.C.Conversion.off w) (g.C.Conversion.made w) a.first a.run.now) c.in_ok-check.field-0 c.room-size.result c.in_ok-check.ensures
    (λ b e. out-of g.C.Conversion.SIZE g.C.Conversion.OUT g.met.C.Conversion.sizes (g.C.Conversion.off w) (g.C.Conversion.made w) (g.met.C.Conversion.telegrams w) a.first a.run.now b e ∙ sym c.room-size.ensures)
    c.stopped-2.result c.if-area-size.false c.stopped-2.ensures
