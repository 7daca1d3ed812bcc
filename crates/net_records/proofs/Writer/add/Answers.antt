use Rattle.std.proofs.Common.{refl, sym, arith}
use Rattle.net_records.specs.Writing.{encode}
use Rattle.net_records.proofs.Stores.{laid-tail, laid_out, one}
use Rattle.net_records.proofs.Writer.add.Goals as goal
use Rattle.net_records.proofs.Writer.add.Goals.{then-at-self, else-at-self}

pub returns : goal.returns
returns c = let fields = c.args.fields.now in
    let w = c.args.self.now in
    elim c.if-at-self.branch [
      | then-at-self t ↦ rw t.self-is (one fields (laid-tail (encode fields) w.area.now t.put_record.new.area w.at t.put_record.ensures) c.past-self.ensures refl)
      | else-at-self t ↦ rw t.self-is (one fields (sym (laid_out (encode fields) w.area.now w.at (omega (arith, t.if-at-self.false)))) c.past-self.ensures refl)
    ]
