use Rattle.std.proofs.Common.{length, arith}
use Rattle.editions.proofs.Calls.{small}
use Rattle.editions.proofs.room.Goals as goal

pub overflow_mul-result : goal.overflow_mul-result
overflow_mul-result g c = let n = small g.C.Conversion.SIZE g.C.Conversion.OUT g.met.C.Conversion.sizes (length c.args.run.now) in rw (c.SIZE.ensures, c.OUT.ensures) (omega arith)
