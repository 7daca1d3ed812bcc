use native.Mathlib.Omega.{arith}
use Rattle.agreement.specs.ByteLaws.{bytes-are}
use Rattle.copies.proofs.Plants.{widened_is}
use Rattle.copies.proofs.widen.Goals as goal

pub returns : goal.returns
returns c = let a = c.args in
    widened_is a.file.now a.rows a.items a.table.now (bytes-are a.file.now (λ i. omega (arith, c.type_inv.file i))) _ _ c.count_copies.ensures c.count_copies.auto.wide
