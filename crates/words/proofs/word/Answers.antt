use Prim.Native.Nat.{suc, ◌+◌}
use mathlib.Core.Path.{◌≡◌}
use native.Mathlib.Omega.{arith}
use native.Mathlib.Numerals.{add-one}
use lib.ListN.{get_or}
use Rattle.words.proofs.Ends.{word-last}
use Rattle.words.proofs.word.Goals as goal

pub returns-then-bytes-lt2 : goal.returns-then-bytes-lt2
returns-then-bytes-lt2 c = word-last c.args.bytes.now c.args.at c.byte.result (omega arith) c.byte.ensures.0

pub returns-then-bytes-at : goal.returns-then-bytes-at
returns-then-bytes-at c = word-last c.args.bytes.now c.args.at c.byte-then-bytes-at.result (omega arith) c.byte-then-bytes-at.ensures.0

pub overflow_cast-result : goal.overflow_cast-result
overflow_cast-result c = omega (arith, c.type_inv.bytes c.args.at)

pub overflow_cast-result-2 : goal.overflow_cast-result-2
overflow_cast-result-2 c = omega (arith, c.type_inv.bytes (c.args.at + 1))

pub overflow_mul-result : goal.overflow_mul-result
overflow_mul-result c = omega (arith, c.type_inv.bytes (c.args.at + 1))

pub overflow_add-result-2 : goal.overflow_add-result-2
overflow_add-result-2 c = omega (arith, c.type_inv.bytes c.args.at, c.type_inv.bytes (c.args.at + 1))

pub returns : goal.returns
returns c = let b = c.args.bytes.now in let at = c.args.at in
    let e : get_or b (at + 1) 0 ≡ get_or b (suc at) 0 = rw add-one in omega arith
