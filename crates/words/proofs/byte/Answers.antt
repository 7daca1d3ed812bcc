use lib.ListN.{get_or-eq_default}
use native.Mathlib.Omega.{arith}
use mathlib.Core.Path.{sym}
use borrow.Author.Rules.{rules}
use Rattle.words.proofs.byte.Goals as goal

pub overflow_cast-result : goal.overflow_cast-result
overflow_cast-result c = omega (arith, c.type_inv.bytes c.args.at)

pub returns-then-at-bytes : goal.returns-then-at-bytes
returns-then-at-bytes c = (search rules, omega (arith, c.type_inv.bytes c.args.at))

pub returns : goal.returns
returns c = (sym (get_or-eq_default c.args.bytes.now 0 c.if-at-bytes.false), omega arith)
