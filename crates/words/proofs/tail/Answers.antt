use native.Mathlib.Omega.{arith}
use native.Mathlib.Nat.{le_of_eq}
use lib.Seq.{take_all}
use lib.ListN.{length, drop, length-drop, drop_of_length-le}
use mathlib.Core.Path.{sym}
use Prim.Native.Nat.{◌-◌, ◌≤◌}
use Rattle.words.proofs.tail.Goals as goal

pub returns-then-n-bytes : goal.returns-then-n-bytes
returns-then-n-bytes c = let l = c.args.bytes.now in let n = c.args.n in take_all (length l - n) (drop n l) (le_of_eq (length-drop n l))

pub returns : goal.returns
returns c = let h : length c.args.bytes.now ≤ c.args.n = omega arith in sym (drop_of_length-le c.args.bytes.now h)
