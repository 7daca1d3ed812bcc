-- A sum that fits is the plain one.
use Prim.Native.Nat.{ℕ, ◌+◌, ◌-◌, ◌≤◌}
use mathlib.Core.Path.{◌≡◌}
use native.Mathlib.Omega.{arith}
use borrow.Author.Tests.{le-ltb}
use Rattle.effbd.specs.Moves.{most_word}
use Rattle.words.specs.Sums.{added}

pub whole_sum : (x n : ℕ) → x + n ≤ most_word → added x n ≡ x + n
unfolding added
whole_sum x n h = rw (le-ltb (most_word - n) x (omega arith))
