-- A sum of two words that stops at the largest one, so that it asks nothing of its caller. Assumes nothing.
use Rattle.std.specs.Prelude.{ℕ, ◌+◌, ◌-◌, cond, ltb}
use Rattle.effbd.specs.Moves.{most_word}

unfoldable pub added : ℕ → ℕ → ℕ
added x n = cond (ltb (most_word - n) x) most_word (x + n)
