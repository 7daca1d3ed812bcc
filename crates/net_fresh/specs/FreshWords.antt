-- A fresh state, word for word as a net file gives it. Assumes nothing.
use Rattle.std.specs.Prelude.{ℕ, ◌+◌, ◌*◌, cond, List, ltb}
use Rattle.effbd.specs.Records.{word}

-- word i of a fresh state: the marks that a file of so many places gives, clocks 0
unfoldable pub fresh_word : List ℕ → ℕ → ℕ → ℕ
fresh_word file places i = cond (ltb i places) (word file (8 + 6 * i + 4)) 0
