-- 32 bits in bytes, and stores of 16 and 32 bits: past the end nothing changes. Assumes nothing.
use Rattle.std.specs.Prelude.{ℕ, ◌+◌, ◌*◌, ◌/◌, ◌%◌, cond, List, ◌++◌, length, drop, set, leb}
use Rattle.effbd.specs.Records.{word}

abbrev pub long_in : List ℕ → ℕ → ℕ
long_in bytes at = word bytes at + 65536 * word bytes (at + 2)

abbrev pub word_put : List ℕ → ℕ → ℕ → List ℕ
word_put area at value = set (set area at (value % 256)) (at + 1) (value / 256)

abbrev pub long_put : List ℕ → ℕ → ℕ → List ℕ
long_put area at value = word_put (word_put area at (value % 65536)) (at + 2) (value / 65536)

abbrev pub copied : List ℕ → List ℕ → List ℕ
copied from to = cond (leb (length from) (length to)) (from ++ drop (length from) to) to
