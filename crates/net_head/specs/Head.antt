-- The kind of a net's head. Assumes nothing.
use Rattle.std.specs.Prelude.{ℕ}

abbrev pub net_head : ℕ
net_head = 32
