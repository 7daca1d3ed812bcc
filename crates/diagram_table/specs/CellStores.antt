-- Several stores into a table, in their order. Assumes nothing.
use Rattle.std.specs.Prelude.{ℕ, List, [], ◌∷◌, set}

pub record Cell : Type 0 where
  pub at : ℕ
  pub value : ℕ

abbrev pub cell : ℕ → ℕ → Cell
cell at value = record { at = at; value = value }

unfoldable pub put_all : List Cell → List ℕ → List ℕ
put_all [] table = table
put_all (c ∷ cs) table = put_all cs (set table c.at c.value)
