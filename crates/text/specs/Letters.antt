-- A text's bytes, for texts of plain letters. Assumes nothing.
use Rattle.std.specs.Prelude.{ℕ, List, [], ◌∷◌}
use Prim.Native.Char.{code}
use Prim.Native.String.{String, [] as nothing, ◌∷◌ as ◌before◌}

abbrev pub letters : String → List ℕ
letters nothing = []
letters (letter before text) = code letter ∷ letters text
