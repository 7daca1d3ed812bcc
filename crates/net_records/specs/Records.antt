-- The records of a net, each as its words. Assumes nothing.
use Rattle.std.specs.Prelude.{ℕ, ◌%◌, cond, [], ◌∷◌, eqb}
use Rattle.net_records.specs.Writing.{Records}

-- one transition, its label the row
unfoldable pub transition : (label earliest latest : ℕ) → Records
transition label earliest latest = (10 ∷ 34 ∷ label % 65536 ∷ earliest ∷ latest ∷ []) ∷ []

-- a head or a clear: a kind and two places or numbers
unfoldable pub pair : (kind first second : ℕ) → Records
pair kind first second = (8 ∷ kind ∷ first % 65536 ∷ second % 65536 ∷ []) ∷ []

-- a take or a give, left out where it weighs nothing
unfoldable pub arc : (kind place weight : ℕ) → Records
arc kind place weight = cond (eqb weight 0) [] ((8 ∷ kind ∷ place % 65536 ∷ weight ∷ []) ∷ [])

-- a place and its mark
unfoldable pub mark : ℕ → Records
mark weight = (6 ∷ 33 ∷ weight ∷ []) ∷ []
