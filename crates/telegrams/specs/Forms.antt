-- The form of a telegram, of either edition: size, length and kind.
use Rattle.std.specs.Prelude.{ℕ, Bool, ◌&&◌, List, length, eqb}
use Rattle.effbd.specs.Records.{length_at, kind_at}

abbrev pub has_form : (size kind : ℕ) → List ℕ → Bool
has_form size kind bytes = eqb (length bytes) size && (eqb (length_at bytes) size && eqb (kind_at bytes) kind)
