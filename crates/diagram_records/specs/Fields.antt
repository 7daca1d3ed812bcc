-- The tests of a head's and an item's fields, over numbers. Assumes nothing.
use Rattle.std.specs.Prelude.{ℕ, Bool, ◌&&◌, ◌||◌, leb, eqb}
use Rattle.effbd.specs.Diagrams.{edition, most_rows, most_items}

unfoldable pub is_item : ℕ → Bool
is_item kind = eqb kind 2 || eqb kind 3

unfoldable pub head_fine : (edition_given rows items : ℕ) → Bool
head_fine edition_given rows items = eqb edition_given edition && (leb 1 rows && (leb rows most_rows && leb items most_items))
