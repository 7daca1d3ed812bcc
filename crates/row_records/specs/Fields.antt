-- The tests of one row record's fields, over numbers. Assumes nothing.
use Rattle.std.specs.Prelude.{ℕ, ◌+◌, ◌-◌, ◌*◌, ◌/◌, ◌%◌, Bool, true, cond, ◌&&◌, List, drop, leb, ltb, eqb}
use Rattle.effbd.specs.Records.{word, length_at, fault_at}
use Rattle.effbd.specs.Diagrams.{uses_at, uses_fine}

-- field `number` of a record whose kind has `fields`, counted from 1; 0 where it has no such field
unfoldable pub field_of : (fields number : ℕ) → List ℕ → ℕ
field_of fields number bytes = cond (leb number fields) (word bytes (2 + 2 * number)) 0

unfoldable pub use_fine : (items from item take give : ℕ) → Bool
use_fine items from item take give = leb from item && (ltb item items && ltb 0 (take + give))

unfoldable pub is_row : ℕ → Bool
is_row kind = leb 16 kind && leb kind 31

unfoldable pub function_right : (size base items : ℕ) → Bool
function_right size base items = leb base size && (eqb ((size - base) % 6) 0 && leb ((size - base) / 6) items)

unfoldable pub turn_limit_fine : ℕ → Bool
turn_limit_fine count = leb 2 count && leb count 255

-- of a FUNCTION whose kind gives the length `base`, with its uses from byte `behind` on
unfoldable pub function_fine : (base behind items : ℕ) → List ℕ → Bool
function_fine base behind items bytes = leb (word bytes 4) (word bytes 6) && uses_fine items 0 (uses_at ((length_at bytes - base) / 6) (drop behind bytes))

unfoldable pub function_fault : (base behind items : ℕ) → List ℕ → ℕ
function_fault base behind items bytes = fault_at bytes true (function_right (length_at bytes) base items) (function_fine base behind items bytes) 5
