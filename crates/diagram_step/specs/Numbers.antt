-- The number of a FUNCTION's transition, over the table and the state's words; and what the check of a state says of a file. Assumes nothing.
use Rattle.std.specs.Prelude.{ℕ, ◌+◌, ◌-◌, ◌≡◌, Bool, cond, ◌&&◌, List, ltb, eqb, length, get_or}
use Rattle.effbd.specs.Answers.{Outcome, accepted, refused}
use Rattle.effbd.specs.Diagrams.{Diagram, function, number_of}
use Rattle.effbd.specs.Nesting.{read_diagram}
use Rattle.effbd.specs.Layout.{places}
use Rattle.effbd.specs.States.{activity_at, state_of, state_passes}
use Rattle.diagram_table.specs.Cells.{kind_in}
use Rattle.net_numbers.specs.Numbers.{first_number_in}

-- "the first one's number plus activity less 1"; 22 for a row that is no FUNCTION, and for an idle one
unfoldable pub function_number_in : (table : List ℕ) (rows : ℕ) (words : List ℕ) (r : ℕ) → Outcome ℕ
function_number_in table rows words r = cond (ltb r rows && (eqb (kind_in table r) (number_of function) && ltb 0 (get_or words (activity_at r) 0)))
    (accepted (first_number_in table r + get_or words (activity_at r) 0 - 1)) (refused 22 r)

-- whether words are a state of an accepted file's diagram: else 20
pub record Checked (file words : List ℕ) (passes : Bool) : Type 0 where
  pub of : (d : Diagram) → read_diagram file ≡ accepted d → passes ≡ (eqb (length words) (places d) && state_passes d (state_of d words))
