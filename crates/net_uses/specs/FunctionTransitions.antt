-- The records of a FUNCTION's transitions, in the order of the file, from a diagram's table and its file's bytes.
-- Any words are a table: past its end a word is 0. Assumes nothing.
use Rattle.std.specs.Prelude.{ℕ, ◌+◌, ◌*◌, Bool, cond, List, [], ◌∷◌, ◌++◌, eqb}
use Rattle.effbd.specs.Diagrams.{Use}
use Rattle.effbd.specs.Nets.{take_arc, give_arc}
use Rattle.diagram_table.specs.Cells.{first_in, second_in, uses_in, trigger_in, some_trigger_in, run_first, run_length}
use Rattle.net_records.specs.Writing.{Records, runs}
use Rattle.net_records.specs.Records.{transition, arc}
use Rattle.net_entries.specs.Entering.{entering}

-- the takes of uses, or their gives: the byte of a use that has the weight, and the weight
unfoldable pub weight_at : (kind : ℕ) → ℕ
weight_at kind = cond (eqb kind take_arc) 2 4

unfoldable pub use_weight : (kind : ℕ) → Use → ℕ
use_weight kind u = cond (eqb kind take_arc) u.take u.give

-- arcs of one weight to n places, from place `first` on
unfoldable pub equal_arcs : (kind first n weight : ℕ) → Records
equal_arcs kind first n weight = runs (λ i. arc kind (first + i) weight) n

-- use j of a row, which names trigger k: arcs to the copies that it changes
unfoldable pub copy_arcs : (table : List ℕ) (rows kind row j k weight : ℕ) → Records
copy_arcs table rows kind row j k weight = let giving = eqb kind give_arc in equal_arcs kind (3 * rows + run_first table giving row j k) (run_length table giving k) weight

-- use j of a row, which names item k, in a pass over the uses: in pass 0 the arc of an item, in pass 1 those of a trigger's copies
unfoldable pub use_arc : (table : List ℕ) (rows kind row pass j k weight : ℕ) → Records
use_arc table rows kind row pass j k weight = cond (eqb (trigger_in table k) pass)
    (cond (eqb pass 0) (arc kind (3 * rows + k) weight) (copy_arcs table rows kind row j k weight))
    []

-- a pass over uses, the first of which is use j
unfoldable pub pass_arcs : (table : List ℕ) (rows kind row pass j : ℕ) → List Use → Records
pass_arcs table rows kind row pass j [] = []
pass_arcs table rows kind row pass j (u ∷ us) = use_arc table rows kind row pass j u.item (use_weight kind u) ++ pass_arcs table rows kind row pass (j + 1) us

-- a row's arcs where there are triggers; places rise: the copies stand behind all items
unfoldable pub trigger_arcs : (table : List ℕ) (rows kind row : ℕ) → List Use → Records
trigger_arcs table rows kind row us = pass_arcs table rows kind row 0 0 us ++ pass_arcs table rows kind row 1 0 us

-- a row's arcs where there are none
unfoldable pub plain_arcs : (rows kind : ℕ) → List Use → Records
plain_arcs rows kind [] = []
plain_arcs rows kind (u ∷ us) = arc kind (3 * rows + u.item) (use_weight kind u) ++ plain_arcs rows kind us

-- either, as there are triggers or none
unfoldable pub arcs_of : (triggers : Bool) (table : List ℕ) (rows kind row : ℕ) → List Use → Records
arcs_of triggers table rows kind row us = cond triggers (trigger_arcs table rows kind row us) (plain_arcs rows kind us)

unfoldable pub use_arcs : (table : List ℕ) (rows kind row : ℕ) → List Use → Records
use_arcs table rows kind row us = cond (eqb (some_trigger_in table) 0) (plain_arcs rows kind us) (trigger_arcs table rows kind row us)

-- the transitions of a FUNCTION, from the arcs of its uses
unfoldable pub function_start : (row : ℕ) (takes : Records) → Records
function_start row takes = transition row 0 0 ++ arc take_arc (3 * row) 1 ++ takes ++ arc give_arc (3 * row + 1) 1

unfoldable pub function_end : (table : List ℕ) (row : ℕ) (gives : Records) → Records
function_end table row gives = transition row (first_in table row) (second_in table row) ++ arc take_arc (3 * row + 1) 1 ++ entering table (row + 1) ++ gives

unfoldable pub function_of : (table : List ℕ) (row : ℕ) (takes gives : Records) → Records
function_of table row takes gives = function_start row takes ++ function_end table row gives

-- its uses are in the bytes of the file
unfoldable pub function_records : (table file : List ℕ) (rows row : ℕ) → Records
function_records table file rows row = let uses = uses_in table file row in function_of table row (use_arcs table rows take_arc row uses) (use_arcs table rows give_arc row uses)
