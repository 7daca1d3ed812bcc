-- THEOREM (number_is): the number over an accepted file's table is the definition's; and what the call is told, branch by branch.
use Rattle.std.specs.Prelude.{ℕ, ◌+◌, ◌-◌, ◌*◌, ◌≤◌, ◌<◌, ◌≡◌, Bool, true, false, ◌&&◌, List, ltb, eqb, length, get_or}
use Rattle.std.proofs.Common.{sym, ◌∙◌, ap, ap₂, subst, arith}
use borrow.Author.Tests.{ne_eqb, lt-ltb, le-ltb, ltb-true, ltb-false}
use Rattle.ranges.specs.Tests.{decide}
use Rattle.effbd.specs.Answers.{accepted, refused}
use Rattle.effbd.specs.Records.{are_bytes}
use Rattle.effbd.specs.Diagrams.{Diagram, row_count}
use Rattle.effbd.specs.Nesting.{read_diagram}
use Rattle.effbd.specs.Ranges.{all_below}
use Rattle.effbd.specs.Counts.{count_total}
use Rattle.effbd.specs.Layout.{places}
use Rattle.effbd.specs.States.{activity_at, state_of, state_passes}
use Rattle.effbd.specs.Transitions.{checked_number, function_number, transition_diagram}
use Rattle.agreement.specs.Basics.{kind-past}
use Rattle.agreement.specs.AcceptedFiles.{held}
use Rattle.agreement.specs.Sources.{counts-are}
use Rattle.copies.specs.Promised.{CopyTotal}
use Rattle.copies.proofs.Plants.{plain_plant}
use Rattle.diagram_table.specs.Cells.{counts_in, kind_in, some_trigger_in}
use Rattle.diagram_table.specs.Held.{HoldsFile}
use Rattle.diagram_table.proofs.HeldCells.{kind-cell}
use Rattle.net_numbers.specs.Numbers.{first_number_in}
use Rattle.net_numbers.proofs.FirstNumbers.{first-is}
use Rattle.diagram_moves.specs.Decisions.{row_allowed, state_allowed}
use Rattle.diagram_moves.proofs.FileMoves.{check-is}
use Rattle.diagram_step.proofs.Answered.{plain-check}
use Rattle.diagram_step.specs.Numbers.{Checked, function_number_in}

-- over the table
module _ (table : List ℕ) (rows : ℕ) (words : List ℕ) (r : ℕ) where
  pub row-beyond : rows ≤ r → refused 22 r ≡ function_number_in table rows words r
  unfolding function_number_in
  row-beyond l = rw (le-ltb r rows l)

  module _ (l : r < rows) {k : ℕ} (is : k ≡ kind_in table r) where
    pub other-kind : (k ≡ 16 → ⊥) → refused 22 r ≡ function_number_in table rows words r
    unfolding function_number_in
    other-kind n = rw (lt-ltb r rows l, ← is, ne_eqb k 16 n)

    module _ (f : k ≡ 16) {a : ℕ} (stands : a ≡ get_or words (activity_at r) 0) where
      pub idle-row : a ≡ 0 → refused 22 r ≡ function_number_in table rows words r
      unfolding function_number_in
      idle-row z = rw (lt-ltb r rows l, ← is, f, ← stands, z)

      pub numbered : (a ≡ 0 → ⊥) → {first : ℕ} → first ≡ first_number_in table r → accepted (first + a - 1) ≡ function_number_in table rows words r
      unfolding function_number_in
      numbered n e = rw (lt-ltb r rows l, ← is, f, ← stands, lt-ltb 0 a (omega arith), e)

module _ (file : List ℕ) (rows items : ℕ) (table : List ℕ) (h : HoldsFile file rows items table) where
  abbrev d : Diagram
  d = h.diagram

  number_is : (words : List ℕ) (r : ℕ) → function_number_in table rows words r ≡ function_number d r (state_of d words)
  unfolding function_number_in state_of
  number_is words r = decide (ltb r rows)
      (λ y. let l : r < row_count d = omega (arith, ltb-true r rows y, h.holds.records.rows_are) in
      rw (y, lt-ltb r (row_count d) l, kind-cell d rows items table h.holds r l, (first-is d rows items table h.holds r (omega arith)).0))
      (λ y. let l : row_count d ≤ r = omega (arith, ltb-false r rows y, h.holds.records.rows_are) in rw (y, kind-past d r l))

  -- the check of the state, then the number
  module _ (words : List ℕ) (r : ℕ) {b : Bool} (c : Checked file words b) where
    pub state-passed : b ≡ true → function_number_in table rows words r ≡ transition_diagram file r words
    unfolding transition_diagram checked_number
    state-passed y = rw (h.read, sym (c.of d h.read) ∙ y) (number_is words r)

    pub state-off : b ≡ false → refused 20 0 ≡ transition_diagram file r words
    unfolding transition_diagram checked_number
    state-off y = rw (h.read, sym (c.of d h.read) ∙ y)

-- the check, as the file's table says it of a state with as many counts as the diagram has
module _ (file words : List ℕ) (rows items : ℕ) (table : List ℕ) (h : HoldsFile file rows items table) {b : Bool} where
  checked-by : (counts : ℕ) → counts ≡ count_total h.diagram → b ≡ state_allowed table rows items counts words → Checked file words b
  checked-by counts c e = record {
    of = λ d read. subst (λ (x : Diagram). b ≡ (eqb (length words) (places x) && state_passes x (state_of x words))) (same d read) (e ∙ check-is file words rows items counts table h c);
  }
    where
      same : (d : Diagram) → read_diagram file ≡ accepted d → h.diagram ≡ d
      same d read = let q : accepted h.diagram ≡ accepted d = sym h.read ∙ read in cc

  -- of a plant without triggers, which has no more counts than items; of one with copies
  pub plain-checked : {s : ℕ} → s ≡ some_trigger_in table → s ≡ 0 → b ≡ (eqb (length words) (3 * rows + items) && all_below rows (row_allowed table words)) → Checked file words b
  unfolding plain_plant
  plain-checked e none told = checked-by (counts_in table items) (ap (counts_in table) h.holds.records.items_are ∙ (plain_plant file rows items table h (sym e ∙ none)).copies.total)
      (plain-check table rows items words (sym e ∙ none) told)

  pub copies-checked : are_bytes file ≡ true → {c : ℕ} → CopyTotal file rows items table c → b ≡ state_allowed table rows items (items + c) words → Checked file words b
  copies-checked bytes {c} w told = checked-by (items + c) (ap₂ (λ (x y : ℕ). x + y) h.holds.records.items_are (w.of d (held file d bytes h.read) h.holds.records h.uses.uses) ∙ sym (counts-are d)) told
    where
      d : Diagram
      d = h.diagram
