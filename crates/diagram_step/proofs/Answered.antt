-- What a call on a file is told, by the check of its state or by the file's refusal.
use Rattle.std.specs.Prelude.{ℕ, ◌+◌, ◌*◌, ◌≡◌, ◌≢◌, Bool, true, false, ◌&&◌, List, eqb, length, Err}
use Rattle.std.proofs.Common.{refl, sym, ◌∙◌, ap, ap₂}
use Rattle.effbd.specs.Ranges.{all_below}
use Rattle.effbd.specs.declared.refusals.Refusal.{Refusal}
use Rattle.effbd.specs.Answers.{Outcome, refused, refusal_number, refusal_value, number}
use Rattle.effbd.specs.Nesting.{read_diagram}
use Rattle.effbd.specs.Moves.{step_diagram, fresh_diagram}
use Rattle.effbd.specs.Transitions.{transition_diagram}
use Rattle.ranges.specs.Reasons.{number-some}
use Rattle.effbd.specs.Records.{are_bytes}
use Rattle.diagram_table.specs.Cells.{some_trigger_in, counts_in}
use Rattle.diagram_table.specs.Held.{HoldsPlant}
use Rattle.diagram_moves.proofs.FunctionMoves.{Small}
use Rattle.diagram_file.specs.Tables.{DiagramOf}
use Rattle.diagram_moves.specs.Decisions.{row_allowed, shared_allowed, state_allowed}
use Rattle.diagram_moves.specs.Changes.{table_move, checked_table_move}
use Rattle.diagram_moves.proofs.FileMoves.{step_is, step-refused, fresh-refused, transition-refused}
use Rattle.table_move.proofs.Answered.{Answered, answered-as, told-refused}

-- the check of a state: on with the move, or 20
module _ (file : List ℕ) (rows items : ℕ) (table l : List ℕ) (code argument : ℕ) (h : HoldsPlant file rows items table) (bytes : are_bytes file ≡ true) (small : Small l)
    {b : Bool} (told : b ≡ state_allowed table rows items (counts_in table items) l) where
  moved : checked_table_move table rows items file l code argument ≡ step_diagram file code argument l
  moved = step_is file l rows items table h bytes small code argument

  pub check-passed : b ≡ true → {answer : Outcome ℕ} {m : List ℕ} → Answered answer l m (table_move table rows items file l code argument) → Answered answer l m (step_diagram file code argument l)
  unfolding checked_table_move
  check-passed e {answer} {m} a = answered-as answer l m (checked_table_move table rows items file l code argument) (step_diagram file code argument l) (rw (sym told ∙ e) a) moved

  pub check-failed : b ≡ false → Answered (refused 20 0) l l (step_diagram file code argument l)
  unfolding checked_table_move
  check-failed e = answered-as (refused 20 0) l l (checked_table_move table rows items file l code argument) (step_diagram file code argument l) (rw (sym told ∙ e) (refl, refl)) moved

-- the counts as they were told; of a plant without triggers as many as items
pub counted-check : (table : List ℕ) (rows items : ℕ) (l : List ℕ) {counts : ℕ} {b : Bool} → counts ≡ counts_in table items → b ≡ state_allowed table rows items counts l
    → b ≡ state_allowed table rows items (counts_in table items) l
counted-check table rows items l c told = told ∙ ap (λ (n : ℕ). state_allowed table rows items n l) c

pub plain-check : (table : List ℕ) (rows items : ℕ) (l : List ℕ) {b : Bool} → some_trigger_in table ≡ 0 → b ≡ (eqb (length l) (3 * rows + items) && all_below rows (row_allowed table l)) → b ≡ state_allowed table rows items (counts_in table items) l
unfolding state_allowed shared_allowed counts_in
plain-check table rows items l none told = rw none (told ∙ ap (λ (x : Bool). eqb (length l) (3 * rows + items) && x) (sym (and-true (all_below rows (row_allowed table l)))))
  where
    and-true : (x : Bool) → (x && true) ≡ x
    and-true true = refl
    and-true false = refl

-- a file that was refused
module _ (file l : List ℕ) (e : Refusal) (parsed : DiagramOf file (Err e)) where
  file-number : refusal_number (read_diagram file) ≢ 0
  file-number z = number-some e.reason (parsed.number-is ∙ z)

  as-parsed : (o : Outcome (List ℕ)) → o ≡ refused (refusal_number (read_diagram file)) (refusal_value (read_diagram file)) → Answered (refused (number e.reason) e.value) l l o
  as-parsed o q = told-refused l (number e.reason) e.value o (q ∙ sym (ap₂ refused parsed.number-is parsed.value-is))

  pub step-turned : (code argument : ℕ) → Answered (refused (number e.reason) e.value) l l (step_diagram file code argument l)
  step-turned code argument = as-parsed (step_diagram file code argument l) (step-refused file l code argument file-number)

  pub fresh-turned : Answered (refused (number e.reason) e.value) l l (fresh_diagram file l)
  fresh-turned = as-parsed (fresh_diagram file l) (fresh-refused file l file-number)

  pub transition-turned : (r : ℕ) → refused (number e.reason) e.value ≡ transition_diagram file r l
  transition-turned r = ap₂ refused parsed.number-is parsed.value-is ∙ sym (transition-refused file l r file-number)
