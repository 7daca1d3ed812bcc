-- From the table back to the file: a step and a fresh state as document 01 has them, on a file's bytes and a state's words.
use Rattle.std.specs.Prelude.{ℕ, ◌+◌, ◌*◌, ◌≤◌, ◌≡◌, refl, ◌≢◌, true, ◌&&◌, eqb}
use Rattle.std.proofs.Common.{◌∙◌, ap, arith}
use mathlib.Core.List.{List, append-nil}
use Rattle.std.proofs.Math.ListN.{length, drop_of_length-le}
use borrow.Author.Tests.{le-leb, eqb-true}
use Rattle.effbd.specs.Answers.{Outcome, accepted, refused, and_then, refusal_number, refusal_value}
use Rattle.effbd.specs.Records.{are_bytes}
use Rattle.effbd.specs.Diagrams.{Diagram}
use Rattle.effbd.specs.Nesting.{read_diagram}
use Rattle.effbd.specs.Counts.{count_total}
use Rattle.effbd.specs.Layout.{places}
use Rattle.effbd.specs.States.{state_words, state_of, fresh_words, state_passes}
use Rattle.effbd.specs.Moves.{step_diagram, fresh_diagram}
use Rattle.effbd.specs.Logs.{made}
use Rattle.effbd.specs.Transitions.{transition_diagram}
use Rattle.diagram_table.specs.Held.{HoldsFile, HoldsPlant, FreshOf}
use Rattle.ranges.specs.Tests.{decide}
use Rattle.ranges.specs.RangeLaws.{length-tab}
use Rattle.agreement.specs.AcceptedFiles.{held}
use Rattle.diagram_table.specs.Cells.{counts_in}
use Rattle.diagram_moves.specs.Changes.{table_move, checked_table_move, fresh_placed}
use Rattle.diagram_moves.proofs.FunctionMoves.{Small}
use Rattle.diagram_moves.proofs.MovesAre.{allowed-is, made-is, move-is}
use Rattle.diagram_moves.specs.Decisions.{state_allowed}

-- a refused file turns every call away with its own number and value
refusing : {A : Type 0} (o : Outcome Diagram) (f : Diagram → Outcome A) → refusal_number o ≢ 0 → and_then o f ≡ refused (refusal_number o) (refusal_value o)
refusing (accepted d) f n = absurd (n refl)
refusing (refused number value) f n = refl

module _ (file l : List ℕ) where
  pub step-refused : (code argument : ℕ) → refusal_number (read_diagram file) ≢ 0 → step_diagram file code argument l ≡ refused (refusal_number (read_diagram file)) (refusal_value (read_diagram file))
  unfolding step_diagram
  step-refused code argument n = refusing (read_diagram file) _ n

  pub fresh-refused : refusal_number (read_diagram file) ≢ 0 → fresh_diagram file l ≡ refused (refusal_number (read_diagram file)) (refusal_value (read_diagram file))
  unfolding fresh_diagram
  fresh-refused n = refusing (read_diagram file) _ n

  pub transition-refused : (r : ℕ) → refusal_number (read_diagram file) ≢ 0 → transition_diagram file r l ≡ refused (refusal_number (read_diagram file)) (refusal_value (read_diagram file))
  unfolding transition_diagram
  transition-refused r n = refusing (read_diagram file) _ n

  -- THEOREM: of the table that an accepted file gives, the check of a state is document 01's
  pub check-is : (rows items counts : ℕ) (table : List ℕ) (h : HoldsFile file rows items table) → counts ≡ count_total h.diagram
      → state_allowed table rows items counts l ≡ (eqb (length l) (places h.diagram) && state_passes h.diagram (state_of h.diagram l))
  check-is rows items counts table h c = allowed-is h.diagram rows items table l h.holds counts c

  module _ (rows items : ℕ) (table : List ℕ) (h : HoldsPlant file rows items table) (b : are_bytes file ≡ true) (small : Small l) (code argument : ℕ) where
    d : Diagram
    d = h.held.diagram

    -- THEOREM: of the table that an accepted file gives, the program's outcome is document 01's
    pub step_is : checked_table_move table rows items file l code argument ≡ step_diagram file code argument l
    unfolding step_diagram d
    step_is = rw h.held.read (move-is file d rows items table l (held file d b h.held.read) h.held.holds h.copies h.ranks h.held.uses small code argument)

    -- THEOREM: on a state that passes 20 a move without the check is document 02's move of a log
    pub log-move-is : length l ≡ places h.held.diagram → state_passes h.held.diagram (state_of h.held.diagram l) ≡ true
        → table_move table rows items file l code argument ≡ made h.held.diagram (record { code = code; argument = argument }) l
    unfolding made d
    log-move-is long passes = made-is file d rows items table l (held file d b h.held.read) h.held.holds h.copies h.ranks h.held.uses small code argument long passes

  -- how many words a state has
  pub plant-places : (rows items : ℕ) (table : List ℕ) (h : HoldsPlant file rows items table) → 3 * rows + counts_in table items ≡ places h.held.diagram
  plant-places rows items table h = rw (h.held.holds.records.rows_are, h.held.holds.records.items_are, h.copies.total)

  -- THEOREM: the first words of a fresh state's, where there is room for just so many, are document 01's fresh state in the place of l
  pub fresh-is : (rows items : ℕ) (table source : List ℕ) (size : ℕ) (h : HoldsPlant file rows items table) → FreshOf h.held.diagram source → size ≡ 3 * rows + counts_in table items
      → fresh_placed size source l ≡ fresh_diagram file l
  unfolding fresh_diagram fresh_placed
  fresh-is rows items table source size h f e = rw (h.held.read, e ∙ plant-places rows items table h) (decide (eqb (length l) (places plant))
      (λ y. let b = eqb-true (length l) (places plant) y in rw y (ap accepted (rw (
        f.words,
        long,
        b,
        le-leb (places plant) (places plant) (omega arith),
        drop_of_length-le l (let z : length l ≤ places plant = omega (arith, b) in z),
        append-nil (fresh_words plant),
      ))))
      (λ y. rw y))
    where
      plant : Diagram
      plant = h.held.diagram

      long : length (fresh_words plant) ≡ places plant
      long = unfold fresh_words state_words in length-tab (places plant) _
