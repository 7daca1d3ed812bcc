-- THEOREM (marks-are): the marks over the table, of rows and of counts, are the marks of the diagram's net.
use Rattle.std.proofs.Common.{ℕ, zero, suc, ◌<◌, ◌≡◌, refl, ap, ap₂, sym, ◌∙◌, cond, List, ◌∷◌, ◌++◌, map, append_assoc, arith}
use Rattle.effbd.specs.Ranges.{only, tabulate}
use Rattle.effbd.specs.Diagrams.{it_open, Diagram, row_count, is_kind, turn_limit}
use Rattle.effbd.specs.Layout.{places, place_of}
use Rattle.effbd.specs.States.{entered, entered_row}
use Rattle.effbd.specs.Patterns.{fresh_mark, net_of}
use Rattle.agreement.specs.AcceptedFiles.{Held}
use Rattle.agreement.proofs.Reach.{quiet-start}
use Rattle.diagram_table.specs.Cells.{entered_in}
use Rattle.diagram_table.specs.Held.{Holds, HoldsCopies}
use Rattle.diagram_table.proofs.HeldCells.{in_rows, kind-cell, entered-cell}
use Rattle.net_records.specs.Writing.{Records, runs}
use Rattle.net_records.specs.Records.{mark}
use Rattle.net_marks.specs.Marks.{first_mark, remaining, row_marks}
use Rattle.net_records.proofs.Runs.{runs_same, runs-front}
use Rattle.net_records.proofs.Nets.{mark_record}
use Rattle.net_records.proofs.Small.{Small, ◌then◌, mark-small}
use Rattle.net_clears.proofs.Weights.{by_rows}
use Rattle.net_entries.proofs.EnteringRecords.{sparing}
use Rattle.net_counts.specs.Marks.{count_marks}
use Rattle.net_counts.proofs.CountMarks.{counts-are}

marks-run : (n : ℕ) (f : ℕ → ℕ) → map mark_record (tabulate n f) ≡ runs (λ p. mark (f p)) n
unfolding mark_record mark runs
marks-run zero f = refl
marks-run (suc n) f = ap (λ (l : Records). mark_record (f 0) ∷ l) (marks-run n (λ i. f (suc i))) ∙ sym (runs-front (λ p. mark (f p)) n)

module _ (d : Diagram) (rows items : ℕ) (table : List ℕ) (h : Holds d rows items table) (copied : HoldsCopies d table) (held : Held d) where
  pub marks-are : map mark_record (net_of d).marks ≡ runs (row_marks table (entered_in table 0)) rows ++ count_marks table items
  unfolding net_of
  marks-are = marks-run (places d) (λ p. fresh_mark d (place_of d p)) ∙ (by_rows d (λ p w. mark w) (fresh_mark d) ∙ ap₂ ◌++◌
      (runs_same _ _ (row_count d) row ∙ ap (runs (row_marks table (entered_in table 0))) (sym h.records.rows_are))
      (counts-are d rows items table h copied))
    where
      row : (q : ℕ) → q < row_count d → mark (cond (entered d 0 q) 1 0) ++ (mark 0 ++ mark (cond (is_kind d it_open q) (turn_limit d q) 0)) ≡ row_marks table (entered_in table 0) q
      row q l = unfold row_marks first_mark remaining in
          rw ((sparing d 0 (quiet-start d held.acc)).1, entered-cell d rows items table h 0 (omega arith), kind-cell d rows items table h q l, h.records.firsts q (in_rows d rows items table h q l))
          (sym (append_assoc (mark (cond (only (entered_row d 0) q) 1 0)) (mark 0) (mark (cond (is_kind d it_open q) (turn_limit d q) 0))))

pub row-marks-small : (table : List ℕ) (first r : ℕ) → Small (row_marks table first r) 18
unfolding row_marks
row-marks-small table first r = mark-small _ then mark-small 0 then mark-small _
