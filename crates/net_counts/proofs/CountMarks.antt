-- The marks of all counts: an item's place has its initial count, that of a trigger none, and each of its copies has it.
use Rattle.std.proofs.Common.{ℕ, ◌+◌, ◌<◌, ◌≡◌, ap₂, ◌∙◌, List, ◌++◌, arith, eqb, eqb-true}
use Rattle.effbd.specs.Diagrams.{Diagram, is_trigger, item_total, row_count}
use Rattle.effbd.specs.Counts.{count_total, initial_count}
use Rattle.ranges.specs.Tests.{decide}
use Rattle.agreement.specs.Sources.{copies-run, item-shared, plain-copies}
use Rattle.diagram_table.specs.Cells.{some_trigger_in, shared_in}
use Rattle.diagram_table.specs.Held.{Holds, HoldsCopies}
use Rattle.net_records.specs.Writing.{runs}
use Rattle.net_records.specs.Records.{mark}
use Rattle.net_records.proofs.Runs.{runs_same, runs_none}
use Rattle.net_counts.specs.Marks.{item_mark, equal_marks, copy_marks, copies_marks, count_marks}
use Rattle.net_uses.proofs.CountTurns.{first_of, receivers_of, by-counts}

module _ (d : Diagram) (rows items : ℕ) (table : List ℕ) (h : Holds d rows items table) (copied : HoldsCopies d table) where
  in-items : (k : ℕ) → k < item_total d → k < items
  in-items k l = let e = h.records.items_are in omega arith

  item-is : (k : ℕ) → k < item_total d → mark (initial_count d k) ≡ item_mark table k
  unfolding initial_count item_mark shared_in
  item-is k l = rw (item-shared d k l, h.records.triggers k (in-items k l), h.records.counts k (in-items k l)) (decide (is_trigger d k) (λ t. rw t) (λ t. rw t))

  copies-are : (k : ℕ) → k < item_total d → runs (λ i. mark (initial_count d (first_of d k + i))) (receivers_of d k) ≡ copy_marks table k
  unfolding initial_count copy_marks equal_marks runs
  copies-are k l = rw (h.records.triggers k (in-items k l)) (decide (is_trigger d k)
      (λ t. rw (t, copied.receivers k l t, h.records.counts k (in-items k l)) (runs_same _ _ (receivers_of d k) (λ i b. rw (copies-run d k i l b).is)))
      (λ t. rw (t, plain-copies d k (row_count d) t)))

  pub counts-are : runs (λ c. mark (initial_count d c)) (count_total d) ≡ count_marks table items
  unfolding count_marks copies_marks
  counts-are = rw h.records.items_are (by-counts d (λ c. mark (initial_count d c)) ∙ ap₂ ◌++◌
      (runs_same _ _ (item_total d) item-is)
      (runs_same _ (copy_marks table) (item_total d) copies-are ∙ decide (eqb (some_trigger_in table) 0)
      (λ e. rw e (runs_none _ (item_total d) (λ k l. unfold copy_marks in rw (h.records.triggers k (in-items k l), h.records.no_trigger (eqb-true (some_trigger_in table) 0 e) k (in-items k l)))))
      (λ e. rw e)))
