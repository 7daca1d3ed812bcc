-- One record, a head or an item: its length, its fields, its fault.
use Prim.Native.Nat.{ℕ, ◌<◌}
use mathlib.Core.Path.{◌≡◌, ◌∙◌, ap}
use mathlib.Core.Bool.{Bool, true}
use mathlib.Core.List.{List}
use lib.ListN.{length}
use lib.Dec.{eqb}
use borrow.Author.Tests.{eqb-true}
use Rattle.ranges.specs.Tests.{decide}
use Rattle.effbd.specs.Records.{word, length_at, kind_at, length_of, fault_at}
use Rattle.effbd.specs.Diagrams.{head_fault, item_fault}
use Rattle.diagram_records.specs.Fields.{is_item, head_fine}
use Rattle.row_records.proofs.Fields.{short}

-- a length that was looked up by the record's own kind: where another kind is due it is not asked for
own-length : (bytes : List ℕ) (kind due size number : ℕ) (fine : Bool) → fault_at bytes (eqb kind due) (eqb size (length_of kind)) fine number ≡ fault_at bytes (eqb kind due) (eqb size (length_of due)) fine number
unfolding fault_at
own-length bytes kind due size number fine = decide (eqb kind due)
    (λ e. ap (λ (k : ℕ). fault_at bytes (eqb kind due) (eqb size (length_of k)) fine number) (eqb-true kind due e))
    (λ e. rw e)

pub item-short : (bytes : List ℕ) → length bytes < 4 → 1 ≡ item_fault bytes
unfolding item_fault
item-short bytes = short bytes _ _ _ 5

module _ (bytes : List ℕ) where
  pub item-fault-is : (kind size n r : ℕ) (due : Bool) → kind ≡ word bytes 2 → size ≡ word bytes 0 → n ≡ length_of kind → due ≡ is_item kind → r ≡ fault_at bytes due (eqb size n) true 5
      → r ≡ item_fault bytes
  unfolding item_fault is_item
  item-fault-is kind size n r due ek es en ed e = e ∙ rw (ed, en, es, ek)

  pub head-fault-is : (kind size n a rows items r : ℕ) (fine : Bool) → kind ≡ word bytes 2 → size ≡ word bytes 0 → n ≡ length_of kind → a ≡ word bytes 4 → rows ≡ word bytes 6 → items ≡ word bytes 8
      → fine ≡ head_fine a rows items → r ≡ fault_at bytes (eqb kind 1) (eqb size n) fine 4 → r ≡ head_fault bytes
  unfolding head_fault head_fine
  head-fault-is kind size n a rows items r fine ek es en ea er ei ef e = e ∙ (rw (ef, ea, er, ei, en, es, ek) (own-length bytes (kind_at bytes) 1 (length_at bytes) 4 _))
