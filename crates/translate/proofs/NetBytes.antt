-- THEOREM (net-is): the records over the table are the bytes of the diagram's net.
use Prim.Native.Nat.{ℕ}
use mathlib.Core.Path.{◌≡◌, ap, ap₂, sym, ◌∙◌}
use mathlib.Core.List.{List, ◌++◌, append_assoc}
use Rattle.effbd.specs.Diagrams.{Diagram}
use Rattle.effbd.specs.Nets.{net_bytes}
use Rattle.effbd.specs.Patterns.{net_of}
use Rattle.agreement.specs.AcceptedFiles.{Held}
use Rattle.diagram_table.specs.Held.{Holds, HoldsUses, HoldsCopies, HoldsRanks}
use Rattle.net_records.specs.Writing.{flat}
use Rattle.net_records.proofs.Nets.{records_of, flat-net}
use Rattle.net_head.proofs.HeadRecord.{head-is}
use Rattle.net_marks.proofs.FreshMarks.{marks-are}
use Rattle.net_rows.proofs.NetTransitions.{transitions-are}
use Rattle.translate.specs.NetRecords.{net_records}

pub net-is : (d : Diagram) (rows items : ℕ) (table file : List ℕ) → Holds d rows items table → HoldsUses file d table → HoldsCopies d table → HoldsRanks d table
    → Held d
    → flat (net_records table file rows items) ≡ net_bytes (net_of d)
net-is d rows items table file h u copied ranked held = ap flat same ∙ flat-net (net_of d)
  where
    same : net_records table file rows items ≡ records_of (net_of d)
    same = unfold net_records records_of in
        sym (ap₂ ◌++◌ (head-is d rows items table h copied held) (ap₂ ◌++◌ (marks-are d rows items table h copied held) (transitions-are d rows items table file h u copied ranked held)) ∙ simp append_assoc)
