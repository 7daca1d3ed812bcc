-- THEOREM (net-small): the net of a diagram has no more bytes than its rows, items and counts allow, and never more than 32 bits can say.
use Prim.Native.Nat.{ℕ, ◌+◌, ◌*◌, ◌≤◌, ◌<◌}
use mathlib.Core.Path.{subst}
use native.Mathlib.Omega.{arith}
use native.Mathlib.Nat.{mul-le-mul}
use mathlib.Core.List.{List}
use lib.ListN.{length}
use lib.Dec.{leb}
use Rattle.effbd.specs.Diagrams.{Diagram}
use Rattle.effbd.specs.Counts.{count_total}
use Rattle.effbd.specs.Nets.{net_bytes}
use Rattle.effbd.specs.Patterns.{net_of}
use Rattle.ranges.specs.Tests.{decide}
use Rattle.agreement.specs.AcceptedFiles.{Held}
use Rattle.agreement.specs.Counts.{counts-few}
use Rattle.diagram_table.specs.Cells.{entered_in}
use Rattle.diagram_table.specs.Held.{Holds, HoldsUses, HoldsCopies, HoldsRanks}
use Rattle.net_records.proofs.Small.{Small, more, ◌then◌, turns, pair_small, mark-small}
use Rattle.net_rows.specs.Rows.{most_row_bytes}
use Rattle.net_rows.proofs.RowSizes.{row-most, row_small}
use Rattle.net_head.specs.Head.{net_head}
use Rattle.net_counts.specs.Marks.{count_marks}
use Rattle.net_counts.proofs.CountMarks.{counts-are}
use Rattle.net_marks.proofs.FreshMarks.{row-marks-small}
use Rattle.translate.specs.NetRecords.{net_records, longest_net, net_room}
use Rattle.translate.proofs.NetBytes.{net-is}

longest-most : (rows items counts : ℕ) → rows ≤ 64 → items ≤ 16 → counts ≤ 1024 → longest_net rows items counts ≤ net_room
unfolding longest_net
longest-most rows items counts l m n = let p = mul-le-mul l (row-most rows items counts l m n) in omega arith

-- without triggers the counts are the items
row_plain : (rows items : ℕ) → rows ≤ 64 → items ≤ 16 → most_row_bytes rows items items ≤ 948
unfolding most_row_bytes
row_plain rows items l m = decide (leb (52 + 16 * items + 8 * items) 100) (λ e. rw e (omega arith)) (λ e. rw e (omega arith))

pub longest-plain : (rows items : ℕ) → rows ≤ 64 → items ≤ 16 → longest_net rows items items ≤ 61928
unfolding longest_net
longest-plain rows items l m = let p = mul-le-mul l (row_plain rows items l m) in omega arith

-- all rows, were they so long as 16 and 32 bits allow
pub rows_fit : (rows row : ℕ) → rows ≤ 65535 → row < 68719476736 → rows * row ≤ 4503530907893760
rows_fit rows row l m = let n : row ≤ 68719476736 = omega arith in let p = mul-le-mul l n in omega arith

module _ (d : Diagram) (rows items : ℕ) (table file : List ℕ) (h : Holds d rows items table) (u : HoldsUses file d table) (copied : HoldsCopies d table) (ranked : HoldsRanks d table)
    (held : Held d) where
  marks-small : Small (count_marks table items) (count_total d * 6)
  marks-small = subst (λ x. Small x (count_total d * 6)) (counts-are d rows items table h copied) (turns _ 6 (count_total d) (λ c l. mark-small _))

  records-small : Small (net_records table file rows items) (longest_net rows items (count_total d))
  unfolding net_records longest_net
  records-small = more (omega arith)
      (pair_small net_head _ _ then turns _ 18 rows (λ r l. row-marks-small table (entered_in table 0) r) then marks-small
      then turns _ (most_row_bytes rows items (count_total d)) rows (λ r l. row_small d rows items table file h u copied ranked held r (let e = h.records.rows_are in omega arith)))

  pub net-small : length (net_bytes (net_of d)) ≤ longest_net rows items (count_total d)
  net-small = rw (← net-is d rows items table file h u copied ranked held) records-small.size

  pub net-short : length (net_bytes (net_of d)) ≤ net_room
  net-short =
      let a = net-small in
      let few = counts-few d 63 held.works in
      let i = held.items in
      let b = longest-most rows items (count_total d) h.records.few_rows h.records.few_items (omega arith) in
      omega arith
