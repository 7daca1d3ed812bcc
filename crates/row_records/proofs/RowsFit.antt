-- Where rows can be read, and where not: what is asked of them, and what is promised.
use Prim.Native.Nat.{ℕ, ◌≤◌}
use mathlib.Core.Path.{◌≡◌, refl, ◌∙◌}
use mathlib.Core.Bool.{true, false, ◌&&◌}
use mathlib.Core.List.{List}
use lib.ListN.{length}
use lib.Dec.{leb, eqb}
use borrow.Author.Tests.{le-leb, leb-true, eq-eqb, eqb-true}
use Rattle.effbd.specs.Diagrams.{most_rows, most_items}
use Rattle.effbd.specs.Moves.{most_word}
use Rattle.ranges.specs.Tests.{and_left, and_right, clash}
use Rattle.diagram_table.specs.Cells.{cell_total}
use Rattle.row_records.specs.Rows.{Reached, table_fault, RowsRead, rows_laid, rows_fit, RowsInto}

module _ (from due items long : ℕ) where
  pub fits : from ≤ 106 → due ≤ most_rows → items ≤ most_items → long ≡ cell_total → rows_fit from due items long ≡ true
  unfolding rows_fit
  fits a b c e = rw (le-leb from 106 a, le-leb due most_rows b, le-leb items most_items c, eq-eqb long cell_total e)

  module _ (h : rows_fit from due items long ≡ true) where
    behind : (leb due most_rows && (leb items most_items && eqb long cell_total)) ≡ true
    unfolding rows_fit
    behind = and_right (leb from 106) _ h

    last : (leb items most_items && eqb long cell_total) ≡ true
    last = and_right (leb due most_rows) _ behind

    pub in-range : ((from ≤ 106) × (due ≤ most_rows)) × (items ≤ most_items)
    unfolding rows_fit
    in-range = ((leb-true from 106 (and_left (leb from 106) _ h), leb-true due most_rows (and_left (leb due most_rows) _ behind)), leb-true items most_items (and_left (leb items most_items) _ last))

    pub table-long : long ≡ cell_total
    table-long = eqb-true long cell_total (and_right (leb items most_items) _ last)

module _ (items from : ℕ) (start : List ℕ) (due : ℕ) (before : List ℕ) where
  pub not-into : rows_fit from due items (length before) ≡ false → RowsInto items from start due before before (record { fault = most_word; at = from })
  not-into e = record { is = rw e; other = λ _. refl; of = λ z. clash z e }

  pub into : (table : List ℕ) (r : Reached) → rows_fit from due items (length before) ≡ true → table ≡ rows_laid items 0 from due start before
      → RowsRead (table_fault items table) from start due before table r → RowsInto items from start due before table r
  into table r e l w = record { is = l ∙ rw e; other = λ z. clash e z; of = λ _. w }

  pub laid : (table : List ℕ) (r : Reached) → RowsInto items from start due before table r → rows_fit from due items (length before) ≡ true → table ≡ rows_laid items 0 from due start before
  laid table r w e = w.is ∙ rw e
