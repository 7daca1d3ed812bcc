-- What a table's cells say of the diagram that it holds: its rows' kinds, owners and closes, its BRANCH rows, the row that entering a row changes.
use Prim.Native.Nat.{ℕ, ◌<◌}
use mathlib.Core.Path.{◌≡◌, refl, ap, ◌∙◌}
use mathlib.Core.Bool.{Bool, true, false, cond, ◌&&◌}
use mathlib.Core.List.{List}
use native.Mathlib.Omega.{arith}
use lib.Dec.{eqb}
use Rattle.effbd.specs.Diagrams.{Kind, function, and_open, branch, and_close, or_open, or_close, it_open, it_close, lp_open, lp_close, loop_exit, end, box_open, box_close, box_exit, Diagram, number_of, row_count, kind, is_kind, row, kills}
use Rattle.effbd.specs.Nesting.{owner, branch_ended, close, branch_of}
use Rattle.effbd.specs.States.{entered_as, entered_row}
use Rattle.diagram_table.specs.Cells.{kind_in, owner_in, close_in, first_in, is_branch, kills_in, entered_in}
use Rattle.diagram_table.specs.Held.{Holds}

module _ (d : Diagram) (rows items : ℕ) (table : List ℕ) (h : Holds d rows items table) where
  pub in_rows : (r : ℕ) → r < row_count d → r < rows
  in_rows r l = let e = h.records.rows_are in omega arith

  pub owner-in : (r : ℕ) → r < row_count d → owner d r < row_count d
  owner-in r l = let o = h.owner_low r in omega arith

  pub kind-cell : (r : ℕ) → r < row_count d → kind_in table r ≡ number_of (kind d r)
  kind-cell r l = h.records.kinds r (in_rows r l)

  pub owner-cell : (r : ℕ) → r < row_count d → owner_in table r ≡ owner d r
  owner-cell r l = h.owners r (in_rows r l)

  pub owner-kind : (r : ℕ) → r < row_count d → kind_in table (owner_in table r) ≡ number_of (kind d (owner d r))
  owner-kind r l = ap (kind_in table) (owner-cell r l) ∙ kind-cell (owner d r) (owner-in r l)

  pub close-cell : (r : ℕ) → r < row_count d → close_in table r ≡ close d r
  close-cell r l = h.closes r (in_rows r l)

  entered-shape : (k : Kind) (of_and : Bool) (q : ℕ)
      → cond (eqb (number_of k) 18) (cond of_and (branch_ended d q) (close d (owner d q))) (cond (eqb (number_of k) 19) (branch_ended d q) q) ≡ entered_as d k of_and q
  entered-shape function of_and q = refl
  entered-shape and_open of_and q = refl
  entered-shape branch true q = refl
  entered-shape branch false q = refl
  entered-shape and_close of_and q = refl
  entered-shape or_open of_and q = refl
  entered-shape or_close of_and q = refl
  entered-shape it_open of_and q = refl
  entered-shape it_close of_and q = refl
  entered-shape lp_open of_and q = refl
  entered-shape lp_close of_and q = refl
  entered-shape loop_exit of_and q = refl
  entered-shape end of_and q = refl
  entered-shape box_open of_and q = refl
  entered-shape box_close of_and q = refl
  entered-shape box_exit of_and q = refl

  pub entered-cell : (q : ℕ) → q < row_count d → entered_in table q ≡ entered_row d q
  unfolding entered_in entered_row
  entered-cell q l = rw (owner-cell q l, kind-cell q l, kind-cell (owner d q) (owner-in q l), h.branches q (in_rows q l), close-cell (owner d q) (owner-in q l))
      (entered-shape (kind d q) (is_kind d and_open (owner d q)) q)

  pub branch-cell : (o q : ℕ) → q < row_count d → is_branch table o q ≡ branch_of d o q
  unfolding is_branch branch_of
  branch-cell o q l = rw (kind-cell q l, owner-cell q l)

  pub first_cell : (r : ℕ) → r < row_count d → first_in table r ≡ (row d r).first
  first_cell r l = h.records.firsts r (in_rows r l)

  pub kills-cell : (b : ℕ) → b < row_count d → kills_in table b ≡ (is_kind d branch b && kills d b)
  unfolding kills_in
  kills-cell b l = rw (kind-cell b l, first_cell b l)
