-- All that is counted, of a table that has a diagram's records: they stand as before, and receivers, first copies, their number and ranks are the diagram's.
use Prim.Native.Nat.{ℕ, ◌+◌, ◌≤◌, ◌<◌, zero-le}
use mathlib.Core.Path.{◌≡◌, refl, sym, ◌∙◌, subst}
use mathlib.Core.Bool.{true}
use mathlib.Core.List.{List}
use native.Mathlib.Omega.{arith}
use lib.ListN.{length, get_or, set, take, length-set, length-take, get_or-eq_default}
use lib.Seq.{get_or-set_same, get_or-set_other, get_or-take}
use Rattle.effbd.specs.Diagrams.{Diagram, function, row_count, item_total, row, is_kind}
use Rattle.effbd.specs.Counts.{copies, copies_of}
use Rattle.words.specs.Stores.{copied}
use Rattle.agreement.specs.AcceptedFiles.{Held}
use Rattle.diagram_table.specs.Cells.{cell_of, item_cell, receivers_cell, some_trigger_cell, cell_total, counted_total, rank_cell, receivers_in, first_copy_in, some_trigger_in, copies_in, rank_in, uses_in}
use Rattle.diagram_table.specs.Held.{Tabulated, no_use}
use Rattle.copies.specs.Counting.{rows_counted, copies_numbered, copies_counted}
use Rattle.copies.specs.Promised.{zeros}
use Rattle.copies.proofs.RowsCounted.{Begun, RowsDone, rows-counted, uses-same}
use Rattle.copies.proofs.CopiesNumbered.{CopiesDone, copies-numbered}
use Rattle.copies.proofs.Fronts.{copied-long, copied_at}

pub record Counted (d : Diagram) (n : ℕ) (table wide : List ℕ) : Type 0 where
  pub long : length wide ≡ n
  pub below : (i : ℕ) → i < some_trigger_cell → get_or wide i 0 ≡ get_or table i 0
  pub some : some_trigger_in wide ≡ 1
  pub receivers : (k : ℕ) → k < item_total d → receivers_in wide k ≡ length (copies_of d k (row_count d))
  pub firsts : (k : ℕ) → k < item_total d → first_copy_in wide k ≡ item_total d + length (copies d k)
  pub total : copies_in wide ≡ length (copies d (item_total d))
  pub ranks : (q j : ℕ) → q < row_count d → is_kind d function q ≡ true → j < length (row d q).uses → rank_cell q j < n
      → rank_in wide q j ≡ length (copies_of d (get_or (row d q).uses j no_use).item q)

module _ (table : List ℕ) (n : ℕ) (room : counted_total ≤ n) where
  -- the records in front of zeros
  abbrev front : List ℕ
  front = take some_trigger_cell table

  abbrev start : List ℕ
  start = set (copied front (zeros n)) some_trigger_cell 1

  few : length front ≤ some_trigger_cell
  few = simp length-take (omega arith)

  start-long : length start ≡ n
  start-long = length-set (copied front (zeros n)) some_trigger_cell 1 ∙ copied-long front n (let a = few in omega arith)

  start-below : (i : ℕ) → i < some_trigger_cell → get_or start i 0 ≡ get_or table i 0
  start-below i l = get_or-set_other (copied front (zeros n)) some_trigger_cell i 1 0 (λ e. absurd (omega arith)) ∙ (copied_at front n (let a = few in omega arith) i ∙ get_or-take some_trigger_cell table i 0 l)

  start_none : (i : ℕ) → cell_total ≤ i → get_or start i 0 ≡ 0
  start_none i l = get_or-set_other (copied front (zeros n)) some_trigger_cell i 1 0 (λ e. absurd (omega arith))
      ∙ (copied_at front n (let a = few in omega arith) i ∙ get_or-eq_default front 0 {n = i} (let a = few in omega arith))

  start-some : some_trigger_in start ≡ 1
  start-some = get_or-set_same (copied front (zeros n)) some_trigger_cell 1 0 (let a = start-long in omega (arith, copied-long front n (let a = few in omega arith)))

  module _ (file : List ℕ) (d : Diagram) (h : Held d) (rows items : ℕ) (b : Tabulated d rows items table)
      (uses : (r : ℕ) → r < row_count d → uses_in table file r ≡ (row d r).uses) where
    begun : Begun file d start
    begun = let x = h.rows in let y = h.items in let e = b.rows_are in let f = b.items_are in record {
      long = omega (arith, start-long);
      kinds = λ r l. start-below r (omega arith) ∙ b.kinds r (omega arith);
      triggers = λ k l. start-below (item_cell 1 k) (omega arith) ∙ b.triggers k (omega arith);
      uses = λ r l. uses-same table start file r (start-below (cell_of 3 r) (omega arith)) (start-below (cell_of 4 r) (omega arith)) ∙ uses r l;
      none = λ k l. start_none (receivers_cell k) (omega arith);
    }

    counted : {s next : List ℕ} → RowsDone d (row_count d) start s → CopiesDone d 0 s next → Counted d n table next
    counted w c = let y = h.items in record {
      long = c.long ∙ (w.long ∙ start-long);
      below = λ i l. c.below i (omega arith) ∙ (w.below i (omega arith) ∙ start-below i l);
      some = c.below some_trigger_cell (omega arith) ∙ (w.below some_trigger_cell (omega arith) ∙ start-some);
      receivers = λ k l. c.below (receivers_cell k) (omega arith) ∙ w.receivers k l;
      firsts = λ k l. c.firsts k zero-le l;
      total = c.total;
      ranks = λ q j l f m z. c.above (rank_cell q j) (omega arith) ∙ w.ranks q j l f m (omega (arith, start-long));
    }

    wide_is : copies_counted file rows items table (zeros n) ≡ copies_numbered (item_total d) (item_total d) 0 0 (rows_counted file (row_count d) start)
    unfolding copies_counted
    wide_is = rw (b.rows_are, b.items_are)

    pub copies-counted : Counted d n table (copies_counted file rows items table (zeros n))
    copies-counted =
        let w = rows-counted d h file start begun (row_count d) (omega arith) in
        subst (Counted d n table) (sym wide_is) (counted w (copies-numbered d h (item_total d) 0 0 (rows_counted file (row_count d) start) (omega arith) none (omega (arith, w.long, start-long)) (λ i l. w.receivers i l)))
      where
        none : 0 ≡ length (copies d 0)
        none = unfold copies in refl
