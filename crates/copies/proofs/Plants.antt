-- A widened table holds an accepted file's diagram with its copies, and so does a table that has no trigger, as it is.
use Prim.Native.Nat.{ℕ, ◌*◌, ◌≤◌, ◌<◌, zero-le}
use mathlib.Core.Path.{◌≡◌, refl, sym, ◌∙◌, ap, subst}
use mathlib.Core.Bool.{true, false}
use mathlib.Core.List.{List}
use native.Mathlib.Omega.{arith}
use lib.ListN.{length, get_or, replicate, get_or-eq_default}
use lib.Dec.{ltb}
use borrow.Author.Tests.{ltb-true, ltb-false}
use Rattle.effbd.specs.Answers.{accepted}
use Rattle.effbd.specs.Records.{are_bytes}
use Rattle.effbd.specs.Diagrams.{Diagram, Item, function, row_count, item_total, is_trigger, row, is_kind, no_item}
use Rattle.effbd.specs.Nesting.{Part, read_diagram, uses_part, uses_part_of}
use Rattle.ranges.specs.Tests.{decide, clash}
use Rattle.agreement.specs.AcceptedFiles.{Held, held}
use Rattle.agreement.specs.Sources.{counts-are, no_copies}
use Rattle.diagram_table.specs.Cells.{cell_of, item_cell, counted_total, wide_total, uses_start_in, uses_number_in, some_trigger_in, copies_in, counts_in}
use Rattle.diagram_table.specs.Held.{Tabulated, Holds, HoldsUses, HoldsFile, HoldsCopies, HoldsRanks, HoldsPlant, no_use}
use Rattle.copies.specs.Counting.{copies_counted}
use Rattle.copies.specs.Promised.{zeros, WidenedPlant, Widened, CopyTotal}
use Rattle.diagram_table.proofs.RisingUses.{few-uses}
use Rattle.copies.proofs.RowsCounted.{uses-rise, uses-same}
use Rattle.copies.proofs.CopiesCounted.{Counted, copies-counted}

module _ (d : Diagram) (rows items n : ℕ) (table wide : List ℕ) (c : Counted d n table wide) where
  tabulated : Tabulated d rows items table → Tabulated d rows items wide
  tabulated b = let x = b.few_rows in let y = b.few_items in record {
    rows_are = b.rows_are;
    items_are = b.items_are;
    some_row = b.some_row;
    few_rows = b.few_rows;
    few_items = b.few_items;
    kinds = λ r l. c.below r (omega arith) ∙ b.kinds r l;
    firsts = λ r l. c.below (cell_of 1 r) (omega arith) ∙ b.firsts r l;
    seconds = λ r l e. c.below (cell_of 2 r) (omega arith) ∙ b.seconds r l e;
    numbers = λ r l. c.below (cell_of 4 r) (omega arith) ∙ b.numbers r l;
    counts = λ k l. c.below (item_cell 0 k) (omega arith) ∙ b.counts k l;
    triggers = λ k l. c.below (item_cell 1 k) (omega arith) ∙ b.triggers k l;
    no_trigger = λ e k l. absurd (omega (arith, c.some));
  }

  holds : counted_total ≤ n → Holds d rows items table → Holds d rows items wide
  holds room h = let x = h.records.few_rows in record {
    nests = h.nests;
    long = omega (arith, c.long);
    records = tabulated h.records;
    owners = λ r l. c.below (cell_of 5 r) (omega arith) ∙ h.owners r l;
    branches = λ r l. c.below (cell_of 6 r) (omega arith) ∙ h.branches r l;
    closes = λ r l. c.below (cell_of 7 r) (omega arith) ∙ h.closes r l;
    loops = λ r l e. c.below (cell_of 8 r) (omega arith) ∙ h.loops r l e;
    outlets = λ r l e. c.below (cell_of 8 r) (omega arith) ∙ h.outlets r l e;
    scenario_lasts = λ r l e. c.below (cell_of 2 r) (omega arith) ∙ h.scenario_lasts r l e;
    owner_low = h.owner_low;
    loop_low = h.loop_low;
    close_low = h.close_low;
  }

  module _ (few : row_count d ≤ 64) where
    start_is : (r : ℕ) → r < row_count d → uses_start_in wide r ≡ uses_start_in table r
    start_is r l = c.below (cell_of 3 r) (omega arith)

    number_is : (r : ℕ) → r < row_count d → uses_number_in wide r ≡ uses_number_in table r
    number_is r l = c.below (cell_of 4 r) (omega arith)

    holds-uses : (file : List ℕ) → HoldsUses file d table → HoldsUses file d wide
    holds-uses file u = record {
      uses = λ r l. uses-same table wide file r (start_is r l) (number_is r l) ∙ u.uses r l;
      part = λ r l. rw (start_is r l, number_is r l) (u.part r l);
      inside = λ r l. rw (start_is r l, number_is r l) (u.inside r l);
    }

  holds-copies : HoldsCopies d wide
  holds-copies = record { total = unfold counts_in in (rw (c.some, c.total) (sym (counts-are d))); firsts = λ k l t. c.firsts k l; receivers = λ k l t. c.receivers k l }

-- a row that is no FUNCTION has no uses
no-uses : (file : List ℕ) (rows items : ℕ) (table : List ℕ) (h : HoldsFile file rows items table) (r : ℕ) → r < row_count h.diagram → is_kind h.diagram function r ≡ false
    → length (row h.diagram r).uses ≡ 0
unfolding uses_part
no-uses file rows items table h r l f =
    let e : uses_part_of file r (accepted h.diagram) ≡ uses_part_of file r (read_diagram file) = ap (uses_part_of file r) (sym h.read) in
    let z : 0 ≡ 6 * uses_number_in table r = rw f at (ap (λ (p : Part). p.size) (e ∙ h.uses.part r l)) in
    let y = h.holds.records.rows_are in
    let x = h.holds.records.numbers r (omega arith) in
    omega arith

module _ (file : List ℕ) (rows items : ℕ) (table : List ℕ) (bytes : are_bytes file ≡ true) where
  abbrev wide : List ℕ
  wide = copies_counted file rows items table (zeros wide_total)

  module _ (h : HoldsFile file rows items table) where
    abbrev d : Diagram
    d = h.diagram

    ok : Held d
    ok = held file d bytes h.read

    all : Counted d wide_total table wide
    all = copies-counted table wide_total (omega arith) file d ok rows items h.holds.records h.uses.uses

    holds-ranks : HoldsRanks d wide
    holds-ranks = record {
      ranks = λ r j l m t. decide (is_kind d function r)
          (λ f. let x = few-uses (item_total d) 0 (row d r).uses (uses-rise d ok r f) zero-le in let y = ok.items in let z = ok.rows in all.ranks r j l f m (omega arith))
          (λ f. absurd (let x = no-uses file rows items table h r l f in omega arith));
    }

    widened-file : HoldsFile file rows items wide
    widened-file = record {
      diagram = d;
      read = h.read;
      holds = holds d rows items wide_total table wide all (omega arith) h.holds;
      uses = holds-uses d rows items wide_total table wide all ok.rows file h.uses;
    }

    widened-plant : HoldsPlant file rows items wide
    unfolding widened-file
    widened-plant = record { held = widened-file; copies = holds-copies d rows items wide_total table wide all; ranks = holds-ranks }

  pub widened-by : WidenedPlant file rows items table wide
  unfolding widened-plant widened-file
  widened-by = record { plant = widened-plant; same = λ h. refl }

  -- counted once, here
  zeroed : replicate wide_total 0 ≡ zeros wide_total
  zeroed = refl

  pub widened_is : (before next : List ℕ) → next ≡ copies_counted file rows items table before → length next ≡ length before → Widened file rows items table before next
  widened_is before next e l = record { is = e; long = l; of = λ z. subst (WidenedPlant file rows items table) (sym (e ∙ ap (copies_counted file rows items table) (z ∙ zeroed))) widened-by }

-- how many copies there are
pub total-is : (file : List ℕ) (rows items : ℕ) (table none next : List ℕ) (total : ℕ) → none ≡ zeros counted_total → next ≡ copies_counted file rows items table none → total ≡ copies_in next
    → CopyTotal file rows items table total
total-is file rows items table none next total z en e = record {
  is = is;
  of = λ d h b u. is ∙ (copies-counted table counted_total (omega arith) file d h rows items b u).total;
}
  where
    is : total ≡ copies_in (copies_counted file rows items table (zeros counted_total))
    is = e ∙ ap copies_in (en ∙ ap (copies_counted file rows items table) z)

-- ---- no trigger, no copies
module _ (file : List ℕ) (rows items : ℕ) (table : List ℕ) (h : HoldsFile file rows items table) (z : some_trigger_in table ≡ 0) where
  none : (k : ℕ) → k < item_total h.diagram → is_trigger h.diagram k ≡ false
  none k l = h.holds.records.no_trigger z k (let e = h.holds.records.items_are in omega arith)

  none-at : (k : ℕ) → is_trigger h.diagram k ≡ false
  none-at k = decide (ltb k (item_total h.diagram))
      (λ e. none k (ltb-true k (item_total h.diagram) e))
      (λ e. ap (λ (x : Item). x.trigger) (get_or-eq_default h.diagram.items no_item {n = k} (ltb-false k (item_total h.diagram) e)))

  pub plain-held : HoldsCopies h.diagram table
  unfolding counts_in
  plain-held = record { total = rw z (sym (no_copies h.diagram none)); firsts = λ k l t. clash t (none k l); receivers = λ k l t. clash t (none k l) }

  pub plain-ranks : HoldsRanks h.diagram table
  plain-ranks = record { ranks = λ r j l m t. clash t (none-at (get_or (row h.diagram r).uses j no_use).item) }

  -- THEOREM: a table that has no trigger holds its diagram's copies as it is
  unfoldable pub plain_plant : HoldsPlant file rows items table
  plain_plant = record { held = h; copies = plain-held; ranks = plain-ranks }
