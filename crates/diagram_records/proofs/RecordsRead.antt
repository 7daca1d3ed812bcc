-- One item more: what was read so far, what the table holds.
use Prim.Native.Nat.{ℕ, ◌+◌, ◌≤◌, ◌<◌}
use mathlib.Core.Path.{◌≡◌, refl, sym, ◌∙◌, ap, subst}
use mathlib.Core.Logic.{◌≢◌}
use mathlib.Core.Bool.{Bool, true, false, cond, ◌||◌}
use mathlib.Core.List.{List}
use native.Mathlib.Omega.{arith}
use lib.ListN.{length, get_or, drop, set, length-set}
use lib.Seq.{get_or-set_same, get_or-set_other}
use lib.Dec.{eqb}
use borrow.Author.Tests.{eqb-true, eqb-false}
use Rattle.effbd.specs.Records.{word, length_at, kind_at, kind_table, entry_in, length_of}
use Rattle.effbd.specs.Diagrams.{most_items, item_fault, item_at}
use Rattle.effbd.specs.Nesting.{skip}
use Rattle.ranges.specs.Tests.{decide}
use Rattle.agreement.specs.ByteLaws.{none-clean}
use Rattle.diagram_table.specs.Cells.{item_cell, some_trigger_cell, cell_total, trigger_in, some_trigger_in}
use Rattle.row_records.specs.Rows.{Reached, table_fault, RowsRead}
use Rattle.row_records.proofs.RowsRead.{reading-turn, stopped-at, stopped-end, reading-start}
use Rattle.diagram_records.specs.Reading.{FilledItems, ItemsState, ItemsRead, put_item}

-- one record without fault
six : (k : ℕ) → (eqb k 2 || eqb k 3) ≡ true → length_of k ≡ 6
unfolding length_of entry_in kind_table
six k h = decide (eqb k 2)
    (λ e. ap length_of (eqb-true k 2 e))
    (λ e. ap length_of (eqb-true k 3 (rw e at h)))

pub item-clean : (l : List ℕ) → item_fault l ≡ 0 → (length_at l ≡ 6) × (length_at l ≤ length l)
unfolding item_fault
item-clean l e = let c = none-clean l (eqb (kind_at l) 2 || eqb (kind_at l) 3) (eqb (length_at l) (length_of (kind_at l))) true 4 e in
    let z = eqb-true (length_at l) (length_of (kind_at l)) c.is_right in (z ∙ six (kind_at l) c.is_due, c.whole)

-- the cells of one item more
item-long : (i v : ℕ) (b : Bool) (t : List ℕ) → length (put_item i v b t) ≡ length t
unfolding put_item
item-long i v true t = length-set (set (set t (item_cell 0 i) v) (item_cell 1 i) 1) some_trigger_cell 1 ∙ (length-set (set t (item_cell 0 i) v) (item_cell 1 i) 1 ∙ length-set t (item_cell 0 i) v)
item-long i v false t = length-set (set t (item_cell 0 i) v) (item_cell 1 i) 0 ∙ length-set t (item_cell 0 i) v

module _ (i v : ℕ) (t : List ℕ) (h : i < most_items) (n : length t ≡ cell_total) where
  abbrev counted : List ℕ
  counted = set t (item_cell 0 i) v

  item_count : (b : Bool) → get_or (put_item i v b t) (item_cell 0 i) 0 ≡ v
  unfolding put_item
  item_count true = get_or-set_other (set counted (item_cell 1 i) 1) some_trigger_cell (item_cell 0 i) 1 0 (λ z. omega arith)
      ∙ (get_or-set_other counted (item_cell 1 i) (item_cell 0 i) 1 0 (λ z. omega arith) ∙ get_or-set_same t (item_cell 0 i) v 0 (omega arith))
  item_count false = get_or-set_other counted (item_cell 1 i) (item_cell 0 i) 0 0 (λ z. omega arith) ∙ get_or-set_same t (item_cell 0 i) v 0 (omega arith)

  item-trigger : (b : Bool) → trigger_in (put_item i v b t) i ≡ cond b 1 0
  unfolding put_item
  item-trigger true = get_or-set_other (set counted (item_cell 1 i) 1) some_trigger_cell (item_cell 1 i) 1 0 (λ z. omega arith)
      ∙ get_or-set_same counted (item_cell 1 i) 1 0 (omega (arith, length-set t (item_cell 0 i) v))
  item-trigger false = get_or-set_same counted (item_cell 1 i) 0 0 (omega (arith, length-set t (item_cell 0 i) v))

  item-some : some_trigger_in (put_item i v true t) ≡ 1
  unfolding put_item
  item-some = get_or-set_same (set counted (item_cell 1 i) 1) some_trigger_cell 1 0 (omega (arith, length-set counted (item_cell 1 i) 1, length-set t (item_cell 0 i) v))

  item-away : (b : Bool) (j : ℕ) → j ≢ item_cell 0 i → j ≢ item_cell 1 i → j ≢ some_trigger_cell → get_or (put_item i v b t) j 0 ≡ get_or t j 0
  unfolding put_item
  item-away true j p q r = get_or-set_other (set counted (item_cell 1 i) 1) some_trigger_cell j 1 0 r ∙ (get_or-set_other counted (item_cell 1 i) j 1 0 q ∙ get_or-set_other t (item_cell 0 i) j v 0 p)
  item-away false j p q r = get_or-set_other counted (item_cell 1 i) j 0 0 q ∙ get_or-set_other t (item_cell 0 i) j v 0 p

  item-quiet : some_trigger_in (put_item i v false t) ≡ some_trigger_in t
  unfolding put_item
  item-quiet = get_or-set_other counted (item_cell 1 i) some_trigger_cell 0 0 (λ z. omega arith) ∙ get_or-set_other t (item_cell 0 i) some_trigger_cell v 0 (λ z. omega arith)

item-filled : (i : ℕ) (start : List ℕ) (v : ℕ) (b : Bool) (t : List ℕ) → i < most_items → length t ≡ cell_total → FilledItems start i t → v ≡ (item_at (skip i start)).initial → b ≡ (item_at (skip i start)).trigger
    → FilledItems start (i + 1) (put_item i v b t)
item-filled i start v b t h n f ev eb = record {
  count = λ k g. decide (eqb k i)
      (λ q. let z = eqb-true k i q in subst (λ (j : ℕ). get_or (put_item i v b t) (item_cell 0 j) 0 ≡ (item_at (skip j start)).initial) (sym z) (item_count i v t h n b ∙ ev))
      (λ q. let ne : k ≢ i = eqb-false k i q in item-away i v t h n b (item_cell 0 k) (λ z. ne (omega arith)) (λ z. omega arith) (λ z. omega arith) ∙ f.count k (omega arith));
  trigger = λ k g. decide (eqb k i)
      (λ q. let z = eqb-true k i q in
      subst (λ (j : ℕ). trigger_in (put_item i v b t) j ≡ cond (item_at (skip j start)).trigger 1 0) (sym z) (item-trigger i v t h n b ∙ ap (λ (x : Bool). cond x 1 0) eb))
      (λ q. let ne : k ≢ i = eqb-false k i q in item-away i v t h n b (item_cell 1 k) (λ z. omega arith) (λ z. ne (omega arith)) (λ z. omega arith) ∙ f.trigger k (omega arith));
  none = none b eb;
}
  where
    none : (b : Bool) → b ≡ (item_at (skip i start)).trigger → some_trigger_in (put_item i v b t) ≡ 0 → (k : ℕ) → k < i + 1 → (item_at (skip k start)).trigger ≡ false
    none true eb e k g = absurd (let z = item-some i v t h n in let y : ◌≡◌ {A = ℕ} 1 0 = sym z ∙ e in omega arith)
    none false eb e k g = decide (eqb k i)
        (λ q. let z = eqb-true k i q in subst (λ (j : ℕ). (item_at (skip j start)).trigger ≡ false) (sym z) (sym eb))
        (λ q. let ne : k ≢ i = eqb-false k i q in f.none (sym (item-quiet i v t h n) ∙ e) k (omega arith))

-- the loop over items
module _ (from : ℕ) (start : List ℕ) (i at : ℕ) (rest t : List ℕ) (s : ItemsState from start i rest at t) where
  pub items-turn : (size v : ℕ) (b : Bool) (more t' : List ℕ) → i < most_items → item_fault rest ≡ 0 → v ≡ word rest 4 → b ≡ eqb (kind_at rest) 3 → size ≡ word rest 0 → more ≡ drop size rest
      → t' ≡ put_item i v b t → ItemsState from start (i + 1) more (at + size) t'
  items-turn size v b more t' h f ev eb es em et =
      let c = item-clean rest f in
      rw et (record {
        reading = reading-turn item_fault from start i at size rest more s.reading f c.1 es em;
        filled = item-filled i start v b t h s.long s.filled (ev ∙ ap (λ (x : List ℕ). word x 4) s.reading.here) (eb ∙ ap (λ (x : List ℕ). eqb (kind_at x) 3) s.reading.here);
        near = omega (arith, es, c.0, s.near);
        long = item-long i v b t ∙ s.long;
      })

  pub items-stop : (n rows k : ℕ) → i < n → k ≡ item_fault rest → k ≢ 0 → ItemsRead from start n rows t (record { fault = k; at = at })
  items-stop n rows k h e ne = record {
    line = record { fault = k; at = at };
    counted = t;
    stopped = stopped-at item_fault from start i n at k rest s.reading h e ne;
    filled = λ z. absurd (ne z);
    near = omega (arith, s.near);
    off = λ z. refl;
    rows_read = λ z. absurd (ne z);
  }

  pub items-end : (n rows : ℕ) (t' : List ℕ) (r : Reached) → i ≡ n → RowsRead (table_fault n t') at rest rows t t' r → ItemsRead from start n rows t' r
  items-end n rows t' r e w = record {
    line = record { fault = 0; at = at };
    counted = t;
    stopped = stopped-end item_fault from start i n at rest s.reading e;
    filled = λ z. rw (← e) s.filled;
    near = omega (arith, s.near);
    off = λ z. absurd (z refl);
    rows_read = λ z. subst (λ (l : List ℕ). RowsRead (table_fault n t') at l rows t t' r) (s.reading.here ∙ ap (λ j. skip j start) e) w;
  }

pub items-start : (from : ℕ) (start t : List ℕ) → length t ≡ cell_total → ItemsState from start 0 start from t
items-start from start t n = record {
  reading = reading-start item_fault from start;
  filled = record { count = λ i z. absurd (omega arith); trigger = λ i z. absurd (omega arith); none = λ e i z. absurd (omega arith) };
  near = omega arith;
  long = n;
}
