-- One record more, of any sort, and of rows: what was read so far, what the table holds.
use Prim.Native.Nat.{ℕ, zero, suc, ◌+◌, ◌-◌, ◌*◌, ◌/◌, ◌%◌, ◌≤◌, ◌<◌}
use mathlib.Core.Path.{◌≡◌, refl, sym, ◌∙◌, ap, ap₂, subst}
use mathlib.Core.Logic.{◌≢◌}
use mathlib.Core.Bool.{Bool, true, false, cond, ◌&&◌}
use mathlib.Core.List.{List, [], ◌∷◌}
use native.Mathlib.Omega.{arith}
use native.Mathlib.Numerals.{add-one}
use lib.ListN.{length, get_or, drop, length-drop}
use lib.Seq.{drop-drop}
use lib.Dec.{leb, eqb}
use borrow.Author.Tests.{leb-true, leb-false, eqb-true, eqb-false, eq-eqb, ne_eqb}
use Rattle.effbd.specs.Records.{word, length_at, kind_at, kind_table, entry_in, length_of}
use Rattle.effbd.specs.Diagrams.{most_rows, most_items, row_at, row_right, row_fine, row_fault}
use Rattle.effbd.specs.Nesting.{skip}
use Rattle.ranges.specs.Tests.{decide, and_left, and_right}
use Rattle.ranges.specs.Outcomes.{else-none}
use Rattle.ranges.specs.RangeLaws.{all-elim}
use Rattle.effbd.specs.Ranges.{all_below}
use Rattle.effbd.specs.Answers.{or_else}
use Rattle.agreement.specs.ByteLaws.{Clean, none-clean}
use Rattle.diagram_table.specs.CellStores.{Cell, cell}
use Rattle.diagram_table.specs.Cells.{cell_of, cell_total, some_trigger_in}
use Rattle.row_records.specs.Rows.{Reached, Reading, Stopped, FilledRows, Kept, RowsState, RowsRead, SomeRowsRead, Refined, end_reached, column, put_row, fill_row, trigger_fault, table_fault}
use Rattle.diagram_table.proofs.CellStores.{put-long, put-away, put-at}
use Rattle.kinds.proofs.KindTable.{short}

skip-next : (i : ℕ) (l : List ℕ) → skip (suc i) l ≡ drop (length_at (skip i l)) (skip i l)
unfolding skip
skip-next zero l = refl
skip-next (suc i) l = skip-next i (drop (length_at l) l)

-- records of any sort
module _ (fault : List ℕ → ℕ) (from : ℕ) (start : List ℕ) where
  pub reading-turn : (i at size : ℕ) (rest more : List ℕ) → Reading fault from start i rest at → fault rest ≡ 0 → length_at rest ≤ length rest → size ≡ word rest 0 → more ≡ drop size rest
      → Reading fault from start (i + 1) more (at + size)
  reading-turn i at size rest more r f w es em =
      let s : size ≡ length_at rest = es in
      record {
        clean = λ j h. decide (eqb j i) (λ e. ap (λ k. fault (skip k start)) (eqb-true j i e) ∙ (ap fault (sym r.here) ∙ f))
            (λ e. let ne : j ≢ i = eqb-false j i e in r.clean j (omega arith));
        here = em ∙ (ap₂ drop s r.here ∙ (ap (λ x. drop (length_at x) (skip i start)) r.here ∙ (sym (skip-next i start) ∙ ap (λ k. skip k start) (sym (add-one i)))));
        tail = λ file e. em ∙ (ap (drop size) (r.tail file e) ∙ drop-drop size at file);
        sum = omega (arith, r.sum, ap length em, length-drop size rest, s, w);
      }

  pub stopped-at : (i n at k : ℕ) (rest : List ℕ) → Reading fault from start i rest at → i < n → k ≡ fault rest → k ≢ 0 → Stopped fault from start n (record { fault = k; at = at })
  stopped-at i n at k rest r h e ne = record {
    count = i;
    within = omega arith;
    reached = subst (λ x. Reading fault from start i x at) r.here r;
    ended = λ z. absurd (ne z);
    stopped = λ z. (h, ap fault (sym r.here) ∙ sym e);
  }

  pub stopped-end : (i n at : ℕ) (rest : List ℕ) → Reading fault from start i rest at → i ≡ n → Stopped fault from start n (record { fault = 0; at = at })
  stopped-end i n at rest r h = record {
    count = i;
    within = omega arith;
    reached = subst (λ x. Reading fault from start i x at) r.here r;
    ended = λ z. h;
    stopped = λ z. absurd (z refl);
  }

  pub reading-start : Reading fault from start 0 start from
  unfolding skip
  reading-start = record { clean = λ j z. absurd (omega arith); here = refl; tail = λ file e. e; sum = refl }

-- one row's record without fault
module _ (items : ℕ) (l : List ℕ) (clean : row_fault items l ≡ 0) where
  pub row-whole : Clean l (leb 16 (kind_at l) && leb (kind_at l) 31) (row_right items l) (row_fine items (row_at l))
  unfolding row_fault
  row-whole = none-clean l (leb 16 (kind_at l) && leb (kind_at l) 31) (row_right items l) (row_fine items (row_at l)) 4 clean

  -- its kind passes a test that every kind of row passes
  pub of-kind : (test : ℕ → Bool) → all_below 16 (λ j. test (16 + j)) ≡ true → test (kind_at l) ≡ true
  of-kind test all =
      let low = leb-true 16 (kind_at l) (and_left (leb 16 (kind_at l)) _ row-whole.is_due) in
      let high = leb-true (kind_at l) 31 (and_right (leb 16 (kind_at l)) _ row-whole.is_due) in
      let z : 16 + (kind_at l - 16) ≡ kind_at l = omega arith in
      subst (λ (k : ℕ). test k ≡ true) z (all-elim 16 (λ j. test (16 + j)) all (kind_at l - 16) (omega arith))

  pub row-clean : items ≤ 16 → (length_at l ≤ 104) × (length_at l ≤ length l)
  unfolding row_right
  row-clean m = (go (eqb (kind_at l) 16) row-whole.is_right, row-whole.whole)
    where
      go : (b : Bool) → cond b (leb 8 (length_at l) && (eqb ((length_at l - 8) % 6) 0 && leb ((length_at l - 8) / 6) items)) (eqb (length_at l) (length_of (kind_at l))) ≡ true → length_at l ≤ 104
      go true h = let a = and_right (leb 8 (length_at l)) _ h in
          let x = eqb-true ((length_at l - 8) % 6) 0 (and_left (eqb ((length_at l - 8) % 6) 0) _ a) in
          let y = leb-true ((length_at l - 8) / 6) items (and_right (eqb ((length_at l - 8) % 6) 0) _ a) in omega arith
      go false h = let z = eqb-true (length_at l) (length_of (kind_at l)) h in let s = short (kind_at l) in omega arith

  -- it has a length
  some-length : 4 ≤ length_at l
  unfolding row_right
  some-length = go (eqb (kind_at l) 16) row-whole.is_right
    where
      long : all_below 16 (λ j. leb 4 (length_of (16 + j))) ≡ true
      long = unfold length_of entry_in kind_table in refl

      go : (b : Bool) → cond b (leb 8 (length_at l) && (eqb ((length_at l - 8) % 6) 0 && leb ((length_at l - 8) / 6) items)) (eqb (length_at l) (length_of (kind_at l))) ≡ true → 4 ≤ length_at l
      go true h = let x = leb-true 8 (length_at l) (and_left (leb 8 (length_at l)) _ h) in omega arith
      go false h = let x = eqb-true (length_at l) (length_of (kind_at l)) h in let y = leb-true 4 (length_of (kind_at l)) (of-kind (λ k. leb 4 (length_of k)) long) in omega arith

-- the table: a row's cells, and the others
module _ (r at : ℕ) (l t : List ℕ) (h : r < most_rows) (n : length t ≡ cell_total) where
  abbrev k : Cell
  k = cell r (column at 0 l)

  abbrev f : Cell
  f = cell (cell_of 1 r) (column at 1 l)

  abbrev s : Cell
  s = cell (cell_of 2 r) (column at 2 l)

  abbrev o : Cell
  o = cell (cell_of 3 r) (column at 3 l)

  abbrev u : Cell
  u = cell (cell_of 4 r) (column at 4 l)

  fill-long : length (fill_row r at l t) ≡ cell_total
  unfolding fill_row put_row
  fill-long = put-long (k ∷ f ∷ s ∷ o ∷ u ∷ []) t ∙ n

  away : (j : ℕ) → j ≢ r → j ≢ cell_of 1 r → j ≢ cell_of 2 r → j ≢ cell_of 3 r → j ≢ cell_of 4 r → get_or (fill_row r at l t) j 0 ≡ get_or t j 0
  unfolding fill_row put_row
  away j a b c d e = put-away (k ∷ f ∷ s ∷ o ∷ u ∷ []) t j (a, (b, (c, (d, (e, tt)))))

  fill-kept : (t₀ : List ℕ) → Kept t₀ t → Kept t₀ (fill_row r at l t)
  fill-kept t₀ kept = record { cell = λ j g. away j (λ z. omega arith) (λ z. omega arith) (λ z. omega arith) (λ z. omega arith) (λ z. omega arith) ∙ kept.cell j g }

  fill-same : (c : ℕ) → c < 5 → get_or (fill_row r at l t) (cell_of c r) 0 ≡ column at c l
  unfolding fill_row put_row
  fill-same zero g = ap (λ j. get_or (fill_row r at l t) j 0) (let z : cell_of 0 r ≡ r = omega arith in z)
      ∙ put-at [] k (f ∷ s ∷ o ∷ u ∷ []) t (omega arith) (λ z. omega arith, (λ z. omega arith, (λ z. omega arith, (λ z. omega arith, tt))))
  fill-same (suc zero) g = put-at (k ∷ []) f (s ∷ o ∷ u ∷ []) t (omega arith) (λ z. omega arith, (λ z. omega arith, (λ z. omega arith, tt)))
  fill-same (suc (suc zero)) g = put-at (k ∷ f ∷ []) s (o ∷ u ∷ []) t (omega arith) (λ z. omega arith, (λ z. omega arith, tt))
  fill-same (suc (suc (suc zero))) g = put-at (k ∷ f ∷ s ∷ []) o (u ∷ []) t (omega arith) (λ z. omega arith, tt)
  fill-same (suc (suc (suc (suc zero)))) g = put-at (k ∷ f ∷ s ∷ o ∷ []) u [] t (omega arith) tt
  fill-same (suc (suc (suc (suc (suc c))))) g = absurd (omega arith)

  fill-other : (c i : ℕ) → c < 5 → i < r → get_or (fill_row r at l t) (cell_of c i) 0 ≡ get_or t (cell_of c i) 0
  fill-other c i g b = away (cell_of c i) (λ z. omega arith) (λ z. omega arith) (λ z. omega arith) (λ z. omega arith) (λ z. omega arith)

  fill-filled : (total : ℕ) (start : List ℕ) → at ≡ total - length l → l ≡ skip r start → FilledRows total start r t → FilledRows total start (r + 1) (fill_row r at l t)
  fill-filled total start e el f = record {
    cell = λ c g i k. decide (eqb i r)
        (λ q. let z = eqb-true i r q in
        ap (λ j. get_or (fill_row r at l t) (cell_of c j) 0) z ∙ (fill-same c g ∙ (ap (λ x. column x c l) e ∙ ap (λ x. column (total - length x) c x) (el ∙ ap (λ j. skip j start) (sym z)))))
        (λ q. let ne : i ≢ r = eqb-false i r q in fill-other c i g (omega arith) ∙ f.cell c g i (omega arith));
  }

pub row_is_fine : (items : ℕ) (t l : List ℕ) → table_fault items t l ≡ 0 → row_fault items l ≡ 0
unfolding table_fault
row_is_fine items t l e = (else-none (row_fault items l) _ e).0

-- the loop over rows
module _ (from : ℕ) (start : List ℕ) (items i at : ℕ) (rest t₀ t : List ℕ) (s : RowsState from start items i rest at t₀ t) where
  pub rows-turn : (size : ℕ) (more t' : List ℕ) → i < most_rows → items ≤ most_items → row_fault items rest ≡ 0 → size ≡ word rest 0 → more ≡ drop size rest → t' ≡ fill_row i at rest t
      → RowsState from start items (i + 1) more (at + size) t₀ t'
  rows-turn size more t' h m f es em et =
      let c = row-clean items rest f m in
      rw et (record {
        reading = reading-turn (row_fault items) from start i at size rest more s.reading f c.1 es em;
        filled = fill-filled i at rest t h s.long (from + length start) start (let z = s.reading.sum in omega arith) s.reading.here s.filled;
        kept = fill-kept i at rest t h s.long t₀ s.kept;
        near = omega (arith, es, c.0, s.near);
        long = fill-long i at rest t h s.long;
      })

  pub rows-stop : (n k : ℕ) → i < n → k ≡ row_fault items rest → k ≢ 0 → RowsRead (row_fault items) from start n t₀ t (record { fault = k; at = at })
  rows-stop n k h e ne = record {
    line = record { fault = k; at = at };
    stopped = stopped-at (row_fault items) from start i n at k rest s.reading h e ne;
    filled = λ z. absurd (ne z);
    kept = s.kept;
    near = omega (arith, s.near);
    off = λ z. refl;
    end = λ z. absurd (ne z);
  }

  pub rows_end : (n : ℕ) (r : Reached) → i ≡ n → r ≡ end_reached (length rest) at → RowsRead (row_fault items) from start n t₀ t r
  rows_end n r e er = record {
    line = record { fault = 0; at = at };
    stopped = stopped-end (row_fault items) from start i n at rest s.reading e;
    filled = λ z. rw (← e) s.filled;
    kept = s.kept;
    near = omega (arith, s.near);
    off = λ z. absurd (z refl);
    end = λ z. er ∙ ap (λ (l : List ℕ). end_reached (length l) at) (s.reading.here ∙ ap (λ j. skip j start) e);
  }

pub rows_start : (from : ℕ) (start : List ℕ) (items : ℕ) (t : List ℕ) → length t ≡ cell_total → RowsState from start items 0 start from t t
rows_start from start items t n = record {
  reading = reading-start (row_fault items) from start;
  filled = record { cell = λ c g i z. absurd (omega arith) };
  kept = record { cell = λ j z. refl };
  near = omega arith;
  long = n;
}

-- the pass for 43
skip-shorter : (n i : ℕ) (start : List ℕ) → length (skip (n + i) start) ≤ length (skip i start)
skip-shorter zero i start = ap-le (ap (λ (k : ℕ). length (skip k start)) (let z : 0 + i ≡ i = omega arith in z))
  where
    ap-le : {a b : ℕ} → a ≡ b → a ≤ b
    ap-le e = omega arith
skip-shorter (suc n) i start =
    let z : suc n + i ≡ suc (n + i) = omega arith in
    let e = ap (λ (k : ℕ). length (skip k start)) z ∙ (ap length (skip-next (n + i) start) ∙ length-drop (length_at (skip (n + i) start)) (skip (n + i) start)) in
    let h = skip-shorter n i start in omega arith

skip-mono : (i j : ℕ) (start : List ℕ) → i ≤ j → length (skip j start) ≤ length (skip i start)
skip-mono i j start l = let z : j - i + i ≡ j = omega arith in subst (λ (k : ℕ). length (skip k start) ≤ length (skip i start)) z (skip-shorter (j - i) i start)

module _ (items from : ℕ) (start : List ℕ) (due : ℕ) (t : List ℕ) (reached : Reached) where
  -- where the reading stopped
  stop-at : {fault : List ℕ → ℕ} {before : List ℕ} {r : Reached} (w : RowsRead fault from start due before t r) → r.at ≡ w.line.at
  stop-at w = decide (eqb w.line.fault 0)
      (λ e. ap (λ (x : Reached). x.at) (w.end (eqb-true w.line.fault 0 e)))
      (λ e. ap (λ (x : Reached). x.at) (w.off (eqb-false w.line.fault 0 e)))

  pub stop-near : SomeRowsRead items from start due t reached → reached.at ≤ from + 104 * due
  stop-near s = omega (arith, stop-at s.read, s.read.near)

  -- a record that begins before it was read without fault
  clean-before : {before : List ℕ} → RowsRead (row_fault items) from start due before t reached → (j at : ℕ) (rest : List ℕ) → Reading (table_fault items t) from start j rest at → at < reached.at → row_fault items rest ≡ 0
  clean-before w j at rest r l = decide (leb w.stopped.count j)
      (λ e. absurd (let h = leb-true w.stopped.count j e in let m = skip-mono w.stopped.count j start h in
      omega (arith, m, l, stop-at w, r.sum, w.stopped.reached.sum, ap length r.here)))
      (λ e. let h = leb-false w.stopped.count j e in ap (row_fault items) r.here ∙ w.stopped.reached.clean j (omega arith))

  -- and one that begins there or later is none of those
  reached-by : {before : List ℕ} (w : RowsRead (row_fault items) from start due before t reached) (j at : ℕ) (rest : List ℕ) → Reading (table_fault items t) from start j rest at → reached.at ≤ at → w.stopped.count ≤ j
  reached-by w j at rest r l = decide (leb w.stopped.count j) (λ e. leb-true w.stopped.count j e)
      (λ e. absurd (
      let h = leb-false w.stopped.count j e in
      let c = w.stopped.reached.clean j (omega arith) in
      let long = some-length items (skip j start) c in
      let whole = (row-whole items (skip j start) c).whole in
      let m = skip-mono (suc j) w.stopped.count start (omega arith) in
      let n = ap length (skip-next j start) ∙ length-drop (length_at (skip j start)) (skip j start) in
      omega (arith, m, n, l, stop-at w, r.sum, w.stopped.reached.sum, ap length r.here, long, whole)
      ))

  -- THEOREM: no 43 up to there leaves the verdict as it was
  pub refine-none : (j at : ℕ) (rest : List ℕ) → Reading (table_fault items t) from start j rest at → ((before : List ℕ) (w : RowsRead (row_fault items) from start due before t reached) → w.stopped.count ≤ j)
      → Refined items from start due t reached reached
  unfolding table_fault
  refine-none j at rest r all = record {
    is = λ before w. record {
      line = w.line;
      stopped = record {
        count = w.stopped.count;
        within = w.stopped.within;
        reached = record {
          clean = λ i l. r.clean i (let a = all before w in omega arith);
          here = w.stopped.reached.here;
          tail = w.stopped.reached.tail;
          sum = w.stopped.reached.sum;
        };
        ended = w.stopped.ended;
        stopped = λ ne. let s = w.stopped.stopped ne in (s.0, go _ (row_fault items (skip w.stopped.count start)) w.line.fault s.1 ne);
      };
      filled = w.filled;
      kept = w.kept;
      near = w.near;
      off = w.off;
      end = w.end;
    };
  }
    where
      go : (g f k : ℕ) → f ≡ k → k ≢ 0 → or_else f g ≡ k
      go g zero k e n = absurd (n (sym e))
      go g (suc f) k e n = e

  pub refine-end : (j at : ℕ) (rest : List ℕ) → Reading (table_fault items t) from start j rest at → due ≤ j → Refined items from start due t reached reached
  refine-end j at rest r l = refine-none j at rest r (λ before w. let i = w.stopped.within in omega arith)

  pub refine-reached : (j at : ℕ) (rest : List ℕ) → Reading (table_fault items t) from start j rest at → reached.at ≤ at → Refined items from start due t reached reached
  refine-reached j at rest r l = refine-none j at rest r (λ before w. reached-by w j at rest r l)

  -- THEOREM: the first 43
  pub refine-some : SomeRowsRead items from start due t reached → {s : ℕ} → s ≡ some_trigger_in t → s ≢ 0 → (j at k : ℕ) (rest : List ℕ) → Reading (table_fault items t) from start j rest at → j < due → at < reached.at
      → k ≡ trigger_fault t rest → k ≢ 0 → Refined items from start due t reached (record { fault = k; at = at })
  unfolding table_fault
  refine-some some es ns j at k rest r l low e ne = record {
    is = λ before w. record {
      line = record { fault = k; at = at };
      stopped = stopped-at (table_fault items t) from start j due at k rest r l (late w) ne;
      filled = λ z. absurd (ne z);
      kept = w.kept;
      near = let a = stop-at w in let b = w.near in omega arith;
      off = λ z. refl;
      end = λ z. absurd (ne z);
    };
  }
    where
      late : {before : List ℕ} → RowsRead (row_fault items) from start due before t reached → k ≡ or_else (row_fault items rest) (cond (eqb (some_trigger_in t) 0) 0 (trigger_fault t rest))
      late w = rw (clean-before w j at rest r low, ne_eqb (some_trigger_in t) 0 (λ z. ns (es ∙ z)), e)

  -- one record more
  pub refine-turn : SomeRowsRead items from start due t reached → (j at size k : ℕ) (rest more : List ℕ) → items ≤ most_items → Reading (table_fault items t) from start j rest at → at < reached.at
      → k ≡ trigger_fault t rest → k ≡ 0 → size ≡ word rest 0 → more ≡ drop size rest → Reading (table_fault items t) from start (j + 1) more (at + size)
  unfolding table_fault
  refine-turn some j at size k rest more m r low e z es em =
      let f = clean-before some.read j at rest r low in
      reading-turn (table_fault items t) from start j at size rest more r (clean f) (row-clean items rest f m).1 es em
    where
      clean : row_fault items rest ≡ 0 → or_else (row_fault items rest) (cond (eqb (some_trigger_in t) 0) 0 (trigger_fault t rest)) ≡ 0
      clean f = rw (f, ← e, z) (decide (eqb (some_trigger_in t) 0) (λ y. rw y) (λ y. rw y))

  -- without triggers there is no 43
  pub refine-plain : {s : ℕ} → s ≡ some_trigger_in t → s ≡ 0 → Refined items from start due t reached reached
  refine-plain es z = record {
    is = λ before w. record {
      line = w.line;
      stopped = record {
        count = w.stopped.count;
        within = w.stopped.within;
        reached = record {
          clean = λ i l. same (skip i start) ∙ w.stopped.reached.clean i l;
          here = w.stopped.reached.here;
          tail = w.stopped.reached.tail;
          sum = w.stopped.reached.sum;
        };
        ended = w.stopped.ended;
        stopped = λ ne. let s = w.stopped.stopped ne in (s.0, same (skip w.stopped.count start) ∙ s.1);
      };
      filled = w.filled;
      kept = w.kept;
      near = w.near;
      off = w.off;
      end = w.end;
    };
  }
    where
      plain : (f : ℕ) → or_else f 0 ≡ f
      plain zero = refl
      plain (suc f) = refl

      same : (l : List ℕ) → table_fault items t l ≡ row_fault items l
      same l = unfold table_fault in (rw (eq-eqb (some_trigger_in t) 0 (sym es ∙ z)) (plain (row_fault items l)))

pub refine-start : (items from : ℕ) (start t : List ℕ) → Reading (table_fault items t) from start 0 start from
refine-start items from start t = reading-start (table_fault items t) from start
