-- The whole file: what was read is what the definitions read.
use Prim.Native.Nat.{ℕ, zero, suc, ◌+◌, ◌-◌, ◌*◌, ◌/◌, ◌%◌, ◌≤◌, ◌<◌}
use mathlib.Core.Path.{◌≡◌, refl, sym, ◌∙◌, ap, ap₂, subst}
use mathlib.Core.Logic.{◌≢◌}
use mathlib.Core.Bool.{Bool, true, false, not, cond, ◌&&◌, ◌||◌}
use mathlib.Core.List.{List, [], ◌∷◌}
use native.Mathlib.Omega.{arith}
use lib.ListN.{length, get_or, drop, length-drop, drop_of_length-le}
use lib.Seq.{drop-drop, drop-length}
use lib.Dec.{leb, ltb, eqb}
use borrow.Author.Tests.{ltb-true, leb-true, leb-false, eqb-true, eqb-false}
use Rattle.effbd.specs.Ranges.{all_below}
use Rattle.effbd.specs.Answers.{Outcome, accepted, refused, unless, or_else, and_then}
use Rattle.effbd.specs.Records.{word, length_at, kind_at, kind_table, entry_in, length_of, fields_of, Got, adding, read_many}
use Rattle.effbd.specs.Diagrams.{most_rows, most_items, function, end, number_of, same_kind, kind_of, Use, Row, Item, plain, no_item, Diagram, row_count, row, is_kind, head_fault, item_fault, item_at, uses_at, uses_fine, row_at, row_right, row_fine, row_fault, triggers_fine, row_fault_in}
use Rattle.effbd.specs.Nesting.{nested, after_rows, after_items, read_diagram, skip, from_row}
use Rattle.ranges.specs.Tests.{decide, and_left, and_right}
use Rattle.agreement.specs.ByteLaws.{none-clean}
use Rattle.diagram_table.specs.Cells.{cell_of, item_cell, some_trigger_cell, trigger_in, some_trigger_in}
use Rattle.diagram_table.specs.Held.{Tabulated}
use Rattle.row_records.specs.Fields.{field_of}
use Rattle.row_records.specs.Rows.{Reached, use_fits, triggers_fit, trigger_fault, table_fault, Stopped, RowsRead, end_reached, uses_from, column}
use Rattle.diagram_records.specs.Reading.{ItemsRead, record_rows, record_items, read_records, TabledUses, Recorded}
use Rattle.ranges.specs.Outcomes.{unless-refused, unless-then, and_then-twice}
use Rattle.row_records.proofs.Fields.{function-base, function-behind}
use Rattle.row_records.proofs.RowsRead.{row-whole, of-kind, row_is_fine}

-- n records that were read: their values, their faults, the rest
pub record Many (A : Type 0) (fault : List ℕ → ℕ) (value : List ℕ → A) (n : ℕ) (start : List ℕ) (g : Got (List A)) : Type 0 where
  pub many : length g.value ≡ n
  pub each : (i : ℕ) → i < n → (z : A) → get_or g.value i z ≡ value (skip i start)
  pub clean : (i : ℕ) → i < n → fault (skip i start) ≡ 0
  pub rest : g.rest ≡ skip n start

-- THE LAW OF THE LOOPS: the first fault is the answer; without one all are read
module _ {A : Type 0} (fault : List ℕ → ℕ) (value : List ℕ → A) (total : ℕ) where
  turn : ℕ → List ℕ → ℕ → Outcome (Got (List A))
  turn n l f = unless f (total - length l) (adding (value l) (read_many fault value total n (drop (length_at l) l)))

  many-stop : (n i : ℕ) (l : List ℕ) (k : ℕ) → i < n → ((j : ℕ) → j < i → fault (skip j l) ≡ 0) → fault (skip i l) ≡ k → k ≢ 0
      → read_many fault value total n l ≡ refused k (total - length (skip i l))
  unfolding read_many skip turn
  many-stop zero i l k h c e ne = absurd (omega arith)
  many-stop (suc n) zero l k h c e ne = ap (turn n l) e ∙ unless-refused k (total - length l) _ ne
  many-stop (suc n) (suc i) l k h c e ne = ap (turn n l) (c 0 (omega arith))
      ∙ ap (adding (value l)) (many-stop n i (drop (length_at l) l) k (omega arith) (λ j z. c (suc j) (omega arith)) e ne)

  many-all : (n : ℕ) (l : List ℕ) → ((j : ℕ) → j < n → fault (skip j l) ≡ 0)
      → (g : Got (List A)) × (read_many fault value total n l ≡ accepted g) × Many A fault value n l g
  unfolding read_many skip turn
  many-all zero l c = (record { value = []; rest = l }, refl, record { many = refl; each = λ i h. absurd (omega arith); clean = c; rest = refl })
  many-all (suc n) l c =
      let w = many-all n (drop (length_at l) l) (λ j z. c (suc j) (omega arith)) in (
        record { value = value l ∷ w.0.value; rest = w.0.rest },
        ap (turn n l) (c 0 (omega arith)) ∙ ap (adding (value l)) w.1,
        record { many = ap suc w.2.many; each = each w.0 w.2; clean = c; rest = w.2.rest },
      )
    where
      each : (g : Got (List A)) → Many A fault value n (drop (length_at l) l) g
          → (i : ℕ) → i < suc n → (z : A) → get_or (value l ∷ g.value) i z ≡ value (skip i l)
      each g m zero h z = refl
      each g m (suc i) h z = m.each i (omega arith) z

  -- two faults that are the same of every record
  many-same : (other : List ℕ → ℕ) → ((l : List ℕ) → fault l ≡ other l) → (n : ℕ) (l : List ℕ) → read_many fault value total n l ≡ read_many other value total n l
  unfolding read_many
  many-same other e zero l = refl
  many-same other e (suc n) l = ap₂ (λ (f : ℕ) (x : Outcome (Got (List A))). unless f (total - length l) (adding (value l) x)) (e l) (many-same other e n (drop (length_at l) l))

  -- the code's report of a loop, against the definition
  stopped-many : (from : ℕ) (start : List ℕ) (n : ℕ) (r : Reached) → from + length start ≡ total → Stopped fault from start n r → r.fault ≢ 0
      → read_many fault value total n start ≡ refused r.fault r.at
  stopped-many from start n r t s ne =
      many-stop n s.count start r.fault (s.stopped ne).0 s.reached.clean (s.stopped ne).1 ne
      ∙ ap (refused r.fault) (let a = s.reached.sum in let z : total - length (skip s.count start) ≡ r.at = omega arith in z)

  pub record All (from : ℕ) (start : List ℕ) (n at : ℕ) : Type 0 where
    pub got : Got (List A)
    pub read : read_many fault value total n start ≡ accepted got
    pub held : Many A fault value n start got
    pub tail : (file : List ℕ) → start ≡ drop from file → skip n start ≡ drop at file
    pub sum : at + length (skip n start) ≡ from + length start

  all-many : (from : ℕ) (start : List ℕ) (n : ℕ) (r : Reached) → Stopped fault from start n r → r.fault ≡ 0 → All from start n r.at
  all-many from start n r s e =
      let c = s.ended e in
      let w = many-all n start (λ j z. s.reached.clean j (omega arith)) in
      let x : skip s.count start ≡ skip n start = ap (λ k. skip k start) c in
      record {
        got = w.0;
        read = w.1;
        held = w.2;
        tail = λ file h. sym x ∙ s.reached.tail file h;
        sum = ap (λ y. r.at + length y) (sym x) ∙ s.reached.sum;
      }

-- a head without fault
pub record Head (file : List ℕ) : Type 0 where
  pub ten : length_at file ≡ 10
  pub long : 10 ≤ length file
  pub some : 1 ≤ word file 6
  pub rows : word file 6 ≤ most_rows
  pub items : word file 8 ≤ most_items

pub head-good : (file : List ℕ) → head_fault file ≡ 0 → Head file
unfolding head_fault length_of entry_in kind_table
head-good file e =
    let fine = eqb (word file 4) 1 && (leb 1 (word file 6) && (leb (word file 6) 64 && leb (word file 8) 16)) in
    let c = none-clean file (eqb (kind_at file) 1) (eqb (length_at file) 10) fine 3 e in
    let s = eqb-true (length_at file) 10 c.is_right in
    let w = c.whole in
    let a = and_right (eqb (word file 4) 1) _ c.is_fine in
    let b = and_right (leb 1 (word file 6)) _ a in
    record {
      ten = s;
      long = omega arith;
      some = leb-true 1 (word file 6) (and_left (leb 1 (word file 6)) _ a);
      rows = leb-true (word file 6) 64 (and_left (leb (word file 6) 64) _ b);
      items = leb-true (word file 8) 16 (and_right (leb (word file 6) 64) _ b);
    }

refused-is : (file t : List ℕ) (n v : ℕ) → n ≢ 0 → v ≤ 6762 → read_records file ≡ refused n v → Recorded file t (record { fault = n; at = v })
refused-is file t n v ne h e = record { refusal = λ z. e; tabled = λ z. absurd (ne z); end = λ z. absurd (ne z); near = h }

pub head-bad : (file t : List ℕ) (k : ℕ) → k ≡ head_fault file → k ≢ 0 → Recorded file t (record { fault = k; at = 0 })
unfolding read_records
head-bad file t k e ne = refused-is file t k 0 ne (omega arith)
    (ap (λ f. unless f 0 (and_then (read_many item_fault item_at (length file) (word file 8) (drop 10 file)) (record_items file))) (sym e) ∙ unless-refused k 0 _ ne)

-- kinds by their numbers: one computed test
abbrev stored_kind : ℕ → ℕ
stored_kind k = cond (eqb k 28) 18 k

numbers : all_below 16 (λ j. eqb (stored_kind (16 + j)) (number_of (kind_of (16 + j)))) ≡ true
unfolding kind_of
numbers = refl

uses-length : (u : ℕ) (l : List ℕ) → length (uses_at u l) ≡ u
unfolding uses_at
uses-length zero l = refl
uses-length (suc u) l = ap suc (uses-length u (drop 6 l))

-- the fields of each kind of row: one computed test
abbrev fields_due : ℕ → ℕ
fields_due k = cond (eqb k 16) 2 (cond (eqb k 22) 1 (cond (eqb k 31) 1 0))

fields-right : all_below 16 (λ j. eqb (fields_of (16 + j)) (fields_due (16 + j))) ≡ true
unfolding fields_of entry_in kind_table
fields-right = refl

-- one row's record without fault, which begins at byte `at` of the file
module _ (items at : ℕ) (file l : List ℕ) (clean : row_fault items l ≡ 0) where
  row-kind : column at 0 l ≡ number_of (row_at l).kind
  unfolding column row_at
  row-kind = eqb-true (stored_kind (kind_at l)) (number_of (kind_of (kind_at l))) (of-kind items l clean (λ k. eqb (stored_kind k) (number_of (kind_of k))) numbers)

  row-function : eqb (kind_at l) 16 ≡ same_kind (row_at l).kind function
  row-function = stored ∙ ap (λ x. eqb x 16) row-kind
    where
      stored : eqb (kind_at l) 16 ≡ eqb (column at 0 l) 16
      stored = unfold column in (decide (eqb (kind_at l) 28) (λ e. rw (eqb-true (kind_at l) 28 e)) (λ e. rw e))

  -- the fields that its kind has are those that the row is made of
  row-fields : fields_of (kind_at l) ≡ fields_due (kind_at l)
  row-fields = eqb-true (fields_of (kind_at l)) (fields_due (kind_at l)) (of-kind items l clean (λ k. eqb (fields_of k) (fields_due k)) fields-right)

  row_first : column at 1 l ≡ (row_at l).first
  unfolding column field_of row_at
  row_first = rw row-fields (decide (eqb (kind_at l) 28) (λ e. rw (eqb-true (kind_at l) 28 e)) (λ e. rw e (go (eqb (kind_at l) 16) (eqb (kind_at l) 22) (eqb (kind_at l) 31))))
    where
      go : (a b c : Bool) → cond (leb 1 (cond a 2 (cond b 1 (cond c 1 0)))) (word l 4) 0 ≡ cond (a || b || c) (word l 4) 0
      go true b c = refl
      go false true c = refl
      go false false true = refl
      go false false false = refl

  row-second : column at 2 l ≡ (row_at l).second
  unfolding column field_of row_at
  row-second = rw row-fields (go (eqb (kind_at l) 16) (eqb (kind_at l) 22) (eqb (kind_at l) 31))
    where
      go : (a b c : Bool) → cond (leb 2 (cond a 2 (cond b 1 (cond c 1 0)))) (word l 6) 0 ≡ cond a (word l 6) 0
      go true b c = refl
      go false true c = refl
      go false false true = refl
      go false false false = refl

  row_number : column at 4 l ≡ length (row_at l).uses
  unfolding column row_at
  row_number = decide (eqb (kind_at l) 16)
      (λ e. rw (eqb-true (kind_at l) 16 e, function-base) (sym (uses-length ((length_at l - 8) / 6) (drop 8 l))))
      (λ e. rw e)

  -- where its uses begin, and how many bytes they are
  row-offset : uses_from at l ≡ cond (eqb (kind_at l) 16) (at + 8) 0
  unfolding uses_from
  row-offset = decide (eqb (kind_at l) 16) (λ e. rw (eqb-true (kind_at l) 16 e, function-behind)) (λ e. rw e)

  row_number_of : column at 4 l ≡ cond (eqb (kind_at l) 16) ((length_at l - 8) / 6) 0
  unfolding column
  row_number_of = decide (eqb (kind_at l) 16) (λ e. rw (eqb-true (kind_at l) 16 e, function-base)) (λ e. rw e)

  row-uses : drop at file ≡ l → uses_at (column at 4 l) (drop (column at 3 l) file) ≡ (row_at l).uses
  unfolding column row_at
  row-uses e = ap₂ (λ (u o : ℕ). uses_at u (drop o file)) row_number_of row-offset ∙ go (eqb (kind_at l) 16)
    where
      go : (b : Bool) → uses_at (cond b ((length_at l - 8) / 6) 0) (drop (cond b (at + 8) 0) file) ≡ cond b (uses_at ((length_at l - 8) / 6) (drop 8 l)) []
      go true = ap (uses_at ((length_at l - 8) / 6)) (sym (drop-drop 8 at file) ∙ ap (drop 8) e)
      go false = unfold uses_at in refl

  row-size : (6 * column at 4 l ≡ cond (eqb (kind_at l) 16) (length_at l - 8) 0) × (at + length l ≤ length file → column at 3 l + 6 * column at 4 l ≤ length file)
  unfolding column row_right
  row-size = rw (row-offset, row_number_of) (go (eqb (kind_at l) 16) (row-whole items l clean).is_right (row-whole items l clean).whole)
    where
      go : (b : Bool) → cond b (leb 8 (length_at l) && (eqb ((length_at l - 8) % 6) 0 && leb ((length_at l - 8) / 6) items)) (eqb (length_at l) (length_of (kind_at l))) ≡ true
          → length_at l ≤ length l → (6 * cond b ((length_at l - 8) / 6) 0 ≡ cond b (length_at l - 8) 0)
          × (at + length l ≤ length file → cond b (at + 8) 0 + 6 * cond b ((length_at l - 8) / 6) 0 ≤ length file)
      go true h w =
          let y = leb-true 8 (length_at l) (and_left (leb 8 (length_at l)) _ h) in
          let x = eqb-true ((length_at l - 8) % 6) 0 (and_left (eqb ((length_at l - 8) % 6) 0) _ (and_right (leb 8 (length_at l)) _ h)) in (omega arith, λ z. omega arith)
      go false h w = (refl, λ z. omega arith)

-- 43 by the table is 43 by the items that it was filled from
module _ (items : List Item) (t : List ℕ) where
  -- the first of some uses names an item that is there, and so do the others
  first-use : (from : ℕ) (u : Use) (us : List Use) → uses_fine (length items) from (u ∷ us) ≡ true → (u.item < length items) × (uses_fine (length items) (suc u.item) us ≡ true)
  unfolding uses_fine
  first-use from u us h =
      let a = and_right (leb from u.item) _ h in
      (ltb-true u.item (length items) (and_left (ltb u.item (length items)) _ a), and_right (not (eqb (u.take + u.give) 0)) _ (and_right (ltb u.item (length items)) _ a))

  fits-are : ((k : ℕ) → k < length items → trigger_in t k ≡ cond (get_or items k no_item).trigger 1 0) → (from : ℕ) (us : List Use) → uses_fine (length items) from us ≡ true → triggers_fit t us ≡ triggers_fine items us
  unfolding triggers_fit use_fits triggers_fine
  fits-are marks from [] h = refl
  fits-are marks from (u ∷ us) h =
      let w = first-use from u us h in
      ap₂ (λ (x y : Bool). (x || (leb u.take 1 && leb u.give 1)) && y) (ap (λ (x : ℕ). eqb x 0) (marks u.item w.0) ∙ go (get_or items u.item no_item).trigger) (fits-are marks (suc u.item) us w.1)
    where
      go : (b : Bool) → eqb (cond b 1 0) 0 ≡ not b
      go true = refl
      go false = refl

  fits_all : ((k : ℕ) → k < length items → (get_or items k no_item).trigger ≡ false) → (from : ℕ) (us : List Use) → uses_fine (length items) from us ≡ true → triggers_fine items us ≡ true
  unfolding triggers_fine
  fits_all none from [] h = refl
  fits_all none from (u ∷ us) h = let w = first-use from u us h in rw (none u.item w.0, fits_all none (suc u.item) us w.1)

  uses-clean : (l : List ℕ) → row_fault (length items) l ≡ 0 → uses_fine (length items) 0 (row_at l).uses ≡ true
  unfolding row_at kind_of row_fine
  uses-clean l e = decide (eqb (kind_at l) 16)
      (λ z. let f = (row-whole (length items) l e).is_fine in rw z (and_right (leb (word l 4) (word l 6)) _ (rw z at f)))
      (λ z. rw z (unfold uses_fine in refl))

  faults-are : ((k : ℕ) → k < length items → trigger_in t k ≡ cond (get_or items k no_item).trigger 1 0) → (some_trigger_in t ≡ 0 → (k : ℕ) → k < length items → (get_or items k no_item).trigger ≡ false)
      → (l : List ℕ) → table_fault (length items) t l ≡ row_fault_in items l
  unfolding table_fault trigger_fault row_fault_in
  faults-are marks none l = go (row_fault (length items) l) refl
    where
      late : row_fault (length items) l ≡ 0 → ◌≡◌ {A = ℕ} (cond (eqb (some_trigger_in t) 0) 0 (cond (triggers_fit t (row_at l).uses) 0 43)) (cond (triggers_fine items (row_at l).uses) 0 43)
      late e = decide (eqb (some_trigger_in t) 0)
          (λ z. rw (z, fits_all (none (eqb-true (some_trigger_in t) 0 z)) 0 (row_at l).uses (uses-clean l e)))
          (λ z. rw (z, fits-are marks 0 (row_at l).uses (uses-clean l e)))

      go : (f : ℕ) → f ≡ row_fault (length items) l
          → or_else f (cond (eqb (some_trigger_in t) 0) 0 (cond (triggers_fit t (row_at l).uses) 0 43)) ≡ or_else f (cond (triggers_fine items (row_at l).uses) 0 43)
      go zero e = late (sym e)
      go (suc f) e = refl

-- the rest of a file n records on is a tail of it
skip-drop : (n k : ℕ) (file : List ℕ) → (j : ℕ) × (skip n (drop k file) ≡ drop j file)
unfolding skip
skip-drop zero k file = (k, refl)
skip-drop (suc n) k file = let w = skip-drop n (k + length_at (drop k file)) file in (w.0, ap (skip n) (drop-drop (length_at (drop k file)) k file) ∙ w.1)

tail_at : (k : ℕ) (file : List ℕ) → drop (length file - length (drop k file)) file ≡ drop k file
tail_at k file = rw (length-drop k file) (decide (leb k (length file))
    (λ e. let l = leb-true k (length file) e in ap (λ x. drop x file) (let z : length file - (length file - k) ≡ k = omega arith in z))
    (λ e. let l = leb-false k (length file) e in ap (λ x. drop x file) (let z : length file - (length file - k) ≡ length file = omega arith in z)
    ∙ (drop-length file ∙ sym (drop_of_length-le file (let z : length file ≤ k = omega arith in z)))))

skip-tail : (n k : ℕ) (file : List ℕ) → drop (length file - length (skip n (drop k file))) file ≡ skip n (drop k file)
skip-tail n k file = let w = skip-drop n k file in ap (λ (x : List ℕ). drop (length file - length x) file) w.1 ∙ (tail_at w.0 file ∙ sym w.1)

skip-short : (n k : ℕ) (file : List ℕ) → length (skip n (drop k file)) ≤ length file
skip-short n k file = let w = skip-drop n k file in rw (w.1, length-drop w.0 file) (omega arith)

-- a file whose head has no fault: the items that were read, then the rows
module _ (file t : List ℕ) (r : Reached) (k : head_fault file ≡ 0) (i : ItemsRead 10 (drop 10 file) (word file 8) (word file 6) t r) where
  s : Reached
  s = i.line

  total : 10 + length (drop 10 file) ≡ length file
  total = let h = head-good file k in let l = h.long in omega (arith, length-drop 10 file)

  items-bad : s.fault ≢ 0 → Recorded file t s
  unfolding read_records s
  items-bad ne = let h = head-good file k in refused-is file t s.fault s.at ne (omega (arith, i.near, h.items))
      (ap₂ (λ f x. unless f 0 (and_then x (record_items file))) k (stopped-many item_fault item_at (length file) 10 (drop 10 file) (word file 8) s total i.stopped ne))

  module _ (z : s.fault ≡ 0) where
    start : List ℕ
    start = skip (word file 8) (drop 10 file)

    q : RowsRead (table_fault (word file 8) t) s.at start (word file 6) i.counted t r
    unfolding s start
    q = i.rows_read z

    l : Reached
    l = q.line

    its : All item_fault item_at (length file) 10 (drop 10 file) (word file 8) s.at
    unfolding s
    its = all-many item_fault item_at (length file) 10 (drop 10 file) (word file 8) s i.stopped z

    begins : start ≡ drop s.at file
    unfolding start
    begins = its.tail file refl

    whole-file : s.at + length start ≡ length file
    unfolding start
    whole-file = its.sum ∙ total

    near : l.at ≤ 6762
    unfolding s l
    near = let h = head-good file k in omega (arith, i.near, q.near, h.items, h.rows)

    -- the fault of a row's record, by the table
    rows_fault : List ℕ → ℕ
    rows_fault l = table_fault (word file 8) t l

    same-fault : (l : List ℕ) → row_fault_in its.got.value l ≡ rows_fault l
    unfolding rows_fault s q
    same-fault l =
        let m = its.held.many in
        sym (subst (λ (x : ℕ). table_fault x t l ≡ row_fault_in its.got.value l) m (faults-are its.got.value t
        (λ k g. let h : k < word file 8 = omega arith in q.kept.cell (item_cell 1 k) (omega arith) ∙ ((i.filled z).trigger k h ∙ ap (λ (x : Item). cond x.trigger 1 0) (sym (its.held.each k h no_item))))
        (λ e k g. let h : k < word file 8 = omega arith in ap (λ (x : Item). x.trigger) (its.held.each k h no_item) ∙ (i.filled z).none (sym (q.kept.cell some_trigger_cell (omega arith)) ∙ e) k h) l))

    so_far : read_records file ≡ and_then (read_many rows_fault row_at (length file) (word file 6) start) (record_rows file its.got.value)
    unfolding read_records record_items start
    so_far = ap₂ (λ f x. unless f 0 (and_then x (record_items file))) k its.read
        ∙ (ap (λ l. and_then (read_many (row_fault_in its.got.value) row_at (length file) (word file 6) l) (record_rows file its.got.value)) its.held.rest
        ∙ ap (λ x. and_then x (record_rows file its.got.value)) (many-same (row_fault_in its.got.value) row_at (length file) rows_fault same-fault (word file 6) start))

    rows-bad : l.fault ≢ 0 → Recorded file t l
    unfolding l rows_fault
    rows-bad ne = refused-is file t l.fault l.at ne near (so_far ∙ ap (λ x. and_then x (record_rows file its.got.value))
        (stopped-many rows_fault row_at (length file) s.at start (word file 6) l whole-file q.stopped ne))

    module _ (y : l.fault ≡ 0) where
      rws : All rows_fault row_at (length file) s.at start (word file 6) l.at
      unfolding l rows_fault
      rws = all-many rows_fault row_at (length file) s.at start (word file 6) l q.stopped y

      left : ℕ
      left = length (skip (word file 6) start)

      dia : Diagram
      dia = record { rows = rws.got.value; items = its.got.value }

      answer : read_records file ≡ unless (cond (eqb left 0) 0 6) (length file - left) (accepted dia)
      unfolding record_rows dia left
      answer = so_far ∙ (ap (λ x. and_then x (record_rows file its.got.value)) rws.read
          ∙ ap (λ (x : List ℕ). unless (cond (eqb (length x) 0) 0 6) (length file - length x) (accepted dia)) rws.held.rest)

      reached : l.at ≡ length file - left
      unfolding left
      reached = let a = rws.sum in let b = whole-file in omega arith

      from : ℕ → List ℕ
      from p = skip p start

      each : (p : ℕ) → p < row_count dia → row dia p ≡ row_at (from p)
      unfolding dia from
      each p g = rws.held.each p (let n = rws.held.many in omega arith) (plain end)

      fine : (p : ℕ) → p < row_count dia → row_fault (word file 8) (from p) ≡ 0
      unfolding dia from rows_fault
      fine p g = row_is_fine (word file 8) t (skip p start) (rws.held.clean p (let n = rws.held.many in omega arith))

      is_function : (p : ℕ) → p < row_count dia → eqb (kind_at (from p)) 16 ≡ is_kind dia function p
      is_function p g = row-function (word file 8) 0 file (from p) (fine p g) ∙ ap (λ (x : Row). same_kind x.kind function) (sym (each p g))

      at : ℕ → ℕ
      at p = length file - length (from p)

      cell : (c p : ℕ) → c < 5 → p < row_count dia → get_or t (cell_of c p) 0 ≡ column (at p) c (from p)
      unfolding dia from at l q
      cell c p b g = (q.filled y).cell c b p (let n = rws.held.many in omega arith) ∙ ap (λ (x : ℕ). column (x - length (skip p start)) c (skip p start)) whole-file

      skip-in : (p : ℕ) → drop (at p) file ≡ from p
      unfolding from at
      skip-in p = ap (λ (x : List ℕ). drop (length file - length (skip p x)) file) begins ∙ (skip-tail p s.at file ∙ ap (skip p) (sym begins))

      short-in : (p : ℕ) → at p + length (from p) ≤ length file
      unfolding from at
      short-in p = let h : length (skip p start) ≤ length file = rw begins (skip-short p s.at file) in omega arith

      tabulated : Tabulated dia (word file 6) (word file 8) t
      unfolding dia column s q
      tabulated =
          let hd = head-good file k in
          let n : word file 6 ≡ row_count dia = sym rws.held.many in
          let m : word file 8 ≡ length its.got.value = sym its.held.many in
          let in_rows : (p : ℕ) → p < word file 6 → p < row_count dia = λ p g. rw (← n) g in
          record {
            rows_are = n;
            items_are = m;
            some_row = hd.some;
            few_rows = hd.rows;
            few_items = hd.items;
            kinds = λ p g. ap (λ j. get_or t j 0) (let x : p ≡ cell_of 0 p = omega arith in x)
                ∙ (cell 0 p (omega arith) (in_rows p g) ∙ (row-kind (word file 8) (at p) file (from p) (fine p (in_rows p g)) ∙ ap (λ (x : Row). number_of x.kind) (sym (each p (in_rows p g)))));
            firsts = λ p g. cell 1 p (omega arith) (in_rows p g) ∙ (row_first (word file 8) (at p) file (from p) (fine p (in_rows p g)) ∙ ap (λ (x : Row). x.first) (sym (each p (in_rows p g))));
            seconds = λ p g x. cell 2 p (omega arith) (in_rows p g) ∙ (row-second (word file 8) (at p) file (from p) (fine p (in_rows p g)) ∙ ap (λ (x : Row). x.second) (sym (each p (in_rows p g))));
            numbers = λ p g. cell 4 p (omega arith) (in_rows p g) ∙ (row_number (word file 8) (at p) file (from p) (fine p (in_rows p g)) ∙ ap (λ (x : Row). length x.uses) (sym (each p (in_rows p g))));
            counts = λ p g. q.kept.cell (item_cell 0 p) (omega arith) ∙ ((i.filled z).count p g ∙ ap (λ (x : Item). x.initial) (sym (its.held.each p g no_item)));
            triggers = λ p g. q.kept.cell (item_cell 1 p) (omega arith) ∙ ((i.filled z).trigger p g ∙ ap (λ (x : Item). cond x.trigger 1 0) (sym (its.held.each p g no_item)));
            no_trigger = λ e p g. ap (λ (x : Item). x.trigger) (its.held.each p g no_item) ∙ (i.filled z).none (sym (q.kept.cell some_trigger_cell (omega arith)) ∙ e) p g;
          }

      tabled-uses : TabledUses file dia t
      unfolding column from_row from at start
      tabled-uses = record {
        offsets = λ p g. cell 3 p (omega arith) g ∙ (row-offset (word file 8) (at p) file (from p) (fine p g) ∙ offset-is p g);
        sizes = λ p g. ap (λ x. 6 * x) (cell 4 p (omega arith) g) ∙ ((row-size (word file 8) (at p) file (from p) (fine p g)).0 ∙ size_is p g);
        inside = λ p g. rw (cell 3 p (omega arith) g, cell 4 p (omega arith) g) ((row-size (word file 8) (at p) file (from p) (fine p g)).1 (short-in p));
        uses = λ p g. ap₂ (λ a b. uses_at a (drop b file)) (cell 4 p (omega arith) g) (cell 3 p (omega arith) g)
            ∙ (row-uses (word file 8) (at p) file (from p) (fine p g) (skip-in p) ∙ ap (λ (x : Row). x.uses) (sym (each p g)));
      }
        where
          offset-is : (p : ℕ) → p < row_count dia → cond (eqb (kind_at (from p)) 16) (at p + 8) 0 ≡ cond (is_kind dia function p) (length file - length (skip p (skip (word file 8) (drop 10 file))) + 8) 0
          offset-is p g = ap (λ b. cond b (length file - length (skip p start) + 8) 0) (is_function p g)

          size_is : (p : ℕ) → p < row_count dia → cond (eqb (kind_at (from p)) 16) (length_at (from p) - 8) 0 ≡ cond (is_kind dia function p) (length_at (skip p (skip (word file 8) (drop 10 file))) - 8) 0
          size_is p g = ap (λ b. cond b (length_at (skip p start) - 8) 0) (is_function p g)

      end_read : Recorded file t (end_reached left l.at)
      end_read = decide (eqb left 0)
          (λ e. rw e (record {
            refusal = λ x. absurd (x refl);
            tabled = λ x. record { diagram = dia; read = answer ∙ ap (λ b. unless (cond b 0 6) (length file - left) (accepted dia)) e; tabulated = tabulated; uses = tabled-uses };
            end = λ x. let z = eqb-true left 0 e in let y = reached in omega arith;
            near = near;
          }))
          (λ e. rw e (refused-is file t 6 l.at (λ w. absurd (omega arith)) near
          (answer ∙ (ap (λ b. unless (cond b 0 6) (length file - left) (accepted dia)) e ∙ ap (refused 6) (sym reached)))))

    rows_then : Recorded file t r
    unfolding l left
    rows_then = decide (eqb l.fault 0)
        (λ e. let y = eqb-true l.fault 0 e in subst (Recorded file t) (sym (q.end y)) (end_of y))
        (λ e. let ne = eqb-false l.fault 0 e in subst (Recorded file t) (sym (q.off ne)) (rows-bad ne))
      where
        end_of : (y : l.fault ≡ 0) → Recorded file t (end_reached (length (skip (word file 6) start)) l.at)
        end_of y = end_read y

  -- THEOREM: the code's way through a file reads its records
  pub records-read : Recorded file t r
  unfolding s
  records-read = decide (eqb s.fault 0)
      (λ e. rows_then (eqb-true s.fault 0 e))
      (λ e. let ne = eqb-false s.fault 0 e in subst (Recorded file t) (sym (i.off ne)) (items-bad ne))

-- the code's way: the head, and from its rest the items and rows
module _ (file : List ℕ) {fault size n m : ℕ} (ef : fault ≡ head_fault file) (z : fault ≡ 0) (es : size ≡ word file 0) (en : n ≡ word file 6) (em : m ≡ word file 8) where
  no-fault : head_fault file ≡ 0
  no-fault = sym ef ∙ z

  ten : size ≡ 10
  ten = es ∙ (head-good file no-fault).ten

  pub head_near : ((size ≤ 10) × (n ≤ most_rows)) × (m ≤ most_items)
  head_near = let h = head-good file no-fault in ((omega (arith, ten), rw en h.rows), rw em h.items)

  pub read_through : {rest t : List ℕ} {r : Reached} → rest ≡ drop size file → ItemsRead size rest m n t r → Recorded file t r
  read_through {rest} {t} {r} el w = records-read file t r no-fault
      (subst (λ (x : ℕ). ItemsRead 10 (drop 10 file) x (word file 6) t r) em (subst (λ (x : ℕ). ItemsRead 10 (drop 10 file) m x t r) en
      (subst (λ (l : List ℕ). ItemsRead 10 l m n t r) (el ∙ ap (λ (x : ℕ). drop x file) ten) (subst (λ (x : ℕ). ItemsRead x rest m n t r) ten w))))

-- THEOREM: reading a file is reading its records, then the nesting
pub two-parts : (file : List ℕ) → read_diagram file ≡ and_then (read_records file) nested
unfolding read_diagram read_records after_items record_items after_rows record_rows
two-parts file = unless-after (head_fault file) 0 _ nested _ (and_then-twice (read_many item_fault item_at (length file) (word file 8) (drop 10 file)) (record_items file) nested (after_items file)
    (λ got. and_then-twice (read_many (row_fault_in got.value) row_at (length file) (word file 6) got.rest) (record_rows file got.value) nested (after_rows file got.value)
    (λ rs. unless-after (cond (eqb (length rs.rest) 0) 0 6) (length file - length rs.rest) _ nested _ refl)))
  where
    unless-after : {A B : Type 0} (n v : ℕ) (a : Outcome A) (g : A → Outcome B) (b : Outcome B) → b ≡ and_then a g → unless n v b ≡ and_then (unless n v a) g
    unless-after n v a g b e = ap (unless n v) e ∙ sym (unless-then n v a g)
