-- The first 8,192 bytes of a file decide what is read of it: an accepted diagram file has at most 6,762 bytes, and a fault lies within them.
use Prim.Native.Nat.{ℕ, zero, suc, ◌+◌, ◌-◌, ◌*◌, ◌/◌, ◌%◌, ◌≤◌, ◌<◌}
use Rattle.std.specs.Prelude.{◌≡◌, Bool, false, not, ◌&&◌, ◌||◌, take, drop, ltb}
use Rattle.std.proofs.Math.Path.{refl, ap, ap₂}
use Rattle.std.proofs.Common.{sym, ◌∙◌, take-append-drop, length-take-le, take_all}
use Rattle.std.proofs.Math.Bool.{true, cond}
use mathlib.Core.List.{List, [], ◌∷◌, ◌++◌}
use native.Mathlib.Omega.{arith}
use Rattle.std.proofs.Math.ListN.{length, length-append, length-drop, get_or-append}
use Rattle.std.proofs.lemmas.List.{drop-append-le}
use Rattle.std.proofs.Math.Dec.{leb, eqb}
use borrow.Author.Tests.{le-ltb, leb-true, leb-false, eqb-true, ne_eqb}
use Rattle.effbd.specs.Answers.{Outcome, accepted, refused, unless, or_else, and_then}
use Rattle.effbd.specs.Records.{Got, adding, entry_in, fault_at, kind_at, kind_table, length_at, length_of, read_many, word}
use Rattle.effbd.specs.Diagrams.{Item, Row, Use, head_fault, item_at, item_fault, row_at, row_fault, row_fault_in, row_fine, row_right, triggers_fine, uses_at, kind_of}
use Rattle.effbd.specs.Nesting.{after_items, after_rows, read_diagram}
use Rattle.effbd.specs.Annex.{annex_in}
use Rattle.kinds.proofs.KindTable.{short}
use Rattle.ranges.specs.Tests.{decide, and_left, and_right, or_split}
use Rattle.ranges.specs.Outcomes.{else-none}
use Rattle.agreement.specs.ByteLaws.{none-clean, next-inv, adding-inv}

-- the fields of a record are those of its first bytes
word_same : (p s : List ℕ) (i : ℕ) → suc i < length p → word (p ++ s) i ≡ word p i
word_same p s i l = ap₂ (λ (x y : ℕ). x + 256 * y) (get_or-append p s 0 i (omega arith)) (get_or-append p s 0 (suc i) l)

abbrev item_of : ℕ → Bool → Item
item_of initial trigger = record { initial = initial; trigger = trigger }

abbrev use_of : ℕ → ℕ → ℕ → Use
use_of item take give = record { item = item; take = take; give = give }

uses-same : (u : ℕ) (p s : List ℕ) → 6 * u ≤ length p → uses_at u (p ++ s) ≡ uses_at u p
unfolding uses_at
uses-same zero p s l = refl
uses-same (suc u) p s l =
    ap₂ (λ (x : Use) (xs : List Use). x ∷ xs)
    (ap (λ (n : ℕ). use_of n (word (p ++ s) 2) (word (p ++ s) 4)) (word_same p s 0 (omega arith))
    ∙ (ap (λ (n : ℕ). use_of (word p 0) n (word (p ++ s) 4)) (word_same p s 2 (omega arith)) ∙ ap (λ (n : ℕ). use_of (word p 0) (word p 2) n) (word_same p s 4 (omega arith))))
    (ap (λ (r : List ℕ). uses_at u r) (drop-append-le 6 p s (omega arith)) ∙ uses-same u (drop 6 p) s (let e = length-drop 6 p in omega arith))

-- a record whose right length is at most 104 has the same fault in 104 bytes and in more
fault-same : (p s : List ℕ) (due right fine due' right' fine' : Bool) (number : ℕ) → 104 ≤ length p → due ≡ due' → right ≡ right'
    → (right' ≡ true → length_at p ≤ 104) → (right' ≡ true → fine ≡ fine') → fault_at (p ++ s) due right fine number ≡ fault_at p due' right' fine' number
unfolding fault_at
fault-same p s due right fine due' right' fine' number l d r long f =
    rw (d, r, le-ltb (length (p ++ s)) 4 (let e = length-append p s in omega arith), le-ltb (length p) 4 (omega arith)) (go due' right' long f)
  where
    go : (b c : Bool) → (c ≡ true → length_at p ≤ 104) → (c ≡ true → fine ≡ fine')
        → cond (not b) 2 (cond (not c) 3 (cond (ltb (length (p ++ s)) (length_at (p ++ s))) 1 (cond (not fine) number 0)))
        ≡ cond (not b) 2 (cond (not c) 3 (cond (ltb (length p) (length_at p)) 1 (cond (not fine') number 0)))
    go false c h g = refl
    go true false h g = refl
    go true true h g = let z = h refl in let same = word_same p s 0 (omega arith) in
        rw (le-ltb (length (p ++ s)) (length_at (p ++ s)) (let e = length-append p s in omega arith), le-ltb (length p) (length_at p) (omega arith), g refl)

head-same : (p s : List ℕ) → 104 ≤ length p → head_fault (p ++ s) ≡ head_fault p
unfolding head_fault
head-same p s l = fault-same p s _ _ _ _ _ _ 4 l (ap (λ (n : ℕ). eqb n 1) (word_same p s 2 (omega arith))) (ap (λ (n : ℕ). eqb n (length_of 1)) (word_same p s 0 (omega arith)))
    (λ e. let z = eqb-true (length_at p) (length_of 1) e in let y : length_of 1 ≡ 10 = unfold length_of entry_in kind_table in refl in omega arith)
    (λ e. ap (λ (n : ℕ). eqb n 1 && (leb 1 (word (p ++ s) 6) && (leb (word (p ++ s) 6) 64 && leb (word (p ++ s) 8) 16))) (word_same p s 4 (omega arith))
    ∙ (ap (λ (n : ℕ). eqb (word p 4) 1 && (leb 1 n && (leb n 64 && leb (word (p ++ s) 8) 16))) (word_same p s 6 (omega arith))
    ∙ ap (λ (n : ℕ). eqb (word p 4) 1 && (leb 1 (word p 6) && (leb (word p 6) 64 && leb n 16))) (word_same p s 8 (omega arith))))

item-same : (p s : List ℕ) → 104 ≤ length p → item_fault (p ++ s) ≡ item_fault p
unfolding item_fault
item-same p s l = fault-same p s _ _ _ _ _ _ 5 l (ap (λ (n : ℕ). eqb n 2 || eqb n 3) (word_same p s 2 (omega arith)))
    (ap₂ (λ (n k : ℕ). eqb n (length_of k)) (word_same p s 0 (omega arith)) (word_same p s 2 (omega arith)))
    (λ e. let z = eqb-true (length_at p) (length_of (kind_at p)) e in let y = short (kind_at p) in omega arith) (λ e. refl)

module _ (M : ℕ) (few : M ≤ 16) where
  row-short : (p : List ℕ) → row_right M p ≡ true → length_at p ≤ 104
  unfolding row_right
  row-short p e = decide (eqb (kind_at p) 16)
      (λ z. let y : (leb 8 (length_at p) && (eqb ((length_at p - 8) % 6) 0 && leb ((length_at p - 8) / 6) M)) ≡ true = rw z at e in
      let w = and_right (leb 8 (length_at p)) _ y in
      let a = eqb-true ((length_at p - 8) % 6) 0 (and_left (eqb ((length_at p - 8) % 6) 0) _ w) in
      let b = leb-true ((length_at p - 8) / 6) M (and_right (eqb ((length_at p - 8) % 6) 0) _ w) in
      let c = leb-true 8 (length_at p) (and_left (leb 8 (length_at p)) _ y) in
      omega arith)
      (λ z. let y : eqb (length_at p) (length_of (kind_at p)) ≡ true = rw z at e in
      let a = eqb-true (length_at p) (length_of (kind_at p)) y in let b = short (kind_at p) in omega arith)

  abbrev row_of : (kind first second : ℕ) → List Use → Row
  row_of kind first second uses = record {
    kind = kind_of kind;
    first = cond (eqb kind 16 || eqb kind 22 || eqb kind 31) first (cond (eqb kind 28) 1 0);
    second = cond (eqb kind 16) second 0;
    uses = cond (eqb kind 16) uses [];
  }

  row-at-same : (p s : List ℕ) → 104 ≤ length p → length_at p ≤ 104 → row_at (p ++ s) ≡ row_at p
  unfolding row_at
  row-at-same p s l h =
      ap (λ (n : ℕ). row_of n (word (p ++ s) 4) (word (p ++ s) 6) (uses_at ((length_at (p ++ s) - 8) / 6) (drop 8 (p ++ s)))) (word_same p s 2 (omega arith))
      ∙ (ap (λ (n : ℕ). row_of (kind_at p) n (word (p ++ s) 6) (uses_at ((length_at (p ++ s) - 8) / 6) (drop 8 (p ++ s)))) (word_same p s 4 (omega arith))
      ∙ (ap (λ (n : ℕ). row_of (kind_at p) (word p 4) n (uses_at ((length_at (p ++ s) - 8) / 6) (drop 8 (p ++ s)))) (word_same p s 6 (omega arith))
      ∙ ap (λ (us : List Use). row_of (kind_at p) (word p 4) (word p 6) us)
      (ap (λ (n : ℕ). uses_at ((n - 8) / 6) (drop 8 (p ++ s))) (word_same p s 0 (omega arith))
      ∙ (ap (λ (r : List ℕ). uses_at ((length_at p - 8) / 6) r) (drop-append-le 8 p s (omega arith))
      ∙ uses-same ((length_at p - 8) / 6) (drop 8 p) s (let e = length-drop 8 p in omega arith)))))

  right-same : (p s : List ℕ) → 104 ≤ length p → row_right M (p ++ s) ≡ row_right M p
  unfolding row_right
  right-same p s l =
      ap (λ (n : ℕ). cond (eqb (kind_at (p ++ s)) 16) (leb 8 n && (eqb ((n - 8) % 6) 0 && leb ((n - 8) / 6) M)) (eqb n (length_of (kind_at (p ++ s))))) (word_same p s 0 (omega arith))
      ∙ ap (λ (n : ℕ). cond (eqb n 16) (leb 8 (length_at p) && (eqb ((length_at p - 8) % 6) 0 && leb ((length_at p - 8) / 6) M)) (eqb (length_at p) (length_of n))) (word_same p s 2 (omega arith))

  row_same : (p s : List ℕ) → 104 ≤ length p → row_fault M (p ++ s) ≡ row_fault M p
  unfolding row_fault
  row_same p s l = fault-same p s _ _ _ _ _ _ 5 l (ap (λ (n : ℕ). leb 16 n && leb n 31) (word_same p s 2 (omega arith))) (right-same p s l)
      (row-short p) (λ e. ap (row_fine M) (row-at-same p s l (row-short p e)))

-- what is read of the first bytes, with more bytes behind it
abbrev extended : {A : Type 0} → List ℕ → Outcome (Got A) → Outcome (Got A)
extended s (accepted g) = accepted (record { value = g.value; rest = g.rest ++ s })
extended s (refused number value) = refused number value

-- n records of at most c bytes each
abbrev spent : ℕ → ℕ → ℕ
spent c zero = 0
spent c (suc n) = c + spent c n

spent-most : (c n m : ℕ) → n ≤ m → spent c n ≤ spent c m
spent-most c zero m l = omega arith
spent-most c (suc n) zero l = absurd (omega arith)
spent-most c (suc n) (suc m) l = let a = spent-most c n m (omega arith) in omega arith

unless-same : {A : Type 0} (f f' v v' : ℕ) (a b : Outcome A) → f ≡ f' → v ≡ v' → (f' ≡ 0 → a ≡ b) → unless f v a ≡ unless f' v' b
unless-same f zero v v' a b e h g = ap (λ (k : ℕ). unless k v a) e ∙ g refl
unless-same f (suc f') v v' a b e h g = ap (λ (k : ℕ). unless k v a) e ∙ ap (refused (suc f')) h

module _ {A : Type 0} (fault : List ℕ → ℕ) (value : List ℕ → A) (c : ℕ)
    (same : (p s : List ℕ) → 104 ≤ length p → fault (p ++ s) ≡ fault p)
    (small : (p : List ℕ) → fault p ≡ 0 → length_at p ≤ c)
    (valued : (p s : List ℕ) → 104 ≤ length p → fault p ≡ 0 → value (p ++ s) ≡ value p) where
  many-same : (n total : ℕ) (p s : List ℕ) → c ≤ 104 → spent c n + 104 ≤ length p
      → read_many fault value (total + length s) n (p ++ s) ≡ extended s (read_many fault value total n p)
  unfolding read_many
  many-same zero total p s m l = refl
  many-same (suc n) total p s m l =
      unless-same (fault (p ++ s)) (fault p) (total + length s - length (p ++ s)) (total - length p) _ _ (same p s (omega arith)) (let e = length-append p s in omega arith)
      (λ e. let b = small p e in
      ap₂ (λ (x : A) (y : Outcome (Got (List A))). adding x y) (valued p s (omega arith) e)
      (ap (λ (k : ℕ). read_many fault value (total + length s) n (drop k (p ++ s))) (word_same p s 0 (omega arith))
      ∙ (ap (λ (r : List ℕ). read_many fault value (total + length s) n r) (drop-append-le (length_at p) p s (omega arith))
      ∙ many-same n total (drop (length_at p) p) s m (let d = length-drop (length_at p) p in omega arith)))
      ∙ behind (value p) (read_many fault value total n (drop (length_at p) p)))
      ∙ apart (fault p) (total - length p) (adding (value p) (read_many fault value total n (drop (length_at p) p)))
    where
      behind : (x : A) (o : Outcome (Got (List A))) → adding x (extended s o) ≡ extended s (adding x o)
      behind x (accepted g) = refl
      behind x (refused number v) = refl

      apart : (f v : ℕ) (o : Outcome (Got (List A))) → unless f v (extended s o) ≡ extended s (unless f v o)
      apart zero v o = refl
      apart (suc f) v o = refl

  many-length : (n total : ℕ) (p : List ℕ) (g : Got (List A)) → read_many fault value total n p ≡ accepted g → length g.value ≡ n
  unfolding read_many
  many-length zero total p g e = let z : record { value = []; rest = p } ≡ g = cc in ap (λ (x : Got (List A)). length x.value) (sym z)
  many-length (suc n) total p g e =
      let a = next-inv (fault p) (total - length p) _ g e in
      let w = adding-inv (value p) _ g a.1 in
      ap (λ (x : Got (List A)). length x.value) (sym w.2) ∙ ap suc (many-length n total (drop (length_at p) p) w.0 w.1)

  -- what is left behind n records
  many-left : (n total : ℕ) (p : List ℕ) (g : Got (List A)) → spent c n + 104 ≤ length p → read_many fault value total n p ≡ accepted g → length p ≤ length g.rest + spent c n
  unfolding read_many
  many-left zero total p g l e = let z : record { value = []; rest = p } ≡ g = cc in let y : length p ≡ length g.rest = ap (λ (x : Got (List A)). length x.rest) z in omega arith
  many-left (suc n) total p g l e =
      let a = next-inv (fault p) (total - length p) _ g e in
      let w = adding-inv (value p) _ g a.1 in
      let b = small p a.0 in
      let d = length-drop (length_at p) p in
      let r = many-left n total (drop (length_at p) p) w.0 (omega arith) w.1 in
      let y : length w.0.rest ≡ length g.rest = ap (λ (x : Got (List A)). length x.rest) w.2 in
      omega arith

item-clean : (p : List ℕ) → item_fault p ≡ 0 → length_at p ≤ 6
unfolding item_fault
item-clean p e =
    let c = none-clean p (eqb (kind_at p) 2 || eqb (kind_at p) 3) (eqb (length_at p) (length_of (kind_at p))) true 4 e in
    let z = eqb-true (length_at p) (length_of (kind_at p)) c.is_right in
    or_split (eqb (kind_at p) 2) (eqb (kind_at p) 3) c.is_due (six z 2 (unfold length_of entry_in kind_table in refl)) (λ f. six z 3 (unfold length_of entry_in kind_table in refl))
  where
    six : length_at p ≡ length_of (kind_at p) → (k : ℕ) → length_of k ≡ 6 → eqb (kind_at p) k ≡ true → length_at p ≤ 6
    six z k y e = let w : length_at p ≡ 6 = z ∙ (ap length_of (eqb-true (kind_at p) k e) ∙ y) in omega arith

row-clean : (M : ℕ) → M ≤ 16 → (p : List ℕ) → row_fault M p ≡ 0 → length_at p ≤ 104
unfolding row_fault
row-clean M few p e = row-short M few p (none-clean p (leb 16 (kind_at p) && leb (kind_at p) 31) (row_right M p) (row_fine M (row_at p)) 4 e).is_right

-- of a diagram with these items: 43 asks what the uses of a row say that has no other fault
module _ (items : List Item) (few : length items ≤ 16) where
  row-valued : (p s : List ℕ) → 104 ≤ length p → row_fault (length items) p ≡ 0 → row_at (p ++ s) ≡ row_at p
  row-valued p s l e = row-at-same (length items) few p s l (row-clean (length items) few p e)

  row-in-same : (p s : List ℕ) → 104 ≤ length p → row_fault_in items (p ++ s) ≡ row_fault_in items p
  unfolding row_fault_in
  row-in-same p s l = ap (λ (f : ℕ). or_else f (cond (triggers_fine items (row_at (p ++ s)).uses) 0 43)) (row_same (length items) few p s l) ∙ go (row_fault (length items) p) refl
    where
      go : (f : ℕ) → row_fault (length items) p ≡ f → or_else f (cond (triggers_fine items (row_at (p ++ s)).uses) 0 43) ≡ or_else f (cond (triggers_fine items (row_at p).uses) 0 43)
      go zero e = ap (λ (r : Row). cond (triggers_fine items r.uses) 0 43) (row-valued p s l e)
      go (suc f) e = refl

  unfaulted : (p : List ℕ) → row_fault_in items p ≡ 0 → row_fault (length items) p ≡ 0
  unfolding row_fault_in
  unfaulted p e = (else-none (row_fault (length items) p) _ e).0

-- head values that are not off
record Few (p : List ℕ) : Type 0 where
  rows : word p 6 ≤ 64
  items : word p 8 ≤ 16

head-clean : (p : List ℕ) → head_fault p ≡ 0 → Few p
unfolding head_fault
head-clean p e =
    let c = none-clean p (eqb (kind_at p) 1) (eqb (length_at p) (length_of 1)) (eqb (word p 4) 1 && (leb 1 (word p 6) && (leb (word p 6) 64 && leb (word p 8) 16))) 3 e in
    let f = and_right (leb 1 (word p 6)) _ (and_right (eqb (word p 4) 1) _ c.is_fine) in
    record { rows = leb-true (word p 6) 64 (and_left (leb (word p 6) 64) _ f); items = leb-true (word p 8) 16 (and_right (leb (word p 6) 64) _ f) }

module _ (p s : List ℕ) (long : 8192 ≤ length p) where
  -- the file is longer than any diagram file: 6 behind the last row
  rows-over : (items : List Item) (g : Got (List Row)) → 1 ≤ length g.rest
      → after_rows (p ++ s) items (record { value = g.value; rest = g.rest ++ s }) ≡ after_rows p items g
  unfolding after_rows
  rows-over items g l = rw (ne_eqb (length (g.rest ++ s)) 0 (λ z. let e = length-append g.rest s in omega arith), ne_eqb (length g.rest) 0 (λ z. omega arith))
      (let a = length-append p s in let b = length-append g.rest s in let e : length (p ++ s) - length (g.rest ++ s) ≡ length p - length g.rest = omega arith in ap (refused 6) e)

  module _ (few : Few p) where
    row-total : spent 104 (word p 6) ≤ 6656
    row-total = spent-most 104 (word p 6) 64 few.rows

    item-total : spent 6 (word p 8) ≤ 96
    item-total = spent-most 6 (word p 8) 16 few.items

    items-over : (g : Got (List Item)) → length g.value ≤ 16 → length p ≤ length g.rest + 106
        → after_items (p ++ s) (record { value = g.value; rest = g.rest ++ s }) ≡ after_items p g
    unfolding after_items
    items-over g many l =
        ap (λ (n : ℕ). and_then (read_many fault row_at (length (p ++ s)) n (g.rest ++ s)) (after_rows (p ++ s) g.value)) (word_same p s 6 (omega arith))
        ∙ (ap (λ (o : Outcome (Got (List Row))). and_then o (after_rows (p ++ s) g.value))
        (ap (λ (n : ℕ). read_many fault row_at n (word p 6) (g.rest ++ s)) (length-append p s)
        ∙ many-same fault row_at 104 (row-in-same g.value many) clean valued (word p 6) (length p) g.rest s (omega arith) enough)
        ∙ after (read_many fault row_at (length p) (word p 6) g.rest) refl)
      where
        fault : List ℕ → ℕ
        fault = row_fault_in g.value

        clean : (q : List ℕ) → fault q ≡ 0 → length_at q ≤ 104
        clean q e = row-clean (length g.value) many q (unfaulted g.value many q e)

        valued : (q r : List ℕ) → 104 ≤ length q → fault q ≡ 0 → row_at (q ++ r) ≡ row_at q
        valued q r m e = row-valued g.value many q r m (unfaulted g.value many q e)

        enough : spent 104 (word p 6) + 104 ≤ length g.rest
        enough = let a = row-total in omega arith

        after : (o : Outcome (Got (List Row))) → read_many fault row_at (length p) (word p 6) g.rest ≡ o
            → and_then (extended s o) (after_rows (p ++ s) g.value) ≡ and_then o (after_rows p g.value)
        after (accepted h) e = rows-over g.value h
            (let a = row-total in let b = many-left fault row_at 104 (row-in-same g.value many) clean valued (word p 6) (length p) g.rest h enough e in omega arith)
        after (refused number value) e = refl

    items-same : and_then (read_many item_fault item_at (length (p ++ s)) (word (p ++ s) 8) (drop 10 (p ++ s))) (after_items (p ++ s))
        ≡ and_then (read_many item_fault item_at (length p) (word p 8) (drop 10 p)) (after_items p)
    items-same = ap (λ (o : Outcome (Got (List Item))). and_then o (after_items (p ++ s)))
        (ap (λ (n : ℕ). read_many item_fault item_at (length (p ++ s)) n (drop 10 (p ++ s))) (word_same p s 8 (omega arith))
        ∙ (ap₂ (λ (n : ℕ) (r : List ℕ). read_many item_fault item_at n (word p 8) r) (length-append p s) (drop-append-le 10 p s (omega arith))
        ∙ many-same item_fault item_at 6 item-same item-clean valued (word p 8) (length p) (drop 10 p) s (omega arith) enough))
        ∙ after (read_many item_fault item_at (length p) (word p 8) (drop 10 p)) refl
      where
        valued : (q r : List ℕ) → 104 ≤ length q → item_fault q ≡ 0 → item_at (q ++ r) ≡ item_at q
        valued q r m e = ap₂ (λ (n k : ℕ). item_of n (eqb k 3)) (word_same q r 4 (omega arith)) (word_same q r 2 (omega arith))

        enough : spent 6 (word p 8) + 104 ≤ length (drop 10 p)
        enough = let a = item-total in let b = length-drop 10 p in omega arith

        after : (o : Outcome (Got (List Item))) → read_many item_fault item_at (length p) (word p 8) (drop 10 p) ≡ o → and_then (extended s o) (after_items (p ++ s)) ≡ and_then o (after_items p)
        after (accepted g) e = items-over g
            (let n = many-length item_fault item_at 6 item-same item-clean valued (word p 8) (length p) (drop 10 p) g e in let f = few.items in omega arith)
            (let a = item-total in let b = length-drop 10 p in let c = many-left item_fault item_at 6 item-same item-clean valued (word p 8) (length p) (drop 10 p) g enough e in omega arith)
        after (refused number value) e = refl

  more_same : read_diagram (p ++ s) ≡ read_diagram p
  unfolding read_diagram
  more_same = unless-same (head_fault (p ++ s)) (head_fault p) 0 0 _ _ (head-same p s (omega arith)) refl (λ e. items-same (head-clean p e))

-- THEOREM: the first 8,192 bytes decide what is read of a longer file
pub prefix-decides : (file : List ℕ) → 8192 ≤ length file → read_diagram (take 8192 file) ≡ read_diagram file
prefix-decides file l = sym (more_same (take 8192 file) (drop 8192 file) (let e = length-take-le 8192 file l in omega arith)) ∙ ap read_diagram (take-append-drop 8192 file)

-- THEOREM: a program that reads 8,192 bytes of its input at most prints the text of the whole input
pub annex-prefix : (room : ℕ) (file : List ℕ) → annex_in room (take 8192 file) ≡ annex_in room file
unfolding annex_in
annex-prefix room file = decide (leb 8192 (length file))
    (λ e. rw (prefix-decides file (leb-true 8192 (length file) e)))
    (λ e. ap (annex_in room) (take_all 8192 file (let z = leb-false 8192 (length file) e in omega arith)))
