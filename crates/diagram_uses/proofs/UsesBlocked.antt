-- The first use that is stopped, one use after another; how long a row's uses can be.
use Rattle.std.specs.Prelude.{max}
use Prim.Native.Nat.{ℕ, zero, suc, ◌+◌, ◌-◌, ◌*◌, ◌≤◌, ◌<◌, zero-le}
use mathlib.Core.Path.{◌≡◌, refl, sym, ◌∙◌, ap}
use mathlib.Core.Bool.{Bool, true, false, not, cond, ◌&&◌}
use mathlib.Core.List.{List}
use native.Mathlib.Omega.{arith}
use native.Mathlib.Numerals.{add-one}
use lib.ListN.{length, get_or, take, drop, length-drop}
use Rattle.std.proofs.lemmas.List.{take_all}
use lib.Seq.{length-take-le}
use lib.Dec.{leb, ltb}
use mathlib.Core.Logic.{◌≢◌}
use borrow.Author.Tests.{leb-true, ltb-true, ltb-false, lt-ltb, le-ltb}
use Rattle.effbd.specs.Records.{word}
use Rattle.ranges.specs.Tests.{decide}
use Rattle.diagram_table.specs.Cells.{run_length, uses_bytes, uses_number_in, uses_of, uses_start_in}
use Rattle.diagram_table.proofs.UsesWalked.{uses-next, uses-over}
use Rattle.diagram_moves.specs.Decisions.{count_place, exceeds, count_allows, run_blocked, most_of, blocked_item, use_blocked}
use Rattle.effbd.specs.Ranges.{all_below}
use Rattle.effbd.specs.Moves.{most_word}

-- use j of row r stands at the front of `rest`; w and y are its item and its amount
module _ (table : List ℕ) (giving : Bool) (rows items : ℕ) (l : List ℕ) (r j : ℕ) (rest : List ℕ) (b : 6 ≤ length rest) (w y : ℕ) (t : Bool)
    (item : w ≡ word rest 0) (amount : y ≡ cond giving (word rest 4) (word rest 2)) (test : t ≡ use_blocked table giving rows l r j w y) where
  blocked-turn : blocked_item table giving rows items l r j (uses_of rest) ≡ cond t w (blocked_item table giving rows items l r (j + 1) (uses_of (drop 6 rest)))
  unfolding blocked_item
  blocked-turn = rw (uses-next rest b, blocked_item, ← item, ← amount, ← test)

  pub blocked-hit : t ≡ true → w ≡ blocked_item table giving rows items l r j (uses_of rest)
  blocked-hit h = sym (blocked-turn ∙ rw h)

  pub blocked-miss : (more : List ℕ) → more ≡ drop 6 rest → t ≡ false → blocked_item table giving rows items l r (j + 1) (uses_of more) ≡ blocked_item table giving rows items l r j (uses_of rest)
  blocked-miss more e h = ap (λ (m : List ℕ). blocked_item table giving rows items l r (j + 1) (uses_of m)) e ∙ sym (blocked-turn ∙ rw h)

pub blocked-none : (table : List ℕ) (giving : Bool) (rows items : ℕ) (l : List ℕ) (r j : ℕ) (rest : List ℕ) → length rest < 6 → items ≡ blocked_item table giving rows items l r j (uses_of rest)
unfolding blocked_item
blocked-none table giving rows items l r j rest b = rw (uses-over rest b)

-- a row has no more uses than its number
uses_few : (table file : List ℕ) (r : ℕ) → length (uses_bytes table file r) ≤ 6 * uses_number_in table r
unfolding uses_bytes
uses_few table file r = decide (leb (uses_start_in table r + 6 * uses_number_in table r) (length file))
    (λ y. let b = leb-true (uses_start_in table r + 6 * uses_number_in table r) (length file) y in
    rw (y, length-take-le (6 * uses_number_in table r) (drop (uses_start_in table r) file) (omega (arith, length-drop (uses_start_in table r) file))) (omega arith))
    (λ y. rw y (omega arith))

pub uses-whole : (table file : List ℕ) (r number : ℕ) → number ≡ uses_number_in table r → take (6 * number) (uses_bytes table file r) ≡ uses_bytes table file r
uses-whole table file r number e = take_all (6 * number) (uses_bytes table file r) (rw e (uses_few table file r))

-- a run of one count
pub one-blocked : (giving : Bool) (rows first amount : ℕ) (words : List ℕ) {n x : ℕ} {e : Bool} → n ≡ 1 → x ≡ get_or words (count_place rows (first + 0)) 0 → e ≡ exceeds giving x amount
    → e ≡ run_blocked giving rows first amount n words
unfolding run_blocked count_allows
one-blocked giving rows first amount words l ex ee = rw (l, ee, ex) (go (exceeds giving (get_or words (count_place rows (first + 0)) 0) amount))
  where
    go : (b : Bool) → b ≡ not (not b && true)
    go true = refl
    go false = refl

-- a give is stopped by some count exactly if the largest stops it
pub most-blocked : (rows first amount : ℕ) (words : List ℕ) (n : ℕ) → run_blocked true rows first amount n words ≡ exceeds true (most_of rows first words n) amount
unfolding run_blocked count_allows exceeds most_of
most-blocked rows first amount words zero = sym (le-ltb (most_word - amount) 0 zero-le)
most-blocked rows first amount words (suc n) = go (most-blocked rows first amount words n)
  where
    x : ℕ
    x = most_word - amount

    c : ℕ
    c = get_or words (count_place rows (first + n)) 0

    m : ℕ
    m = most_of rows first words n

    go : not (all_below n (count_allows true rows first amount words)) ≡ ltb x m → not (not (ltb x c) && all_below n (count_allows true rows first amount words)) ≡ ltb x (cond (ltb m c) c m)
    go h = decide (ltb m c)
        (λ e. let l = ltb-true m c e in rw e (decide (ltb x c) (λ f. rw f) (λ f. let g = ltb-false x c f in rw f (h ∙ le-ltb x m (omega arith)))))
        (λ e. let l = ltb-false m c e in rw e (decide (ltb x c) (λ f. let g = ltb-true x c f in rw f (sym (lt-ltb x m (omega arith)))) (λ f. rw f h)))

pub give-is : (rows first amount : ℕ) (words : List ℕ) (n : ℕ) {most : ℕ} {e : Bool} → most ≡ most_of rows first words n → e ≡ exceeds true most amount → e ≡ run_blocked true rows first amount n words
give-is rows first amount words n em ee = ee ∙ (ap (λ (x : ℕ). exceeds true x amount) em ∙ sym (most-blocked rows first amount words n))

-- only a give changes another number of counts than one
pub more_given : (table : List ℕ) (giving : Bool) (k : ℕ) {n : ℕ} → n ≡ run_length table giving k → n ≢ 1 → giving ≡ true
unfolding run_length
more_given table true k e ne = refl
more_given table false k e ne = absurd (ne e)

-- the largest, one count after another
pub larger_is : (most count : ℕ) → max most count ≡ cond (ltb most count) count most
larger_is most count = decide (ltb most count)
    (λ e. let l = ltb-true most count e in rw e (omega arith))
    (λ e. let l = ltb-false most count e in rw e (omega arith))

pub most-none : (rows first : ℕ) (words : List ℕ) → 0 ≡ most_of rows first words 0
unfolding most_of
most-none rows first words = refl

pub most-more : (rows first : ℕ) (words : List ℕ) (i : ℕ) {most count next : ℕ} → most ≡ most_of rows first words i → count ≡ get_or words (count_place rows (first + i)) 0 → next ≡ cond (ltb most count) count most
    → next ≡ most_of rows first words (i + 1)
unfolding most_of
most-more rows first words i em ec en = en ∙ (rw (em, ec) refl ∙ ap (most_of rows first words) (sym (add-one i)))
