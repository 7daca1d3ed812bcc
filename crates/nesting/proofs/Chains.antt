-- Tests and counts over a range, as chains of iterators make them.
use Rattle.std.specs.Prelude.{ℕ, zero, suc, ◌+◌, ◌-◌, ◌≤◌, ◌<◌, ◌≡◌, refl, Bool, true, false, not, cond, ◌&&◌, length, filter, leb, eqb}
use Rattle.std.specs.List.{range_with_len, list_all, list_any}
use Rattle.std.proofs.Common.{sym, ◌∙◌, ap, arith, eqb-true}
use borrow.Author.Tests.{eqb-false, le-leb, leb-true}
use Rattle.effbd.specs.Ranges.{all_below, how_many}
use Rattle.ranges.specs.Tests.{decide, and_left, and_right, not-true, not-false, or_left, or_right, or-neither}
use Rattle.ranges.specs.RangeLaws.{all-elim, all-ext, all-find, all-front}

-- a count from the front
many-front : (n : ℕ) (f : ℕ → Bool) → how_many (suc n) f ≡ cond (f 0) 1 0 + how_many n (λ i. f (suc i))
many-front zero f = refl
many-front (suc n) f = let h = many-front n f in omega arith

pub many-ext : (n : ℕ) (f g : ℕ → Bool) → ((i : ℕ) → i < n → f i ≡ g i) → how_many n f ≡ how_many n g
many-ext zero f g h = refl
many-ext (suc n) f g h = rw (h n (omega arith), many-ext n f g (λ i l. h i (omega arith)))

filtered-from : (a n : ℕ) (f : ℕ → Bool) → length (filter f (range_with_len a n)) ≡ how_many n (λ i. f (a + i))
filtered-from a zero f = refl
filtered-from a (suc n) f =
    let ih = filtered-from (a + 1) n f ∙ many-ext n (λ i. f (a + 1 + i)) (λ i. f (a + suc i)) (λ i l. ap f (omega arith)) in
    let z : a + 0 ≡ a = omega arith in
    sym (many-front n (λ i. f (a + i)) ∙ rw z (decide (f a) (λ e. rw e (omega (arith, ih))) (λ e. rw e (omega (arith, ih)))))

passing-from : (a n : ℕ) (f : ℕ → Bool) → list_all f (range_with_len a n) ≡ all_below n (λ i. f (a + i))
passing-from a zero f = refl
passing-from a (suc n) f =
    let z : a + 0 ≡ a = omega arith in
    ap (λ (b : Bool). f a && b) (passing-from (a + 1) n f ∙ all-ext n (λ i. f (a + 1 + i)) (λ i. f (a + suc i)) (λ i l. ap f (omega arith))) ∙ sym (all-front n (λ i. f (a + i)) ∙ rw z refl)

pub range-filtered : (n : ℕ) (f : ℕ → Bool) → length (filter f (range_with_len 0 n)) ≡ how_many n f
range-filtered n f = filtered-from 0 n f ∙ many-ext n (λ i. f (0 + i)) f (λ i l. ap f (omega arith))

pub range-all : (n : ℕ) (f : ℕ → Bool) → list_all f (range_with_len 0 n) ≡ all_below n f
range-all n f = passing-from 0 n f ∙ all-ext n (λ i. f (0 + i)) f (λ i l. ap f (omega arith))

any-yes : (a n : ℕ) (f : ℕ → Bool) (i : ℕ) → a ≤ i → i < a + n → f i ≡ true → list_any f (range_with_len a n) ≡ true
any-yes a zero f i l h e = absurd (omega arith)
any-yes a (suc n) f i l h e = decide (eqb i a)
    (λ z. or_left (list_any f (range_with_len (a + 1) n)) (ap f (sym (eqb-true i a z)) ∙ e))
    (λ z. let ne = eqb-false i a z in or_right (f a) (any-yes (a + 1) n f i (omega arith) (omega arith) e))

any-no : (a n : ℕ) (f : ℕ → Bool) → ((i : ℕ) → a ≤ i → i < a + n → f i ≡ false) → list_any f (range_with_len a n) ≡ false
any-no a zero f h = refl
any-no a (suc n) f h = or-neither (h a (omega arith) (omega arith)) (any-no (a + 1) n f (λ i l m. h i (omega arith) (omega arith)))

pub range-any : (a b : ℕ) (f : ℕ → Bool) → list_any f (range_with_len a (b - a)) ≡ not (all_below b (λ q. not (leb a q && f q)))
range-any a b f = decide (all_below b stays)
    (λ e. rw e (any-no a (b - a) f (λ i l m. free i (le-leb a i l) (all-elim b stays e i (omega arith)))))
    (λ e. let w = all-find b stays e in
    let h = not-false (leb a w.0 && f w.0) w.2 in
    let l = leb-true a w.0 (and_left (leb a w.0) (f w.0) h) in
    let m = w.1 in
    rw e (any-yes a (b - a) f w.0 l (omega arith) (and_right (leb a w.0) (f w.0) h)))
  where
    stays : ℕ → Bool
    stays q = not (leb a q && f q)

    free : (i : ℕ) → leb a i ≡ true → stays i ≡ true → f i ≡ false
    free i l e = not-true (f i) (rw l at e)
