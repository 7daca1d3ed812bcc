-- Numbers counted and found row by row.
use Prim.Native.Nat.{ℕ, zero, suc, ◌+◌, ◌≤◌, ◌<◌}
use mathlib.Core.Path.{◌≡◌, refl, sym, ◌∙◌, ap}
use mathlib.Core.Logic.{◌≢◌}
use mathlib.Core.Bool.{Bool, true, false, not, cond, ◌&&◌, and-false}
use native.Mathlib.Omega.{arith}
use native.Mathlib.Numerals.{add-one}
use lib.Dec.{ltb, eqb}
use borrow.Author.Tests.{eqb-true, eqb-false, eq-eqb, ne_eqb, ltb-true, ltb-false, lt-ltb, le-ltb}
use Rattle.effbd.specs.Ranges.{all_below, how_many, least}
use Rattle.ranges.specs.Tests.{decide, clash, and_intro, and_left, not-true, not-false}
use Rattle.ranges.specs.RangeLaws.{all-elim, all-find, least-found, least-is, least-none}

pub many-yes : (n : ℕ) (f : ℕ → Bool) → f n ≡ true → how_many (suc n) f ≡ how_many n f + 1
many-yes n f t = rw t (omega arith)

pub many-no : (n : ℕ) (f : ℕ → Bool) → f n ≡ false → how_many (suc n) f ≡ how_many n f
many-no n f t = rw t (omega arith)

pub count-more : (n : ℕ) (f : ℕ → Bool) {c : ℕ} → f n ≡ true → c ≡ how_many n f → c + 1 ≡ how_many (n + 1) f
count-more n f t e = ap (λ (x : ℕ). x + 1) e ∙ (sym (many-yes n f t) ∙ ap (λ (x : ℕ). how_many x f) (sym (add-one n)))

pub count_same : (n : ℕ) (f : ℕ → Bool) {c : ℕ} → f n ≡ false → c ≡ how_many n f → c ≡ how_many (n + 1) f
count_same n f t e = e ∙ (sym (many-no n f t) ∙ ap (λ (x : ℕ). how_many x f) (sym (add-one n)))

pub many-none : (n : ℕ) (f : ℕ → Bool) → ((i : ℕ) → i < n → f i ≡ false) → how_many n f ≡ 0
many-none zero f h = refl
many-none (suc n) f h = many-no n f (h n (omega arith)) ∙ many-none n f (λ i l. h i (omega arith))

pub many-up : (n k : ℕ) (f : ℕ → Bool) → n ≤ k → how_many n f ≤ how_many k f
many-up n zero f l = let z : n ≡ 0 = omega arith in rw z (omega arith)
many-up n (suc k) f l = decide (eqb n (suc k)) (λ e. rw (eqb-true n (suc k) e) (omega arith))
    (λ e. let ne = eqb-false n (suc k) e in let a = many-up n k f (omega arith) in
    decide (f k) (λ t. rw (many-yes k f t) (omega arith)) (λ t. rw (many-no k f t) a))

-- the number that so many before it pass is there once, or not at all
abbrev pub nth : (n : ℕ) (f : ℕ → Bool) → ℕ → Bool
nth n f b = f b && eqb (how_many b f) n

pub nth-once : (m n : ℕ) (f : ℕ → Bool) → how_many m (nth n f) ≡ cond (ltb n (how_many m f)) 1 0
nth-once zero n f = rw (le-ltb n 0 (omega arith))
nth-once (suc m) n f = decide (f m)
    (λ t. decide (eqb (how_many m f) n)
    (λ e. let z = eqb-true (how_many m f) n e in
    many-yes m (nth n f) (rw (t, e)) ∙ rw (nth-once m n f, many-yes m f t, le-ltb n (how_many m f) (omega arith), lt-ltb n (how_many m f + 1) (omega arith)))
    (λ e. let z = eqb-false (how_many m f) n e in
    many-no m (nth n f) (rw (t, e)) ∙ (nth-once m n f ∙ rw (many-yes m f t) (ap (λ (b : Bool). cond {A = ℕ} b 1 0) (decide (ltb n (how_many m f))
    (λ l. let w = ltb-true n (how_many m f) l in l ∙ sym (lt-ltb n (how_many m f + 1) (omega arith)))
    (λ l. let w = ltb-false n (how_many m f) l in l ∙ sym (le-ltb n (how_many m f + 1) (omega arith))))))))
    (λ t. many-no m (nth n f) (rw t) ∙ (nth-once m n f ∙ rw (many-no m f t)))

pub first-nth : (m : ℕ) (f : ℕ → Bool) → least m (nth 0 f) ≡ least m f
first-nth m f = least-same m (nth 0 f) f (λ i h. and_left (f i) _ h) (λ i h none. and_intro h (eq-eqb (how_many i f) 0 (many-none i f none)))
  where
    least-same : (m : ℕ) (g f : ℕ → Bool) → ((i : ℕ) → g i ≡ true → f i ≡ true) → ((i : ℕ) → f i ≡ true → ((j : ℕ) → j < i → f j ≡ false) → g i ≡ true) → least m g ≡ least m f
    least-same m g f down up = decide (all_below m (λ i. not (f i)))
        (λ a. least-none m g (λ i l. decide (g i) (λ t. clash (down i t) (not-true (f i) (all-elim m (λ j. not (f j)) a i l))) (λ t. t))
        ∙ sym (least-none m f (λ i l. not-true (f i) (all-elim m (λ j. not (f j)) a i l))))
        (λ a. let w = all-find m (λ i. not (f i)) a in let found = least-found m f w.0 w.1 (not-false (f w.0) w.2) in
        let low : least m f < m = (let x = found.1 in let y = w.1 in omega arith) in
        let before : (j : ℕ) → j < least m f → f j ≡ false = λ j l. decide (f j) (λ t. let y = (least-found m f j (omega arith) t).1 in absurd (omega arith)) (λ t. t) in
        least-is m g (least m f) low (up (least m f) found.0 before) (λ j l. decide (g j) (λ t. clash (down j t) (before j l)) (λ t. t)))

-- the row with that number is looked for row by row
pub below_next : (row : ℕ) (g : ℕ → Bool) → ((j : ℕ) → j < row → g j ≡ false) → g row ≡ false → (j : ℕ) → j < row + 1 → g j ≡ false
below_next row g h e j l = decide (eqb j row) (λ z. ap g (eqb-true j row z) ∙ e) (λ z. let ne = eqb-false j row z in h j (omega arith))

pub nth-found : (m n row seen : ℕ) (f : ℕ → Bool) → row < m → f row ≡ true → seen ≡ how_many row f → seen ≡ n → ((j : ℕ) → j < row → nth n f j ≡ false) → row ≡ least m (nth n f)
nth-found m n row seen f l t s e h = sym (least-is m (nth n f) row l (and_intro t (eq-eqb (how_many row f) n (sym s ∙ e))) h)

pub nth-other : (n row seen : ℕ) (f : ℕ → Bool) → seen ≡ how_many row f → seen ≢ n → nth n f row ≡ false
nth-other n row seen f s ne = rw (ne_eqb (how_many row f) n (λ z. ne (s ∙ z)), and-false (f row))

pub true-next : (row : ℕ) (g : ℕ → Bool) → ((q : ℕ) → q < row → g q ≡ true) → g row ≡ true → (q : ℕ) → q < row + 1 → g q ≡ true
true-next row g h e q l = decide (eqb q row) (λ z. ap g (eqb-true q row z) ∙ e) (λ z. let ne = eqb-false q row z in h q (omega arith))
