-- Bounded tests, the least number that passes, tables, tails.
use Rattle.std.specs.Prelude.{ℕ, zero, suc, ◌+◌, ◌-◌, ◌≤◌, ◌<◌, ◌≡◌, refl, ◌≢◌, Bool, true, false, ◌&&◌, List, ◌∷◌, length, get_or, take, drop, eqb}
use Rattle.std.proofs.Common.{zero-le, sym, ◌∙◌, ap, ap₂, arith, zero-add, suc-add, le_of_eq, length-drop, take_all, eqb-true, eq-eqb}
use Rattle.std.proofs.lemmas.Bool.{eqb-false}
use Rattle.effbd.specs.Ranges.{all_below, how_many, least, only, tabulate}
use Rattle.ranges.specs.Tests.{decide, clash, and_left, and_right, and_intro}

pub all-intro : (n : ℕ) (f : ℕ → Bool) → ((i : ℕ) → i < n → f i ≡ true) → all_below n f ≡ true
all-intro zero f h = refl
all-intro (suc n) f h = and_intro (h n (omega arith)) (all-intro n f (λ i l. h i (omega arith)))

pub all-elim : (n : ℕ) (f : ℕ → Bool) → all_below n f ≡ true → (i : ℕ) → i < n → f i ≡ true
all-elim zero f e i l = absurd (omega arith)
all-elim (suc n) f e i l = decide (eqb i n)
    (λ q. rw (eqb-true i n q) (and_left (f n) (all_below n f) e))
    (λ q. let ne : i ≢ n = eqb-false i n q in all-elim n f (and_right (f n) (all_below n f) e) i (omega arith))

pub all-fail : (n : ℕ) (f : ℕ → Bool) (i : ℕ) → i < n → f i ≡ false → all_below n f ≡ false
all-fail n f i l e = decide (all_below n f) (λ q. clash (all-elim n f q i l) e) (λ q. q)

pub all-find : (n : ℕ) (f : ℕ → Bool) → all_below n f ≡ false → (i : ℕ) × (i < n) × (f i ≡ false)
all-find zero f e = clash refl e
all-find (suc n) f e = decide (f n)
    (λ t. let w = all-find n f (rw t at e) in (w.0, (let l = w.1 in omega arith), w.2))
    (λ t. (n, omega arith, t))

pub all-ext : (n : ℕ) (f g : ℕ → Bool) → ((i : ℕ) → i < n → f i ≡ g i) → all_below n f ≡ all_below n g
all-ext zero f g h = refl
all-ext (suc n) f g h = ap₂ ◌&&◌ (h n (omega arith)) (all-ext n f g (λ i l. h i (omega arith)))

-- where some number passes, one is found
pub many-find : (n : ℕ) (f : ℕ → Bool) → how_many n f ≢ 0 → (i : ℕ) × (i < n) × (f i ≡ true)
many-find zero f h = absurd (h refl)
many-find (suc n) f h = decide (f n)
    (λ t. (n, omega arith, t))
    (λ t. let w = many-find n f (λ z. h (rw (t, z))) in (w.0, (let l = w.1 in omega arith), w.2))

pub many-le : (n : ℕ) (f : ℕ → Bool) → how_many n f ≤ n
many-le zero f = zero-le
many-le (suc n) f = let a = many-le n f in decide (f n) (λ t. rw t (omega arith)) (λ t. rw t (omega arith))

-- two tests that differ at one number only, where the second passes
pub all_but : (n : ℕ) (f g : ℕ → Bool) (q : ℕ) → q < n → g q ≡ true → ((i : ℕ) → i < n → (i ≡ q → ⊥) → f i ≡ g i) → all_below n f ≡ (f q && all_below n g)
all_but n f g q l e h = decide (f q)
    (λ t. rw t (all-ext n f g (λ i m. decide (eqb i q)
    (λ z. let y = eqb-true i q z in rw y (t ∙ sym e)) (λ z. h i m (eqb-false i q z)))))
    (λ t. rw t (all-fail n f q l t))

-- a bounded test, from the front
pub all-front : (n : ℕ) (f : ℕ → Bool) → all_below (suc n) f ≡ (f zero && all_below n (λ i. f (suc i)))
all-front zero f = refl
all-front (suc n) f = ap (λ (b : Bool). f (suc n) && b) (all-front n f) ∙ swap (f (suc n)) (f zero) (all_below n (λ i. f (suc i)))
  where
    swap : (a b c : Bool) → (a && (b && c)) ≡ (b && (a && c))
    swap true b c = refl
    swap false true c = refl
    swap false false c = refl

pub only-refl : (r : ℕ) → only r r ≡ true
only-refl r = eq-eqb r r refl

pub least-found : (n : ℕ) (f : ℕ → Bool) (i : ℕ) → i < n → f i ≡ true → (f (least n f) ≡ true) × (least n f ≤ i)
least-found zero f i l e = absurd (omega arith)
least-found (suc n) f i l e = go (λ j m z. least-found n (λ x. f (suc x)) j m z) (f zero) refl i l e
  where
    go : ((j : ℕ) → j < n → f (suc j) ≡ true → (f (suc (least n (λ x. f (suc x)))) ≡ true) × (least n (λ x. f (suc x)) ≤ j)) → (b : Bool) → f zero ≡ b → (i : ℕ) → i < suc n → f i ≡ true
        → (f (elim b [ true ↦ zero | false ↦ suc (least n (λ j. f (suc j))) ]) ≡ true) × ((elim b as (λ x. ℕ) [ true ↦ zero | false ↦ suc (least n (λ j. f (suc j))) ]) ≤ i)
    go ih true z i l e = (z, zero-le)
    go ih false z zero l e = clash e z
    go ih false z (suc i) l e = let w = ih i (omega arith) e in (w.0, (let h = w.1 in omega arith))

-- the least number that passes
pub least-is : (n : ℕ) (f : ℕ → Bool) (i : ℕ) → i < n → f i ≡ true → ((j : ℕ) → j < i → f j ≡ false) → least n f ≡ i
least-is zero f i l e h = absurd (omega arith)
least-is (suc n) f zero l e h = rw (least, e)
least-is (suc n) f (suc i) l e h = rw (least, h 0 (omega arith)) (ap suc (least-is n (λ j. f (suc j)) i (omega arith) e (λ j z. h (suc j) (omega arith))))

pub least-low : (n : ℕ) (f : ℕ → Bool) → least n f ≤ n
least-low zero f = omega arith
least-low (suc n) f = decide (f zero) (λ e. rw (least, e) zero-le) (λ e. rw (least, e) (let h = least-low n (λ j. f (suc j)) in omega arith))

pub least-none : (n : ℕ) (f : ℕ → Bool) → ((j : ℕ) → j < n → f j ≡ false) → least n f ≡ n
least-none zero f h = refl
least-none (suc n) f h = rw (least, h 0 (omega arith)) (ap suc (least-none n (λ j. f (suc j)) (λ j z. h (suc j) (omega arith))))

pub least-ext : (n : ℕ) (f g : ℕ → Bool) → ((i : ℕ) → i < n → f i ≡ g i) → least n f ≡ least n g
least-ext zero f g h = refl
least-ext (suc n) f g h =
    ap₂ (λ (b : Bool) (x : ℕ). elim b as (λ y. ℕ) [ true ↦ zero | false ↦ suc x ]) (h zero (omega arith)) (least-ext n (λ i. f (suc i)) (λ i. g (suc i)) (λ i l. h (suc i) (omega arith)))

-- nothing below n passes: the least is among what follows
pub least-past : (n m : ℕ) (f g : ℕ → Bool) → ((i : ℕ) → i < n → f i ≡ false) → ((k : ℕ) → k < m → f (n + k) ≡ g k) → least (n + m) f ≡ n + least m g
least-past zero m f g h k = ap (λ x. least x f) (zero-add m) ∙ (least-ext m f g (λ i l. ap f (sym (zero-add i)) ∙ k i l) ∙ sym (zero-add (least m g)))
least-past (suc n) m f g h k = ap (λ x. least x f) (suc-add n m)
    ∙ (ap (λ (b : Bool). elim b as (λ y. ℕ) [ true ↦ zero | false ↦ suc (least (n + m) (λ i. f (suc i))) ]) (h zero (omega arith))
    ∙ (ap suc (least-past n m (λ i. f (suc i)) g (λ i l. h (suc i) (omega arith)) (λ i l. ap f (sym (suc-add n i)) ∙ k i l)) ∙ sym (suc-add n (least m g))))

pub get_d-tab : {A : Type 0} (n : ℕ) (f : ℕ → A) (i : ℕ) (z : A) → i < n → get_or (tabulate n f) i z ≡ f i
get_d-tab zero f i z l = absurd (omega arith)
get_d-tab (suc n) f zero z l = refl
get_d-tab (suc n) f (suc i) z l = get_d-tab n (λ x. f (suc x)) i z (omega arith)

pub length-tab : {A : Type 0} (n : ℕ) (f : ℕ → A) → length (tabulate n f) ≡ n
length-tab zero f = refl
length-tab (suc n) f = ap suc (length-tab n (λ x. f (suc x)))

pub tab-ext : {A : Type 0} (n : ℕ) (f g : ℕ → A) → ((i : ℕ) → i < n → f i ≡ g i) → tabulate n f ≡ tabulate n g
tab-ext zero f g h = refl
tab-ext (suc n) f g h = ap₂ ◌∷◌ (h zero (omega arith)) (tab-ext n (λ x. f (suc x)) (λ x. g (suc x)) (λ i l. h (suc i) (omega arith)))

-- the tail that is lent is what follows
pub tail-is : (n : ℕ) (l : List ℕ) → take (length l - n) (drop n l) ≡ drop n l
tail-is n l = take_all (length l - n) (drop n l) (le_of_eq (length-drop n l))
