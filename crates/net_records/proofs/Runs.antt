-- What loops write: turns that write nothing, one that writes, rows of three places.
use Rattle.std.proofs.Common.{ℕ, zero, suc, ◌+◌, ◌-◌, ◌*◌, ◌≤◌, ◌<◌, ◌≡◌, refl, ap₂, sym, ◌∙◌, ◌≢◌, [], ◌++◌, append_assoc, append-nil, arith, add-zero, add-suc, eqb, eqb-true}
use Rattle.std.proofs.lemmas.Bool.{eqb-false}
use Rattle.ranges.specs.Tests.{decide}
use Rattle.net_records.specs.Writing.{Records, runs, span}

pub runs_same : (f g : ℕ → Records) (n : ℕ) → ((i : ℕ) → i < n → f i ≡ g i) → runs f n ≡ runs g n
unfolding runs
runs_same f g zero h = refl
runs_same f g (suc n) h = ap₂ ◌++◌ (runs_same f g n (λ i l. h i (omega arith))) (h n (omega arith))

pub runs_none : (f : ℕ → Records) (n : ℕ) → ((i : ℕ) → i < n → f i ≡ []) → runs f n ≡ []
unfolding runs
runs_none f zero h = refl
runs_none f (suc n) h = rw (runs_none f n (λ i l. h i (omega arith)), h n (omega arith))

-- turns in two parts
pub runs-plus : (f : ℕ → Records) (m n : ℕ) → runs f (m + n) ≡ runs f m ++ runs (λ i. f (m + i)) n
unfolding runs
runs-plus f m zero = rw add-zero (sym (append-nil (runs f m)))
runs-plus f m (suc n) = rw (add-suc, runs-plus f m n) (append_assoc (runs f m) (runs (λ i. f (m + i)) n) (f (m + n)))

-- the first turn before the others
pub runs-front : (f : ℕ → Records) (n : ℕ) → runs f (suc n) ≡ f 0 ++ runs (λ i. f (suc i)) n
unfolding runs
runs-front f zero = sym (append-nil (f 0))
runs-front f (suc n) = rw (runs-front f n) (append_assoc (f 0) (runs (λ i. f (suc i)) n) (f (suc n)))

-- `a` writes at e only, `b` nothing before e: what `a` writes comes first
pub runs-first : (a b : ℕ → Records) (e n : ℕ) → e < n → ((i : ℕ) → i ≢ e → a i ≡ []) → ((i : ℕ) → i < e → b i ≡ [])
    → runs (λ i. a i ++ b i) n ≡ a e ++ runs b n
unfolding runs
runs-first a b e zero l h g = absurd (omega arith)
runs-first a b e (suc n) l h g = decide (eqb n e)
    (λ z. let w = eqb-true n e z in
    rw (w, runs_none (λ i. a i ++ b i) e (λ i m. rw (h i (omega arith), g i m)), runs_none b e g))
    (λ z. let w = eqb-false n e z in
    rw (runs-first a b e n (omega arith) h g, h n w) (append_assoc (a e) (runs b n) (b n)))

-- `b` nothing from e on: it comes last
pub runs_last : (a b : ℕ → Records) (e n : ℕ) → e < n → ((i : ℕ) → i ≢ e → a i ≡ []) → ((i : ℕ) → e ≤ i → b i ≡ [])
    → runs (λ i. a i ++ b i) n ≡ runs b n ++ a e
unfolding runs
runs_last a b e zero l h g = absurd (omega arith)
runs_last a b e (suc n) l h g = decide (eqb n e)
    (λ z. let w = eqb-true n e z in
    rw (w, runs_same (λ i. a i ++ b i) b e (λ i m. rw (h i (omega arith))), g e (omega arith), append-nil, append-nil))
    (λ z. let w = eqb-false n e z in
    rw (runs_last a b e n (omega arith) h g, h n w, g n (omega arith), append-nil, append-nil))

-- only turn e writes
pub runs-one : (f : ℕ → Records) (e n : ℕ) → e < n → ((i : ℕ) → i ≢ e → f i ≡ []) → runs f n ≡ f e
runs-one f e n l h = runs_same f (λ i. f i ++ []) n (λ i m. sym (append-nil (f i)))
    ∙ (runs-first f (λ i. []) e n l h (λ i m. refl) ∙ rw (runs_none (λ i. []) n (λ i m. refl), append-nil))

-- only turns of a span write
pub runs-span : (f : ℕ → Records) (start stop n : ℕ) → start ≤ stop → stop ≤ n → ((i : ℕ) → i < start → f i ≡ []) → ((i : ℕ) → stop ≤ i → f i ≡ [])
    → runs f n ≡ span f start stop
unfolding span
runs-span f start stop n l m h g =
    let e : n ≡ start + ((stop - start) + (n - stop)) = omega arith in
    rw e (runs-plus f start ((stop - start) + (n - stop)) ∙ rw (
      runs_none f start h,
      runs-plus (λ i. f (start + i)) (stop - start) (n - stop),
      runs_none (λ i. f (start + (stop - start + i))) (n - stop) (λ i k. g (start + (stop - start + i)) (omega arith)),
      append-nil,
    ))

-- turns by threes
pub runs-threes : (f : ℕ → Records) (n : ℕ) → runs f (3 * n) ≡ runs (λ q. f (3 * q) ++ (f (3 * q + 1) ++ f (3 * q + 2))) n
unfolding runs
runs-threes f zero = refl
runs-threes f (suc n) =
    let e : 3 * suc n ≡ suc (suc (suc (3 * n))) = omega arith in
    let e₁ : suc (3 * n) ≡ 3 * n + 1 = omega arith in
    let e₂ : suc (suc (3 * n)) ≡ 3 * n + 2 = omega arith in
    rw (e, runs-threes f n, e₂, e₁) (rw (append_assoc, append_assoc) refl)
