-- How outcomes follow one another: a fault, or what follows.
use Rattle.std.specs.Prelude.{ℕ, zero, suc, ◌≡◌, refl, ◌≢◌}
use Rattle.std.proofs.Common.{arith}
use Rattle.effbd.specs.Answers.{Outcome, accepted, or_else, refused, unless, and_then}

-- on where there is no fault, turned away where there is one
pub unless-none : {A : Type 0} (f v : ℕ) (on : Outcome A) → f ≡ 0 → unless f v on ≡ on
unless-none f v on e = rw e

pub unless-refused : {A : Type 0} (f v : ℕ) (on : Outcome A) → f ≢ 0 → unless f v on ≡ refused f v
unless-refused zero v on h = absurd (h refl)
unless-refused (suc f) v on h = refl

-- neither fault
pub else-none : (f g : ℕ) → or_else f g ≡ 0 → (f ≡ 0) × (g ≡ 0)
else-none zero g e = (refl, e)
else-none (suc f) g e = absurd (let z : ◌≡◌ {A = ℕ} (suc f) 0 = e in omega arith)

-- where there is no fault what follows counts, where there is one it does not
pub unless-same : {A : Type 0} (f v : ℕ) (o p : Outcome A) → (f ≡ 0 → o ≡ p) → unless f v o ≡ unless f v p
unless-same zero v o p h = h refl
unless-same (suc f) v o p h = refl

pub unless-then : {A B : Type 0} (f v : ℕ) (o : Outcome A) (g : A → Outcome B) → and_then (unless f v o) g ≡ unless f v (and_then o g)
unless-then zero v o g = refl
unless-then (suc f) v o g = refl

-- one after another, in two ways
pub and_then-twice : {A B C : Type 0} (a : Outcome A) (f : A → Outcome B) (g : B → Outcome C) (h : A → Outcome C)
    → ((x : A) → h x ≡ and_then (f x) g) → and_then a h ≡ and_then (and_then a f) g
and_then-twice (accepted x) f g h e = e x
and_then-twice (refused n v) f g h e = refl
