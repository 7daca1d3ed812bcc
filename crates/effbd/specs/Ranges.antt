-- Bounded tests, searches and tables of numbers, which the definitions share. Assumes nothing.
use Rattle.std.specs.Prelude.{ℕ, zero, suc, ◌+◌, Bool, true, false, ◌&&◌, ◌||◌, cond, List, [], ◌∷◌, leb, eqb, ltb}

-- every number below n passes
abbrev pub all_below : ℕ → (ℕ → Bool) → Bool
all_below zero f = true
all_below (suc n) f = f n && all_below n f

-- the least number below n that passes, or n
abbrev pub least : ℕ → (ℕ → Bool) → ℕ
least zero f = zero
least (suc n) f = elim (f zero) [ true ↦ zero | false ↦ suc (least n (λ i. f (suc i))) ]

-- how many numbers below n pass
abbrev pub how_many : ℕ → (ℕ → Bool) → ℕ
how_many zero f = zero
how_many (suc n) f = cond (f n) 1 0 + how_many n f

-- sets of numbers, as tests: the set of r alone; of all from a to b; of all between a and b; the empty one; two in one
abbrev pub only : ℕ → ℕ → Bool
only r q = eqb q r

abbrev pub within : ℕ → ℕ → ℕ → Bool
within a b q = leb a q && leb q b

abbrev pub between : ℕ → ℕ → ℕ → Bool
between a b q = ltb a q && ltb q b

abbrev pub nobody : ℕ → Bool
nobody q = false

abbrev pub either : (ℕ → Bool) → (ℕ → Bool) → ℕ → Bool
either S T q = S q || T q

-- f 0, f 1, .. up to but not including f n
abbrev pub tabulate : {A : Type 0} → ℕ → (ℕ → A) → List A
tabulate zero f = []
tabulate (suc n) f = f zero ∷ tabulate n (λ i. f (suc i))
