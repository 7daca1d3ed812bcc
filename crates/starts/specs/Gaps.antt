-- The gaps between the starts of a window, in bytes: 0 for none, else its 256s plus 1 and its rest. Assumes nothing.
use Rattle.std.specs.Prelude.{ℕ, zero, suc, ◌+◌, ◌-◌, ◌*◌, ◌/◌, ◌%◌, cond, List, [], ◌∷◌, get_or, set, eqb}

-- the gap at a byte, and how many bytes it has
unfoldable pub gap_at : List ℕ → ℕ → ℕ
gap_at gaps at = cond (eqb (get_or gaps at 0) 0) 0 (256 * (get_or gaps at 0 - 1) + get_or gaps (at + 1) 0)

unfoldable pub size_at : List ℕ → ℕ → ℕ
size_at gaps at = cond (eqb (get_or gaps at 0) 0) 1 2

-- a gap, put at a byte
abbrev pub size_of : ℕ → ℕ
size_of gap = cond (eqb gap 0) 1 2

unfoldable pub gap_put : List ℕ → (at gap : ℕ) → List ℕ
gap_put gaps at gap = cond (eqb gap 0) (set gaps at 0) (set (set gaps at (gap / 256 + 1)) (at + 1) (gap % 256))

-- the times that n gaps lead to, from byte `at` and time t on; the last of them, or t; the byte behind the gaps
unfoldable pub times_in : List ℕ → (n at t : ℕ) → List ℕ
times_in gaps zero at t = []
times_in gaps (suc n) at t = (t + gap_at gaps at) ∷ times_in gaps n (at + size_at gaps at) (t + gap_at gaps at)

unfoldable pub last_in : List ℕ → (n at t : ℕ) → ℕ
last_in gaps zero at t = t
last_in gaps (suc n) at t = last_in gaps n (at + size_at gaps at) (t + gap_at gaps at)

unfoldable pub end_in : List ℕ → (n at : ℕ) → ℕ
end_in gaps zero at = at
end_in gaps (suc n) at = end_in gaps n (at + size_at gaps at)

-- the times of so many starts, the first of them at time t, with their gaps from byte `at` on
unfoldable pub starts_in : List ℕ → (n at t : ℕ) → List ℕ
starts_in gaps zero at t = []
starts_in gaps (suc n) at t = t ∷ times_in gaps n at t
