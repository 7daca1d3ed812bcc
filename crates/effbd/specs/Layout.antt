-- Document 01, "Diagram state and moves" and "Net": three numbers a row, then one a count, by name and by number.
-- A diagram's state and a net's marks are laid out alike. Assumes nothing.
use Rattle.std.specs.Prelude.{ℕ, ◌+◌, ◌-◌, ◌*◌, ◌/◌, ◌%◌, cond, ltb, eqb}
use Rattle.effbd.specs.Diagrams.{Diagram, row_count}
use Rattle.effbd.specs.Counts.{count_total}

-- "Places 3r, 3r + 1, 3r + 2 for each row, called P, Q, R; then 3N + k for item k"; "the copies follow the items, by item and then row, in state and net"
pub data Place : Type 0 where
  P Q R Count : ℕ → Place

-- a value at each place, by the four kinds of place
abbrev pub by_place : {A : Type 0} → (p q r count : ℕ → A) → Place → A
by_place p q r count (P x) = p x
by_place p q r count (Q x) = q x
by_place p q r count (R x) = r x
by_place p q r count (Count x) = count x

module _ (d : Diagram) where
  -- how many there are
  abbrev pub places : ℕ
  places = 3 * row_count d + count_total d

  -- the place of number p
  unfoldable pub place_of : ℕ → Place
  place_of p = cond (ltb p (3 * row_count d))
      (cond (eqb (p % 3) 0) (P (p / 3)) (cond (eqb (p % 3) 1) (Q (p / 3)) (R (p / 3))))
      (Count (p - 3 * row_count d))
