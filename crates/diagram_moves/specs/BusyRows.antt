-- The next row that is not idle: what the search for it has passed, what it finds, and that a wait has no business with the rows between.
use Rattle.std.specs.Prelude.{ℕ, ◌+◌, ◌≤◌, ◌<◌, ◌≡◌, List, get_or}
use Rattle.effbd.specs.States.{activity_at}

-- the rows from row `from` to below row `to` are idle
pub record Idle (words : List ℕ) (from to : ℕ) : Type 0 where
  pub low : from ≤ to
  pub idle : (q : ℕ) → from ≤ q → q < to → get_or words (activity_at q) 0 ≡ 0

-- the activities of four rows in one sum
abbrev pub four_sum : List ℕ → ℕ → ℕ
four_sum words q = get_or words (activity_at q) 0 + get_or words (activity_at q + 3) 0 + get_or words (activity_at q + 6) 0 + get_or words (activity_at q + 9) 0
