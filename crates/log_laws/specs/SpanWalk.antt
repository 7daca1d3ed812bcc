-- One reading of a log with two positions finds the busiest hour: the front position goes from start to start, the back position follows
-- it to the first start less than an hour before. What is kept: the starts between them, the most so far and where.
use Rattle.std.specs.Prelude.{ℕ, ◌+◌, ◌≤◌, ◌<◌, ◌≡◌, true, false, cond, List, [], ◌∷◌, ◌++◌, length, get_or, leb, ltb}
use Rattle.effbd.specs.Starts.{hour, Busiest}
use Rattle.log_laws.specs.Spans.{Rising, Most}

-- of the starts between the positions those that a span with time t has
abbrev pub reach : ℕ → List ℕ → List ℕ
reach t [] = []
reach t (x ∷ xs) = elim (leb (x + hour) t) [ true ↦ reach t xs | false ↦ x ∷ xs ]

pub record Walk : Type 0 where
  pub between : List ℕ
  pub best : Busiest

abbrev pub better : List ℕ → Busiest → Busiest
better q b = cond (ltb b.most (length q)) (record { most = length q; at = get_or q 0 0 }) b

-- the front position comes to a start at time t
abbrev pub turn : ℕ → Walk → Walk
turn t w = let q = reach t w.between ++ (t ∷ []) in record { between = q; best = better q w.best }

abbrev pub walk : List ℕ → Walk → Walk
walk [] w = w
walk (t ∷ ts) w = walk ts (turn t w)

abbrev pub no_walk : Walk
no_walk = record { between = []; best = record { most = 0; at = 0 } }

-- what stands after the starts `past`, the last of them at `now`: some are out of reach, the others are between the positions
pub record Walked (past : List ℕ) (now : ℕ) (w : Walk) : Type 0 where
  pub out : List ℕ
  pub split : past ≡ out ++ w.between
  pub gone : (i : ℕ) → i < length out → get_or out i 0 + hour ≤ now
  pub ahead : (i : ℕ) → i < length w.between → get_or w.between i 0 ≤ now
  pub rises : Rising 0 w.between
  pub most : Most past w.best
