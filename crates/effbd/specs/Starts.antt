-- Document 02, request 1: the most starts of a FUNCTION row in any hour (refusals 40 to 42). Assumes nothing.
use Rattle.std.specs.Prelude.{ℕ, suc, ◌+◌, Bool, cond, ◌&&◌, List, [], ◌∷◌, map, get_or, leb, ltb, eqb}
use Rattle.effbd.specs.Answers.{Outcome, accepted, refused, unless, and_then}
use Rattle.effbd.specs.Diagrams.{Diagram, function, is_kind}
use Rattle.effbd.specs.Nesting.{read_diagram}
use Rattle.effbd.specs.States.{activity_at, fresh_words}
use Rattle.effbd.specs.Logs.{Setpoint, setpoints, log_fault, ticks, after, played}

-- a start: its move's index in the log, and its time
pub record Start : Type 0 where
  pub index : ℕ
  pub time : ℕ

-- a move is a start of row r: it steps this row, which is ready before and runs after
abbrev pub activity : List ℕ → ℕ → ℕ
activity words r = get_or words (activity_at r) 0

abbrev pub is_step : ℕ → Setpoint → Bool
is_step r m = eqb m.code 1 && eqb m.argument r

unfoldable pub is_start : ℕ → Setpoint → (before next : List ℕ) → Bool
is_start r m before next = is_step r m && (eqb (activity before r) 1 && eqb (activity next r) 2)

-- "A start's time is the sum of the waits before it": the starts of row r from move i on, at time t
unfoldable pub starts_from : Diagram → (r i t : ℕ) → List Setpoint → List ℕ → List Start
starts_from d r i t [] words = []
starts_from d r i t (m ∷ ms) words =
    let next = after d m words in
    let later = starts_from d r (suc i) (t + ticks m) ms next in
    cond (is_start r m words next) (record { index = i; time = t } ∷ later) later

abbrev pub starts : Diagram → (r : ℕ) → List ℕ → List Start
starts d r log = starts_from d r 0 0 (setpoints log) (fresh_words d)

abbrev pub times_of : List Start → List ℕ
times_of s = map (λ (x : Start). x.time) s

-- "starts .. whose times fall in some span from t up to but not including t + 36,000 ticks"
abbrev pub hour : ℕ
hour = 36000

abbrev pub one : Bool → ℕ
one b = cond b 1 0

abbrev pub in_span : ℕ → ℕ → Bool
in_span t x = leb t x && ltb x (t + hour)

unfoldable pub fall_in : ℕ → List ℕ → ℕ
fall_in t [] = 0
fall_in t (x ∷ xs) = one (in_span t x) + fall_in t xs

-- "the most starts .., and the earliest such t that is itself a start (0 if none)": over the times from some start on
pub record Busiest : Type 0 where
  pub most : ℕ
  pub at : ℕ

unfoldable pub busiest_from : List ℕ → List ℕ → Busiest
busiest_from times [] = record { most = 0; at = 0 }
busiest_from times (t ∷ ts) =
    let later = busiest_from times ts in
    cond (leb later.most (fall_in t times)) (record { most = fall_in t times; at = t }) later

abbrev pub busiest : List ℕ → Busiest
busiest times = busiest_from times times

-- "after the file's own: 40 ..; 41 row isn't a FUNCTION; both return 0; 42 a move refused, with its index; in this order"
unfoldable pub starts_of : (file log : List ℕ) (row : ℕ) → Outcome (List Start)
starts_of file log row = and_then (read_diagram file) (λ d.
    unless (log_fault log) 0 (unless (cond (is_kind d function row) 0 41) 0 (and_then (played d log) (λ last. accepted (starts d row log)))))

-- what the call returns, and what the number lent for t holds afterwards
pub record StartsTold : Type 0 where
  pub answer : Outcome ℕ
  pub at : ℕ

abbrev pub starts_told_as : ℕ → Outcome (List Start) → StartsTold
starts_told_as at (refused number value) = record { answer = refused number value; at = at }
starts_told_as at (accepted s) = let b = busiest (times_of s) in record { answer = accepted b.most; at = b.at }

unfoldable pub log_starts : (file log : List ℕ) (row at : ℕ) → StartsTold
log_starts file log row at = starts_told_as at (starts_of file log row)
