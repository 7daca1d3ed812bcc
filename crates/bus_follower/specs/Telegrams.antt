-- What the inner functions of the follower's end answer.
use Rattle.std.specs.Prelude.{ℕ, suc, cond, List, leb, eqb}
use Rattle.effbd.specs.Answers.{Outcome, accepted, refused, unless}
use Rattle.effbd.specs.BusEnds.{is_telegram, station_at, number_at}

-- "Telegrams: 30 to 33"; the new count where the telegram is the one due
unfoldable pub judged : (count station : ℕ) → List ℕ → Outcome ℕ
judged count station bytes =
    unless (cond (is_telegram bytes) 0 30) 0
    (unless (cond (eqb (station_at bytes) station) 0 31) (station_at bytes)
    (unless (cond (leb (number_at bytes) count) 32 0) count
    (unless (cond (leb (number_at bytes) (suc count)) 0 33) count
    (accepted (suc count)))))

-- the new count of a move that is accepted, its refusal else
abbrev pub counted : {A : Type 0} → ℕ → Outcome A → Outcome ℕ
counted next (accepted a) = accepted next
counted next (refused number value) = refused number value
