-- What the inner functions of the leader's end answer.
use Rattle.std.specs.Prelude.{ℕ}
use Rattle.effbd.specs.Answers.{Outcome, accepted, refused}

-- the refusal of an offer that is withheld for a reason of its own, where the move itself stands
abbrev pub withheld : {A : Type 0} → (number value : ℕ) → Outcome A → Outcome ℕ
withheld number value (accepted a) = refused number value
withheld number value (refused n v) = refused n v
