-- What the check of a run answers.
use Rattle.std.specs.Prelude.{ℕ, List}
use Rattle.effbd.specs.Answers.{Outcome, accepted, refused}
use Rattle.effbd.specs.Editions.{stopping}

-- 0 of a run that can be converted, else what is off and at which telegram
abbrev pub checked : Outcome (List ℕ) → Outcome ℕ
checked (accepted bytes) = accepted 0
checked (refused number value) = refused number (stopping value)
