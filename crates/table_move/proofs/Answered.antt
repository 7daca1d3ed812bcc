-- Answers and what they leave.
use Rattle.std.specs.Prelude.{ℕ, ◌≡◌, List}
use Rattle.std.proofs.Common.{sym, ◌∙◌, ap}
use Rattle.effbd.specs.Answers.{Outcome, accepted, refused, afterwards, returning_zero}

-- a call that is told `answer` and leaves m where l was, of the outcome o
abbrev pub Answered : (answer : Outcome ℕ) (l m : List ℕ) → Outcome (List ℕ) → Type 0
Answered answer l m o = (answer ≡ returning_zero o) × (m ≡ afterwards l o)

pub answered-as : (answer : Outcome ℕ) (l m : List ℕ) (o p : Outcome (List ℕ)) → Answered answer l m o → o ≡ p → Answered answer l m p
answered-as answer l m o p h e = (h.0 ∙ ap returning_zero e, h.1 ∙ ap (afterwards l) e)

pub told-accepted : (l m : List ℕ) (o : Outcome (List ℕ)) → o ≡ accepted m → Answered (accepted 0) l m o
told-accepted l m o e = (ap returning_zero (sym e), ap (afterwards l) (sym e))

pub told-refused : (l : List ℕ) (number value : ℕ) (o : Outcome (List ℕ)) → o ≡ refused number value → Answered (refused number value) l l o
told-refused l number value o e = (ap returning_zero (sym e), ap (afterwards l) (sym e))
