-- What walks over the arcs of a net file compute, arc by arc in the file's order. Assumes nothing.
use Rattle.std.specs.Prelude.{ℕ, zero, suc, ◌+◌, ◌-◌, min, Bool, true, cond, ◌&&◌, List, [], ◌∷◌, length, get_or, set, leb, ltb, eqb}
use Rattle.effbd.specs.Answers.{Outcome, accepted, refused}
use Rattle.effbd.specs.Records.{kind_at}
use Rattle.effbd.specs.Moves.{most_word}
use Rattle.effbd.specs.Nets.{Arc, Transition, take_arc, clear_arc, give_arc}

-- a take stands at the start
unfoldable pub take_here : List ℕ → Bool
take_here rest = leb 8 (length rest) && eqb (kind_at rest) take_arc

-- the marks cover the takes, which stand first
unfoldable pub covered : List Arc → List ℕ → Bool
covered [] marks = true
covered (x ∷ xs) marks = cond (eqb x.kind take_arc) (leb x.second (get_or marks x.first 0) && covered xs marks) true

-- so many places from `first` on become 0
unfoldable pub zeros : ℕ → ℕ → List ℕ → List ℕ
zeros zero first marks = marks
zeros (suc n) first marks = zeros n (first + 1) (set marks first 0)

-- what one arc does; a sum stops at 65,535
unfoldable pub changed : (kind first second : ℕ) → List ℕ → List ℕ
changed kind first second marks = cond (eqb kind take_arc) (set marks first (get_or marks first 0 - second))
    (cond (eqb kind clear_arc) (zeros (second + 1 - first) first marks) (set marks first (min most_word (get_or marks first 0 + second))))

unfoldable pub changed_if : ℕ → Arc → List ℕ → List ℕ
changed_if kind x marks = cond (eqb x.kind kind) (changed x.kind x.first x.second marks) marks

-- what the arcs of one kind do
unfoldable pub applied : ℕ → List Arc → List ℕ → List ℕ
applied kind [] marks = marks
applied kind (x ∷ xs) marks = applied kind xs (changed_if kind x marks)

-- the marks after takes and clears
unfoldable pub reduced : List Arc → List ℕ → List ℕ
reduced arcs marks = applied clear_arc arcs (applied take_arc arcs marks)

-- the sum of a mark and a give passes 65,535
unfoldable pub too_much : Arc → List ℕ → Bool
too_much x marks = eqb x.kind give_arc && ltb most_word (get_or marks x.first 0 + x.second)

-- 25 at the first such give, 0 where all sums fit
unfoldable pub sums : List Arc → List ℕ → Outcome ℕ
sums [] marks = accepted 0
sums (x ∷ xs) marks = cond (too_much x marks) (refused 25 x.first) (sums xs marks)

-- a transition is labelled so and enabled; the lowest-numbered such one, or how many transitions there are
unfoldable pub stands : Transition → List ℕ → ℕ → Bool
stands t marks label = eqb t.label label && covered t.arcs marks

unfoldable pub lowest : List Transition → List ℕ → ℕ → ℕ
lowest [] marks label = 0
lowest (t ∷ ts) marks label = cond (stands t marks label) 0 (lowest ts marks label + 1)
