-- A net's moves as the code makes them, transition by transition in the file's order, on the words of a state. Assumes nothing.
use Rattle.std.specs.Prelude.{ℕ, ◌+◌, ◌-◌, ◌≤◌, ◌≡◌, Bool, false, cond, ◌&&◌, ◌||◌, List, [], ◌∷◌, ◌++◌, length, get_or, leb, ltb, eqb, Result}
use Rattle.effbd.specs.Answers.{Outcome, accepted, refused, and_then, afterwards, returning_zero, said}
use Rattle.effbd.specs.declared.refusals.Refusal.{Refusal}
use Rattle.effbd.specs.Nets.{Transition, give_arc}
use Rattle.net_walk.specs.Walked.{covered, applied, reduced, sums, lowest}
use Rattle.net_step.specs.declared.Renewal.{Renewal}
use Rattle.net_step.specs.declared.Renewal.TheVariants.{Fired, Waited}

-- the clock of transition x after transition j fired, with the marks after takes and clears
unfoldable pub kept_clock : ℕ → List ℕ → ℕ → Transition → ℕ → ℕ
kept_clock j marks x t clock = cond (eqb x j) 0 (cond (covered t.arcs marks) clock 0)

-- after a wait; a sum above the transition's latest is not made
unfoldable pub grown_clock : ℕ → List ℕ → Transition → ℕ → ℕ
grown_clock ticks marks t clock = cond (covered t.arcs marks && leb (clock + ticks) t.latest) (clock + ticks) clock

unfoldable pub renewed_clock : Renewal → List ℕ → ℕ → Transition → ℕ → ℕ
renewed_clock (Fired j) marks x t clock = kept_clock j marks x t clock
renewed_clock (Waited ticks) marks x t clock = grown_clock ticks marks t clock

-- the new clocks of these transitions, the first of which is number x
unfoldable pub clocks_by : (ℕ → Transition → ℕ → ℕ) → ℕ → List Transition → List ℕ → List ℕ
clocks_by f x [] clocks = []
clocks_by f x (t ∷ ts) clocks = f x t (get_or clocks x 0) ∷ clocks_by f (x + 1) ts clocks

-- a transition with this clock holds a wait; one of these does, the first of which is number x
unfoldable pub holds_wait : ℕ → List ℕ → Transition → ℕ → Bool
holds_wait ticks marks t clock = covered t.arcs marks && ltb t.latest (clock + ticks)

unfoldable pub wait_held : ℕ → List ℕ → ℕ → List Transition → List ℕ → Bool
wait_held ticks marks x [] clocks = false
wait_held ticks marks x (t ∷ ts) clocks = holds_wait ticks marks t (get_or clocks x 0) || wait_held ticks marks (x + 1) ts clocks

module _ (ts : List Transition) where
  -- transition t, number j, fires
  unfoldable pub fired_words : ℕ → Transition → (marks clocks : List ℕ) → Outcome (List ℕ)
  fired_words j t marks clocks = cond (ltb (get_or clocks j 0) t.earliest) (refused 24 (t.earliest - get_or clocks j 0))
      (and_then (sums t.arcs (reduced t.arcs marks))
      (λ z. accepted (applied give_arc t.arcs (reduced t.arcs marks) ++ clocks_by (kept_clock j (reduced t.arcs marks)) 0 ts clocks)))

  abbrev pub no_transition : Transition
  no_transition = record { label = 0; earliest = 0; latest = 0; arcs = [] }

  unfoldable pub stepped_words : ℕ → (marks clocks : List ℕ) → Outcome (List ℕ)
  stepped_words label marks clocks = let j = lowest ts marks label in
      cond (eqb j (length ts)) (refused 22 label) (fired_words j (get_or ts j no_transition) marks clocks)

  unfoldable pub waited_words : ℕ → (marks clocks : List ℕ) → Outcome (List ℕ)
  waited_words ticks marks clocks = cond (eqb ticks 0) (refused 21 0)
      (cond (wait_held ticks marks 0 ts clocks) (refused 26 0) (accepted (marks ++ clocks_by (renewed_clock (Waited ticks) marks) 0 ts clocks)))

  unfoldable pub moved_words : (code argument : ℕ) → (marks clocks : List ℕ) → Outcome (List ℕ)
  moved_words code argument marks clocks =
      cond (eqb code 1) (stepped_words argument marks clocks) (cond (eqb code 2) (waited_words argument marks clocks) (refused 21 0))

-- a call answers and leaves the state as the outcome has it
pub record Answered (answer : Result ℕ Refusal) (before after : List ℕ) (outcome : Outcome (List ℕ)) : Type 0 where
  pub says : said answer ≡ returning_zero outcome
  pub leaves : after ≡ afterwards before outcome

-- a state of marks for `places` places, `most` at most, and so many clocks
pub record Sized (most places count : ℕ) (state : List ℕ) : Type 0 where
  pub few : places ≤ most
  pub words : length state ≡ places + count
