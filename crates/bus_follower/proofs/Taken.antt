-- The follower's call, by its judgement and by what its stepper answered.
use Prim.Native.Nat.{ℕ, zero, suc}
use mathlib.Core.Path.{◌≡◌, refl, sym, ◌∙◌, ap, ap₂}
use mathlib.Core.Bool.{cond}
use mathlib.Core.List.{List}
use native.Mathlib.Omega.{arith}
use lib.Dec.{leb, eqb}
use Rattle.effbd.specs.Answers.{Outcome, accepted, refused, unless, returning_zero, afterwards}
use Rattle.effbd.specs.Firing.{step_net}
use Rattle.effbd.specs.BusEnds.{is_telegram, station_at, number_at, code_at, argument_at, Taken, taken_as, taken}
use Rattle.bus_follower.specs.Telegrams.{judged, counted}

module _ (net state : List ℕ) (count station : ℕ) (bytes : List ℕ) where
  pub take-refused : (n v : ℕ) → judged count station bytes ≡ refused n v → taken net state count station bytes ≡ record { answer = refused n v; state = state }
  unfolding judged taken
  take-refused n v e = go (cond (is_telegram bytes) 0 30) (cond (eqb (station_at bytes) station) 0 31) (cond (leb (number_at bytes) count) 32 0) (cond (leb (number_at bytes) (suc count)) 0 33) e
    where
      go : (a b c d : ℕ) → unless a 0 (unless b (station_at bytes) (unless c count (unless d count (accepted (suc count))))) ≡ refused n v
          → taken_as state count (unless a 0 (unless b (station_at bytes) (unless c count (unless d count (step_net net (code_at bytes) (argument_at bytes) state))))) ≡ record { answer = refused n v; state = state }
      go (suc a) b c d z = ap (λ (x : Outcome ℕ). record { answer = x; state = state }) z
      go zero (suc b) c d z = ap (λ (x : Outcome ℕ). record { answer = x; state = state }) z
      go zero zero (suc c) d z = ap (λ (x : Outcome ℕ). record { answer = x; state = state }) z
      go zero zero zero (suc d) z = ap (λ (x : Outcome ℕ). record { answer = x; state = state }) z
      go zero zero zero zero z = absurd (let y : ◌≡◌ {A = ℕ} 0 1 = cc in omega arith)

  pub take-due : (m : ℕ) → judged count station bytes ≡ accepted m
      → (m ≡ suc count) × (taken net state count station bytes ≡ taken_as state count (step_net net (code_at bytes) (argument_at bytes) state))
  unfolding judged taken
  take-due m e = go (cond (is_telegram bytes) 0 30) (cond (eqb (station_at bytes) station) 0 31) (cond (leb (number_at bytes) count) 32 0) (cond (leb (number_at bytes) (suc count)) 0 33) e
    where
      never : (n v : ℕ) {C : Type 0} → ◌≡◌ {A = Outcome ℕ} (refused n v) (accepted m) → C
      never n v z = absurd (let y : ◌≡◌ {A = ℕ} 0 1 = cc in omega arith)

      go : (a b c d : ℕ) → unless a 0 (unless b (station_at bytes) (unless c count (unless d count (accepted (suc count))))) ≡ accepted m
          → (m ≡ suc count) × (taken_as state count (unless a 0 (unless b (station_at bytes) (unless c count (unless d count (step_net net (code_at bytes) (argument_at bytes) state)))))
          ≡ taken_as state count (step_net net (code_at bytes) (argument_at bytes) state))
      go (suc a) b c d z = never (suc a) 0 z
      go zero (suc b) c d z = never (suc b) (station_at bytes) z
      go zero zero (suc c) d z = never (suc c) count z
      go zero zero zero (suc d) z = never (suc d) count z
      go zero zero zero zero z = ((let y : suc count ≡ m = cc in sym y), refl)

-- an answer of a stepper, with a count for its value
pub counted-accepted : (next v : ℕ) (x : Outcome (List ℕ)) → accepted v ≡ returning_zero x → accepted next ≡ counted next x
counted-accepted next v (accepted s) e = refl
counted-accepted next v (refused n w) e = absurd (let z : ◌≡◌ {A = ℕ} 0 1 = cc in omega arith)

pub counted-refused : (next n v : ℕ) (x : Outcome (List ℕ)) → refused n v ≡ returning_zero x → refused n v ≡ counted next x
counted-refused next n v (accepted s) e = absurd (let z : ◌≡◌ {A = ℕ} 0 1 = cc in omega arith)
counted-refused next n v (refused m w) e = e

-- what the follower answers and leaves, once 30 to 33 are past
pub follows-answer : (state : List ℕ) (count : ℕ) (x : Outcome (List ℕ)) → counted (suc count) x ≡ (taken_as state count x).answer
follows-answer state count (accepted s) = refl
follows-answer state count (refused n v) = refl

pub follows-state : (state : List ℕ) (count : ℕ) (x : Outcome (List ℕ)) → afterwards state x ≡ (taken_as state count x).state
follows-state state count (accepted s) = refl
follows-state state count (refused n v) = refl

-- the follower's call, where the telegram is the one due
pub take_by : (net state : List ℕ) (count station : ℕ) (bytes : List ℕ) (next code argument : ℕ) (r : Outcome ℕ) (s : List ℕ) → judged count station bytes ≡ accepted next
    → code ≡ code_at bytes → argument ≡ argument_at bytes → r ≡ counted next (step_net net code argument state) → s ≡ afterwards state (step_net net code argument state)
    → (r ≡ (taken net state count station bytes).answer) × (s ≡ (taken net state count station bytes).state)
take_by net state count station bytes next code argument r s e c a q l = (
  q ∙ (ap₂ (λ (n : ℕ) (x : Outcome (List ℕ)). counted n x) t.0 same ∙ (follows-answer state count x ∙ sym (ap (λ (k : Taken). k.answer) t.1))),
  l ∙ (ap (afterwards state) same ∙ (follows-state state count x ∙ sym (ap (λ (k : Taken). k.state) t.1))),
)
  where
    x : Outcome (List ℕ)
    x = step_net net (code_at bytes) (argument_at bytes) state

    t : (next ≡ suc count) × (taken net state count station bytes ≡ taken_as state count x)
    t = take-due net state count station bytes next e

    same : step_net net code argument state ≡ x
    same = ap₂ (λ (y z : ℕ). step_net net y z state) c a
