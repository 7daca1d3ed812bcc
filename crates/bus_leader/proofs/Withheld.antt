-- An offer that cannot be accepted: the move's own refusal, or 27 or 10. The move is tried on a copy of the state; no diagram has a longer state than a net has places.
use Rattle.std.specs.Prelude.{ℕ, ◌+◌, ◌≤◌, ◌<◌, ◌≡◌, true, List, ◌++◌, length, drop}
use Rattle.std.proofs.Common.{refl, sym, ◌∙◌, ap, arith}
use native.Mathlib.Numerals.{add-one}
use borrow.Author.Tests.{ne_eqb}
use Rattle.effbd.specs.Answers.{Outcome, accepted, refused, and_then, returning_zero, afterwards}
use Rattle.effbd.specs.Records.{are_bytes}
use Rattle.effbd.specs.Diagrams.{Diagram}
use Rattle.effbd.specs.Nesting.{read_diagram}
use Rattle.effbd.specs.Layout.{places}
use Rattle.effbd.specs.Nets.{most_places}
use Rattle.effbd.specs.Moves.{move_of, checked_move, step_diagram}
use Rattle.agreement.specs.AcceptedFiles.{held}
use Rattle.agreement.proofs.WellFormed.{few-places}
use Rattle.words.specs.Stores.{copied}
use Rattle.telegrams.proofs.Written.{has_room, telegram-size}
use Rattle.effbd.specs.BusEnds.{telegram, Offered, turned_away, offered}
use Rattle.bus_leader.specs.Offers.{withheld}
use Rattle.bus_leader.proofs.Offered.{RefusedBy, offer-refused, offer-accepted}

-- a state longer than any diagram's is stepped by no file
pub too_long : (file state : List ℕ) (code argument number value : ℕ) → are_bytes file ≡ true → most_places < length state
    → (returning_zero (step_diagram file code argument state) ≡ withheld number value (step_diagram file code argument state)) × (afterwards state (step_diagram file code argument state) ≡ state)
unfolding step_diagram checked_move
too_long file state code argument number value b l = go (read_diagram file) refl
  where
    go : (x : Outcome Diagram) → read_diagram file ≡ x
        → (returning_zero (and_then x (λ d. checked_move d (move_of code argument) state)) ≡ withheld number value (and_then x (λ d. checked_move d (move_of code argument) state)))
        × (afterwards state (and_then x (λ d. checked_move d (move_of code argument) state)) ≡ state)
    go (refused n v) e = (refl, refl)
    go (accepted d) e = let few = few-places d (held file d b e) in
        rw (ne_eqb (length state) (places d) (omega arith)) (refl, refl)

-- what a step is answered, withheld
pub withheld-as : (number value : ℕ) (r : Outcome ℕ) (x : Outcome (List ℕ)) → r ≡ returning_zero x → withheld number value r ≡ withheld number value x
withheld-as number value r (accepted s) e = ap (withheld number value) e
withheld-as number value r (refused n v) e = ap (withheld number value) e

-- the leader's call, where 27 or 10 stands against it
module _ (file state : List ℕ) (count station code argument : ℕ) (area : List ℕ) where
  abbrev call : Offered
  call = offered file state count station code argument area

  pub offer-withheld : (number value : ℕ) (r : Outcome ℕ) (s : List ℕ)
      → ((next : List ℕ) → step_diagram file code argument state ≡ accepted next → call ≡ turned_away state area number value)
      → r ≡ withheld number value (step_diagram file code argument state) → s ≡ state → (r ≡ call.answer) × (s ≡ call.state) × (area ≡ call.area)
  offer-withheld number value r s h e l = go (step_diagram file code argument state) refl e
    where
      told : (n v : ℕ) → call ≡ turned_away state area n v → r ≡ refused n v → (r ≡ call.answer) × (s ≡ call.state) × (area ≡ call.area)
      told n v q z = (z ∙ sym (ap (λ (o : Offered). o.answer) q), l ∙ sym (ap (λ (o : Offered). o.state) q), sym (ap (λ (o : Offered). o.area) q))

      go : (x : Outcome (List ℕ)) → step_diagram file code argument state ≡ x → r ≡ withheld number value x → (r ≡ call.answer) × (s ≡ call.state) × (area ≡ call.area)
      go (accepted next) q z = told number value (h next q) z
      go (refused n v) q z = told n v (offer-refused file state count station code argument area n v q) z

  -- the move is refused
  pub offer-turned : (n v : ℕ) (s : List ℕ) → RefusedBy state s n v (step_diagram file code argument state) → (refused n v ≡ call.answer) × (s ≡ call.state) × (area ≡ call.area)
  offer-turned n v s b = let q = offer-refused file state count station code argument area n v b.outcome in
      (sym (ap (λ (o : Offered). o.answer) q), b.kept ∙ sym (ap (λ (o : Offered). o.state) q), sym (ap (λ (o : Offered). o.area) q))

  -- the move is accepted and written
  pub offer-written : (s after : List ℕ) → step_diagram file code argument state ≡ accepted s → count < 4294967295 → 14 ≤ length area
      → after ≡ copied (telegram (count + 1) station code argument) area → (accepted (count + 1) ≡ call.answer) × (s ≡ call.state) × (after ≡ call.area)
  offer-written s after e c l w = let q = offer-accepted file state count station code argument area s e c l in (
    ap accepted (add-one count) ∙ sym (ap (λ (o : Offered). o.answer) q),
    sym (ap (λ (o : Offered). o.state) q),
    w ∙ (sym (has_room 14 (telegram (count + 1) station code argument) area (telegram-size (count + 1) station code argument) l)
        ∙ (ap (λ (n : ℕ). telegram n station code argument ++ drop 14 area) (add-one count) ∙ sym (ap (λ (o : Offered). o.area) q))),
  )
