-- What the step in a call fires, by the tests that lead to it.
use Rattle.std.proofs.Common.{ℕ, ◌≡◌, sym, ◌∙◌, ap, List, drop, eq-eqb, ne_eqb}
use Rattle.effbd.specs.Answers.{Outcome, refused}
use Rattle.effbd.specs.Records.{word, kind_at}
use Rattle.effbd.specs.BusEnds.{code_at, argument_at}
use Rattle.effbd.specs.Transitions.{transition_diagram, transition_net}
use Rattle.calls.specs.CallList.{call_of}
use Rattle.call_lines.specs.Lines.{offer_fires, hand_fires, call_fires}

module _ {fired : Outcome ℕ} (file leader : List ℕ) (code argument : ℕ) where
  pub step-offered : code ≡ 1 → fired ≡ transition_diagram file argument leader → fired ≡ offer_fires file leader code argument
  step-offered s e = rw (eq-eqb code 1 s) e

pub no-step-offered : (file leader : List ℕ) (code argument : ℕ) → (code ≡ 1 → ⊥) → refused 21 0 ≡ offer_fires file leader code argument
no-step-offered file leader code argument n = rw (ne_eqb code 1 n)

module _ (net follower bytes : List ℕ) {code : ℕ} (c : code ≡ code_at bytes) where
  pub step-handed : {fired : Outcome ℕ} {row : ℕ} → code ≡ 1 → row ≡ argument_at bytes → fired ≡ transition_net net row follower → fired ≡ hand_fires net follower bytes
  step-handed s r e = rw (eq-eqb (code_at bytes) 1 (sym c ∙ s)) (e ∙ ap (λ (x : ℕ). transition_net net x follower) r)

  pub no-step-handed : (code ≡ 1 → ⊥) → refused 21 0 ≡ hand_fires net follower bytes
  no-step-handed n = rw (ne_eqb (code_at bytes) 1 (λ z. n (c ∙ z)))

module _ (file net leader follower call : List ℕ) {k : ℕ} (e : k ≡ kind_at call) {fired : Outcome ℕ} where
  pub offered-fires : k ≡ 1 → {code argument : ℕ} → code ≡ word call 4 → argument ≡ word call 6 → fired ≡ offer_fires file leader code argument
      → fired ≡ call_fires file net leader follower (call_of call)
  unfolding call_of
  offered-fires o f g w = w ∙ rw (eq-eqb (kind_at call) 1 (sym e ∙ o), f, g)

  pub handed-fires : (k ≡ 1 → ⊥) → {bytes : List ℕ} → bytes ≡ drop 4 call → fired ≡ hand_fires net follower bytes
      → fired ≡ call_fires file net leader follower (call_of call)
  unfolding call_of
  handed-fires n f w = w ∙ rw (ne_eqb (kind_at call) 1 (λ z. n (e ∙ z)), f)
