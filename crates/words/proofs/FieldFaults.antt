-- The order of refusals at a record: the number for fields that are off has no part in what is off before them.
use Rattle.std.proofs.Common.{ℕ, ◌≡◌, refl, sym, ap, ◌∙◌, Bool, true, false, not, cond, List, length, ltb, eqb, ne_eqb}
use Rattle.effbd.specs.declared.refusals.Reason.{Reason}
use Rattle.effbd.specs.Answers.{number}
use Rattle.effbd.specs.Records.{fault_at, length_at}
use Rattle.ranges.specs.Tests.{decide}
use Rattle.ranges.specs.Reasons.{number-some}

module _ (bytes : List ℕ) (due right fine : Bool) (off : ℕ) where
  fields : cond (eqb (fault_at bytes due right true 5) 0) (cond fine 0 off) (fault_at bytes due right true 5) ≡ fault_at bytes due right fine off
  unfolding fault_at
  fields = decide (ltb (length bytes) 4) (λ e. rw e refl) (λ e. rw e (kinds due right fine))
    where
      kinds : (x y z : Bool) → cond (eqb (cond (not x) 2 (cond (not y) 3 (cond (ltb (length bytes) (length_at bytes)) 1 0))) 0) (cond z 0 off) (cond (not x) 2 (cond (not y) 3 (cond (ltb (length bytes) (length_at bytes)) 1 0)))
          ≡ cond (not x) 2 (cond (not y) 3 (cond (ltb (length bytes) (length_at bytes)) 1 (cond (not z) off 0)))
      kinds false y z = refl
      kinds true false z = refl
      kinds true true true = decide (ltb (length bytes) (length_at bytes)) (λ e. rw e refl) (λ e. rw e refl)
      kinds true true false = decide (ltb (length bytes) (length_at bytes)) (λ e. rw e refl) (λ e. rw e refl)

  pub told : (r : Reason) → number r ≡ fault_at bytes due right true 5 → number r ≡ fault_at bytes due right fine off
  told r e = sym (ap (λ (x : Bool). cond x (cond fine 0 off) (number r)) (ne_eqb (number r) 0 (number-some r)))
      ∙ (ap (λ (f : ℕ). cond (eqb f 0) (cond fine 0 off) f) e ∙ fields)

  pub none-before : 0 ≡ fault_at bytes due right true 5 → cond fine 0 off ≡ fault_at bytes due right fine off
  none-before e = ap (λ (f : ℕ). cond (eqb f 0) (cond fine 0 off) f) e ∙ fields
