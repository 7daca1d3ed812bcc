-- What a check tells is what the call tells: a refusal of either way, which leaves what was lent.
use Rattle.std.proofs.Common.{◌≡◌, ℕ, zero, suc, List, refl, sym, ap, ◌∙◌, take, drop}
use Rattle.effbd.specs.Answers.{Outcome, refused, unless, and_then}
use Rattle.effbd.specs.Editions.{joined, convert_from, telegram_count, old_fault, new_of, upward, downward, fitting, stopping, telegrams_up, downed_as, telegrams_down}
use Rattle.editions.specs.Checks.{checked}
use Rattle.editions.proofs.Turns.{checked-joined}
use Rattle.editions.proofs.Calls.{was-refused, refused-told}

-- what telegrams become does not matter to the check
any-made : (size : ℕ) (fault : ℕ → List ℕ → ℕ) (made other : ℕ → List ℕ → List ℕ) (number index n : ℕ) (run : List ℕ)
    → checked (convert_from size fault made number index n run) ≡ checked (convert_from size fault other number index n run)
unfolding convert_from
any-made size fault made other number index zero run = refl
any-made size fault made other number index (suc n) run = by (fault number (take size run)) (any-made size fault made other (suc number) (suc index) n (drop size run))
  where
    by : (e : ℕ) → checked (convert_from size fault made (suc number) (suc index) n (drop size run)) ≡ checked (convert_from size fault other (suc number) (suc index) n (drop size run))
        → checked (unless e index (joined (made number (take size run)) (convert_from size fault made (suc number) (suc index) n (drop size run))))
        ≡ checked (unless e index (joined (other number (take size run)) (convert_from size fault other (suc number) (suc index) n (drop size run))))
    by zero ih = checked-joined (made number (take size run)) (convert_from size fault made (suc number) (suc index) n (drop size run))
        ∙ (ih ∙ sym (checked-joined (other number (take size run)) (convert_from size fault other (suc number) (suc index) n (drop size run))))
    by (suc e) ih = refl

pub any-station : (old : List ℕ) (station first : ℕ) → checked (upward old station first) ≡ checked (upward old 0 first)
unfolding upward
any-station old station first = any-made 8 old_fault (new_of station) (new_of 0) first 0 (telegram_count 8 old) old

-- upward
module _ (old : List ℕ) (station first : ℕ) (area : List ℕ) where
  pub up-refused : (n v : ℕ) → refused n v ≡ checked (upward old 0 first) → (refused n v ≡ (telegrams_up old station first area).answer) × (area ≡ (telegrams_up old station first area).area)
  unfolding telegrams_up
  up-refused n v e = refused-told area (upward old station first) n v (e ∙ sym (any-station old station first))

-- downward
module _ (run area : List ℕ) (station first : ℕ) where
  down-as : (x : Outcome (List ℕ)) → and_then (downward run) (fitting area) ≡ x → telegrams_down run area station first ≡ downed_as run area station first x
  unfolding telegrams_down
  down-as x e = ap (downed_as run area station first) e

  -- what is refused keeps everything
  pub record Kept (n v : ℕ) : Type 0 where
    pub answer : refused n v ≡ (telegrams_down run area station first).answer
    pub area-kept : area ≡ (telegrams_down run area station first).area
    pub station-kept : station ≡ (telegrams_down run area station first).station
    pub first-kept : first ≡ (telegrams_down run area station first).first

  kept : (n v w : ℕ) → v ≡ stopping w → and_then (downward run) (fitting area) ≡ refused n w → Kept n v
  kept n v w s e = let u = down-as (refused n w) e in record {
    answer = ap (λ k. refused n k) s ∙ sym (ap (λ x. x.answer) u);
    area-kept = sym (ap (λ x. x.area) u);
    station-kept = sym (ap (λ x. x.station) u);
    first-kept = sym (ap (λ x. x.first) u);
  }

  pub down-refused : (n v : ℕ) → refused n v ≡ checked (downward run) → Kept n v
  down-refused n v e = let w = was-refused n v area (downward run) e in kept n v w.0 w.2 w.1
