-- Rising uses: a use names an item above those of the uses in front of it, so that an item is met at most once.
use Prim.Native.Nat.{ℕ, zero, suc, ◌+◌, ◌≤◌, ◌<◌}
use mathlib.Core.Path.{◌≡◌, refl}
use mathlib.Core.Bool.{true, not}
use mathlib.Core.List.{List, [], ◌∷◌}
use native.Mathlib.Omega.{arith}
use lib.ListN.{length, get_or}
use lib.Dec.{leb, ltb, eqb}
use borrow.Author.Tests.{leb-true, ltb-true, ne_eqb}
use Rattle.effbd.specs.Diagrams.{Use, uses_fine}
use Rattle.effbd.specs.Counts.{take_of}
use Rattle.ranges.specs.Tests.{and_left, and_right}
use Rattle.diagram_table.specs.Held.{no_use}

-- the first of rising uses, and the rest
pub record Rises (M from : ℕ) (u : Use) (us : List Use) : Type 0 where
  pub low : from ≤ u.item
  pub inside : u.item < M
  pub rest : uses_fine M (suc u.item) us ≡ true

pub rises : (M from : ℕ) (u : Use) (us : List Use) → uses_fine M from (u ∷ us) ≡ true → Rises M from u us
unfolding uses_fine
rises M from u us e =
    let a = and_right (leb from u.item) _ e in
    let b = and_right (ltb u.item M) _ a in
    record {
      low = leb-true from u.item (and_left (leb from u.item) _ e);
      inside = ltb-true u.item M (and_left (ltb u.item M) _ a);
      rest = and_right (not (eqb (u.take + u.give) 0)) _ b;
    }

pub take_below : (M from : ℕ) (us : List Use) → uses_fine M from us ≡ true → (k : ℕ) → k < from → take_of us k ≡ 0
take_below M from [] e k l = refl
take_below M from (u ∷ us) e k l =
    let w = rises M from u us e in let x = w.low in
    rw (ne_eqb u.item k (omega arith)) (take_below M (suc u.item) us w.rest k (omega arith))

pub item-rises : (M from : ℕ) (us : List Use) → uses_fine M from us ≡ true → (j : ℕ) → j < length us → (from ≤ (get_or us j no_use).item) × ((get_or us j no_use).item < M)
item-rises M from [] e j l = absurd (omega arith)
item-rises M from (u ∷ us) e zero l = let w = rises M from u us e in (w.low, w.inside)
item-rises M from (u ∷ us) e (suc j) l =
    let w = rises M from u us e in let x = w.low in
    let y = item-rises M (suc u.item) us w.rest j (omega arith) in
    (let z = y.0 in omega arith, y.1)

pub few-uses : (M from : ℕ) (us : List Use) → uses_fine M from us ≡ true → from ≤ M → from + length us ≤ M
few-uses M from [] e l = omega arith
few-uses M from (u ∷ us) e l =
    let w = rises M from u us e in let x = w.low in let y = w.inside in
    let z = few-uses M (suc u.item) us w.rest (omega arith) in
    omega arith
