-- A part that holds uses, walked by its tails: one use, and the uses of the rest.
use Prim.Native.Nat.{ℕ, suc, ◌/◌, ◌≤◌, ◌<◌}
use mathlib.Core.Path.{◌≡◌, ap}
use mathlib.Core.List.{List, [], ◌∷◌}
use native.Mathlib.Omega.{arith}
use lib.ListN.{length, drop, length-drop}
use Rattle.effbd.specs.Records.{word}
use Rattle.effbd.specs.Diagrams.{uses_at}
use Rattle.diagram_table.specs.Cells.{uses_of}

pub uses-next : (rest : List ℕ) → 6 ≤ length rest → uses_of rest ≡ record { item = word rest 0; take = word rest 2; give = word rest 4 } ∷ uses_of (drop 6 rest)
unfolding uses_of uses_at
uses-next rest h = let e : length rest / 6 ≡ suc (length (drop 6 rest) / 6) = omega (arith, length-drop 6 rest) in ap (λ (n : ℕ). uses_at n rest) e

pub uses-over : (rest : List ℕ) → length rest < 6 → uses_of rest ≡ []
unfolding uses_of uses_at
uses-over rest h = let e : length rest / 6 ≡ 0 = omega arith in ap (λ (n : ℕ). uses_at n rest) e

-- each tail is shorter
pub uses-fall : (rest more : List ℕ) → 6 ≤ length rest → more ≡ drop 6 rest → length more < length rest
uses-fall rest more h e = omega (arith, ap length e, length-drop 6 rest)
