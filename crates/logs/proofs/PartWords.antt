-- A word of a part of bytes is the word at its place in all of them.
use Prim.Native.Nat.{ℕ, suc, ◌+◌, ◌*◌, ◌<◌}
use mathlib.Core.Path.{◌≡◌, ◌∙◌, ap, ap₂}
use mathlib.Core.List.{List}
use native.Mathlib.Omega.{arith}
use lib.ListN.{get_or, take, drop}
use lib.Seq.{get_or-take, get_or-drop}
use Rattle.effbd.specs.Records.{word}

pub part-word : (l : List ℕ) (at n i : ℕ) → suc i < n → word (take n (drop at l)) i ≡ word l (at + i)
part-word l at n i b = ap₂ (λ (x y : ℕ). x + 256 * y) (byte i (omega arith)) (byte (suc i) b ∙ ap (λ (k : ℕ). get_or l k 0) (let z : at + suc i ≡ suc (at + i) = omega arith in z))
  where
    byte : (j : ℕ) → j < n → get_or (take n (drop at l)) j 0 ≡ get_or l (at + j) 0
    byte j c = get_or-take n (drop at l) j 0 c ∙ get_or-drop at l j 0
