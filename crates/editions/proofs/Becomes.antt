-- What a telegram becomes, by the words of a run that it stands at the front of.
use Prim.Native.Nat.{ℕ, suc, ◌+◌, ◌*◌, ◌<◌}
use mathlib.Core.Path.{◌≡◌, sym, ◌∙◌, ap₂}
use mathlib.Core.List.{List}
use native.Mathlib.Omega.{arith}
use lib.ListN.{take}
use lib.Seq.{get_or-take}
use Rattle.effbd.specs.Records.{word}
use Rattle.effbd.specs.BusEnds.{telegram}
use Rattle.effbd.specs.Editions.{old_telegram, new_of, old_of}

word-take : (n i : ℕ) (l : List ℕ) → suc i < n → word (take n l) i ≡ word l i
word-take n i l h = ap₂ (λ (x y : ℕ). x + 256 * y) (get_or-take n l i 0 (omega arith)) (get_or-take n l (suc i) 0 h)

pub new-of : (run : List ℕ) (station number code argument : ℕ) → code ≡ word run 4 → argument ≡ word run 6 → telegram number station code argument ≡ new_of station number (take 8 run)
unfolding new_of
new-of run station number code argument c a = ap₂ (telegram number station) (c ∙ sym (word-take 8 4 run (omega arith))) (a ∙ sym (word-take 8 6 run (omega arith)))

pub old-of : (run : List ℕ) (number code argument : ℕ) → code ≡ word run 10 → argument ≡ word run 12 → old_telegram code argument ≡ old_of number (take 14 run)
unfolding old_of
old-of run number code argument c a = ap₂ old_telegram (c ∙ sym (word-take 14 10 run (omega arith))) (a ∙ sym (word-take 14 12 run (omega arith)))
