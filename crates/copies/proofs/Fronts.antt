-- The front of a list, copied in front of zeros.
use Prim.Native.Nat.{ℕ, ◌+◌, ◌-◌, ◌≤◌}
use mathlib.Core.Path.{◌≡◌, sym, ◌∙◌, ap}
use mathlib.Core.List.{List, ◌++◌}
use native.Mathlib.Omega.{arith}
use lib.ListN.{length, get_or, drop, length-append, length-drop, get_or-append, get_or-eq_default}
use lib.Seq.{get_or-append-add, get_or-drop}
use lib.Dec.{ltb}
use borrow.Author.Tests.{ltb-true, ltb-false, le-leb}
use Rattle.ranges.specs.Tests.{decide}
use Rattle.ranges.specs.RangeLaws.{length-tab, get_d-tab}
use Rattle.words.specs.Stores.{copied}
use Rattle.copies.specs.Promised.{zeros}

zeros-long : (n : ℕ) → length (zeros n) ≡ n
zeros-long n = length-tab n (λ x. 0)

zero-at : (n i : ℕ) → get_or (zeros n) i 0 ≡ 0
zero-at n i = decide (ltb i n)
    (λ e. get_d-tab n (λ x. 0) i 0 (ltb-true i n e))
    (λ e. get_or-eq_default (zeros n) 0 {n = i} (let y = ltb-false i n e in omega (arith, zeros-long n)))

module _ (from : List ℕ) (n : ℕ) (room : length from ≤ n) where
  copied_is : copied from (zeros n) ≡ from ++ drop (length from) (zeros n)
  copied_is = rw (le-leb (length from) (length (zeros n)) (omega (arith, zeros-long n)))

  pub copied-long : length (copied from (zeros n)) ≡ n
  copied-long = ap length copied_is ∙ (length-append from (drop (length from) (zeros n)) ∙ (let a = length-drop (length from) (zeros n) in let b = zeros-long n in let y : length from + length (drop (length from) (zeros n)) ≡ n = omega arith in y))

  pub copied_at : (i : ℕ) → get_or (copied from (zeros n)) i 0 ≡ get_or from i 0
  copied_at i = ap (λ l. get_or l i 0) copied_is ∙ decide (ltb i (length from))
      (λ e. get_or-append from (drop (length from) (zeros n)) 0 i (ltb-true i (length from) e))
      (λ e. let y = ltb-false i (length from) e in let z : i ≡ length from + (i - length from) = omega arith in
      ap (λ x. get_or (from ++ drop (length from) (zeros n)) x 0) z ∙ (get_or-append-add from (drop (length from) (zeros n)) (i - length from) 0
      ∙ (get_or-drop (length from) (zeros n) (i - length from) 0 ∙ (zero-at n _ ∙ sym (get_or-eq_default from 0 {n = i} y)))))
