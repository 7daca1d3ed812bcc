-- How long a number is in decimal.
use Rattle.std.specs.Prelude.{ℕ, zero, suc, ◌+◌, ◌/◌, ◌%◌, ◌≤◌, [], ◌∷◌, length, ltb}
use Rattle.std.proofs.Common.{arith, length-append}
use Rattle.effbd.specs.Annex.{digits, number}
use Rattle.ranges.specs.Tests.{decide}

digits-short : (most n : ℕ) → length (digits most n) ≤ most
unfolding digits
digits-short zero n = omega arith
digits-short (suc most) n = decide (ltb n 10) (λ e. rw e (omega arith))
    (λ e. rw e (let a = digits-short most (n / 10) in let b = length-append (digits most (n / 10)) ((48 + n % 10) ∷ []) in omega arith))

-- with the space before it
pub number_short : (n : ℕ) → length (number n) ≤ 11
unfolding number
number_short n = let a = digits-short 10 n in omega arith
