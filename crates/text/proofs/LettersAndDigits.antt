-- Letters, digits and a line, as they are written.
use Prim.Native.Nat.{ℕ, zero, suc, ◌+◌, ◌-◌, ◌/◌, ◌%◌, ◌≤◌, ◌<◌}
use mathlib.Core.Logic.{◌≢◌}
use mathlib.Core.Path.{◌≡◌, refl, sym, ◌∙◌, ap}
use mathlib.Core.List.{List, [], ◌∷◌, ◌++◌, append_assoc, append-nil}
use native.Mathlib.Omega.{arith}
use native.Mathlib.Numerals.{add-one}
use lib.ListN.{length, take, get_or}
use lib.Seq.{take-suc}
use borrow.Author.Tests.{lt-ltb, le-ltb}
use Rattle.effbd.specs.Annex.{digits, number, numbers, line}
use Rattle.text.specs.declared.Text.{Text}
use Rattle.text.specs.Laid.{Laid}
use Rattle.text.specs.LaidLaws.{and_then, same}

-- the letters passed, and one more
pub letter : {a b c : Text} (letters : List ℕ) (i x : ℕ) → i < length letters → x ≡ get_or letters i 0 → Laid a b (take i letters) → Laid b c (x ∷ []) → Laid a c (take (i + 1) letters)
letter letters i x l e v w = same (ap (λ y. take i letters ++ (y ∷ [])) e ∙ (sym (take-suc letters i 0 l) ∙ ap (λ k. take k letters) (sym (add-one i)))) (and_then v w)

-- the digits of a number, by its cases
pub no-digits : (n : ℕ) → digits 0 n ≡ []
unfolding digits
no-digits n = refl

pub one-digit : (most n : ℕ) → most ≢ 0 → n < 10 → digits most n ≡ (48 + n) ∷ []
unfolding digits
one-digit zero n h l = absurd (h refl)
one-digit (suc most) n h l = rw (lt-ltb n 10 l)

pub more-digits : (most n : ℕ) → most ≢ 0 → 10 ≤ n → digits most n ≡ digits (most - 1) (n / 10) ++ ((48 + n % 10) ∷ [])
unfolding digits
more-digits zero n h l = absurd (h refl)
more-digits (suc most) n h l = rw (le-ltb n 10 l) (ap (λ m. digits m (n / 10) ++ ((48 + n % 10) ∷ [])) (let z : most ≡ suc most - 1 = omega arith in z))

-- a line of two numbers
pub line_of : (letters : List ℕ) (first second : ℕ) → ((letters ++ number first) ++ number second) ++ (10 ∷ []) ≡ line letters (first ∷ second ∷ [])
unfolding numbers
line_of letters first second = simp (append_assoc, append-nil)
