-- Past the end: a word is 0, a store changes nothing.
use Prim.Native.Nat.{ℕ, zero, suc, ◌+◌, ◌/◌, ◌%◌, ◌≤◌, ◌<◌}
use mathlib.Core.Path.{◌≡◌, refl, sym, ◌∙◌, ap}
use mathlib.Core.List.{List, [], ◌∷◌, ◌++◌}
use native.Mathlib.Omega.{arith}
use native.Mathlib.Numerals.{add-one}
use lib.ListN.{length, take, drop, get_or, set, length-set, get_or-eq_default}
use lib.Seq.{set_out, take_all}
use borrow.Author.Tests.{le-leb}
use Rattle.effbd.specs.Records.{word}
use Rattle.words.specs.Stores.{long_in, word_put, long_put, copied}

pub word_out : (bytes : List ℕ) (at : ℕ) → length bytes ≤ at → 0 ≡ word bytes at
word_out bytes at h =
    let a = get_or-eq_default bytes 0 {n = at} h in
    let b = get_or-eq_default bytes 0 {n = suc at} (omega arith) in
    omega arith

-- the last byte, or what is past the end, as a word
pub word-last : (bytes : List ℕ) (at byte : ℕ) → length bytes ≤ at + 1 → byte ≡ get_or bytes at 0 → byte ≡ word bytes at
word-last bytes at byte h e = let b = get_or-eq_default bytes 0 {n = suc at} (omega arith) in omega arith

pub long-out : (bytes : List ℕ) (at : ℕ) → length bytes ≤ at → 0 ≡ long_in bytes at
long-out bytes at h =
    let a = word_out bytes at h in
    let b = word_out bytes (at + 2) (omega arith) in
    omega arith

pub word-put-out : (area : List ℕ) (at value : ℕ) → length area ≤ at → area ≡ word_put area at value
word-put-out area at value h =
    sym (ap (λ (l : List ℕ). set l (at + 1) (value / 256)) (set_out area at (value % 256) h) ∙ set_out area (at + 1) (value / 256) (omega arith))

pub long-put-out : (area : List ℕ) (at value : ℕ) → length area ≤ at → area ≡ long_put area at value
long-put-out area at value h =
    word-put-out area at (value % 65536) h ∙ word-put-out (word_put area at (value % 65536)) (at + 2) (value / 65536)
    (let e = length-set area at (value % 65536 % 256) in let f = length-set (set area at (value % 65536 % 256)) (at + 1) (value % 65536 / 256) in omega arith)

-- one more word of the front is copied
front-suc : (to from : List ℕ) (n : ℕ) → n < length to → n < length from → set (take n from ++ drop n to) n (get_or from n 0) ≡ take (suc n) from ++ drop (suc n) to
front-suc [] from n h k = absurd (omega arith)
front-suc (x ∷ to) [] n h k = absurd (omega arith)
front-suc (x ∷ to) (y ∷ from) zero h k = refl
front-suc (x ∷ to) (y ∷ from) (suc n) h k = ap (λ (l : List ℕ). y ∷ l) (front-suc to from n (omega arith) (omega arith))

pub front-more : (to from : List ℕ) (n : ℕ) → n < length to → n < length from → set (take n from ++ drop n to) n (get_or from n 0) ≡ take (n + 1) from ++ drop (n + 1) to
front-more to from n h k = rw add-one (front-suc to from n h k)

pub whole : (to from : List ℕ) (n : ℕ) → length from ≤ length to → n ≤ length from → length from ≤ n → take n from ++ drop n to ≡ copied from to
whole to from n h k l = rw (le-leb (length from) (length to) h) (ap (λ (x : List ℕ). x ++ drop n to) (take_all n from l) ∙ ap (λ (x : ℕ). from ++ drop x to) (let z : n ≡ length from = omega arith in z))
