-- Stores into the first bytes of an area are a telegram there: six of the new edition, four of the old.
use Prim.Native.Nat.{ℕ, zero, suc, ◌+◌, ◌≤◌, ◌<◌}
use mathlib.Core.Path.{◌≡◌, refl, sym, ◌∙◌, ap}
use mathlib.Core.List.{List, ◌∷◌, ◌++◌}
use native.Mathlib.Omega.{arith}
use lib.ListN.{length, get_or, drop}
use lib.Seq.{drop-cons}
use borrow.Author.Tests.{le-leb, lt-leb}
use Rattle.effbd.specs.BusEnds.{telegram}
use Rattle.effbd.specs.Editions.{old_telegram}
use Rattle.words.specs.Stores.{word_put, long_put, copied}

-- n elements of a list written out, then the rest
spelled : ℕ → ℕ → List ℕ → List ℕ
spelled zero at l = drop at l
spelled (suc n) at l = get_or l at 0 ∷ spelled n (suc at) l

spell : (n at : ℕ) (l : List ℕ) → at + n ≤ length l → drop at l ≡ spelled n at l
unfolding spelled
spell zero at l h = refl
spell (suc n) at l h = drop-cons l at 0 (omega arith) ∙ ap (λ (x : List ℕ). get_or l at 0 ∷ x) (spell n (suc at) l (omega arith))

-- bytes that an area has room for, and that it has no room for
pub has_room : (n : ℕ) (bytes area : List ℕ) → length bytes ≡ n → n ≤ length area → bytes ++ drop n area ≡ copied bytes area
has_room n bytes area e h = rw (le-leb (length bytes) (length area) (omega arith)) (ap (λ (k : ℕ). bytes ++ drop k area) (sym e))

pub no_room : (n : ℕ) (bytes area : List ℕ) → length bytes ≡ n → length area < n → area ≡ copied bytes area
no_room n bytes area e h = rw (lt-leb (length bytes) (length area) (omega arith))

abbrev stored : (area : List ℕ) (number station code argument : ℕ) → List ℕ
stored area number station code argument = word_put (word_put (word_put (long_put (word_put (word_put area 0 14) 2 48) 4 number) 8 station) 10 code) 12 argument

written : (area : List ℕ) (number station code argument : ℕ) → 14 ≤ length area
    → stored area number station code argument ≡ telegram number station code argument ++ drop 14 area
unfolding spelled telegram
written area number station code argument h =
    ap (λ (l : List ℕ). stored l number station code argument) (spell 14 0 area h)

pub telegram-size : (number station code argument : ℕ) → length (telegram number station code argument) ≡ 14
unfolding telegram
telegram-size number station code argument = refl

-- THEOREM: an area after the six stores
pub stored_is : (area : List ℕ) {a b c d e after : List ℕ} (number station code argument : ℕ) → 14 ≤ length area
    → a ≡ word_put area 0 14 → b ≡ word_put a 2 48 → c ≡ long_put b 4 number → d ≡ word_put c 8 station → e ≡ word_put d 10 code → after ≡ word_put e 12 argument
    → after ≡ copied (telegram number station code argument) area
stored_is area number station code argument h ea eb ec ed ee ef =
    ef ∙ (ap (λ (l : List ℕ). word_put l 12 argument) (ee ∙ ap (λ (l : List ℕ). word_put l 10 code) (ed ∙ ap (λ (l : List ℕ). word_put l 8 station)
    (ec ∙ ap (λ (l : List ℕ). long_put l 4 number) (eb ∙ ap (λ (l : List ℕ). word_put l 2 48) ea))))
    ∙ (written area number station code argument h ∙ has_room 14 (telegram number station code argument) area (telegram-size number station code argument) h))

-- the same of the old edition: four stores
abbrev old_stored : (area : List ℕ) (code argument : ℕ) → List ℕ
old_stored area code argument = word_put (word_put (word_put (word_put area 0 8) 2 47) 4 code) 6 argument

old-written : (area : List ℕ) (code argument : ℕ) → 8 ≤ length area → old_stored area code argument ≡ old_telegram code argument ++ drop 8 area
unfolding spelled old_telegram
old-written area code argument h = ap (λ (l : List ℕ). old_stored l code argument) (spell 8 0 area h)

pub old-size : (code argument : ℕ) → length (old_telegram code argument) ≡ 8
unfolding old_telegram
old-size code argument = refl

-- THEOREM: an area after the four stores
pub old-stored-is : (area : List ℕ) {a b c after : List ℕ} (code argument : ℕ) → 8 ≤ length area
    → a ≡ word_put area 0 8 → b ≡ word_put a 2 47 → c ≡ word_put b 4 code → after ≡ word_put c 6 argument
    → after ≡ copied (old_telegram code argument) area
old-stored-is area code argument h ea eb ec ed =
    ed ∙ (ap (λ (l : List ℕ). word_put l 6 argument) (ec ∙ ap (λ (l : List ℕ). word_put l 4 code) (eb ∙ ap (λ (l : List ℕ). word_put l 2 47) ea))
    ∙ (old-written area code argument h ∙ has_room 8 (old_telegram code argument) area (old-size code argument) h))
