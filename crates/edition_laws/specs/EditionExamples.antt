-- Runs converted, computed: each call's answer and what it leaves in the area (255 before) and in the lent numbers (station 3, first 4 before).
use Rattle.std.specs.Prelude.{ℕ, ◌≡◌, refl, List, [], ◌∷◌, ◌++◌, take, replicate}
use Rattle.effbd.specs.Answers.{Outcome, accepted, refused}
use Rattle.effbd.specs.BusEnds.{telegram}
use Rattle.effbd.specs.Editions.{old_telegram, old_fault, new_fault, convert_from, new_of, upward, old_of, downward, stopping, Upped, telegrams_up, Downed, telegrams_down}

abbrev blank : ℕ → List ℕ
blank n = replicate n 255

abbrev upped : Outcome ℕ → List ℕ → Upped
upped answer area = record { answer = answer; area = area }

abbrev downed : Outcome ℕ → List ℕ → ℕ → ℕ → Downed
downed answer area station first = record { answer = answer; area = area; station = station; first = first }

abbrev down : List ℕ → ℕ → Downed
down run room = telegrams_down run (blank room) 3 4

-- two setpoints: step 0, wait 300
abbrev two : List ℕ
two = old_telegram 1 0 ++ old_telegram 2 300

pub up-examples :
    -- an empty run, also where no number is left
    (telegrams_up [] 9 5 (blank 2) ≡ upped (accepted 0) (255 ∷ 255 ∷ []))
    -- byte by byte, over the number's low half; what lies beyond is kept
    × (telegrams_up (8 ∷ 0 ∷ 47 ∷ 0 ∷ 1 ∷ 0 ∷ 0 ∷ 0 ∷ 8 ∷ 0 ∷ 47 ∷ 0 ∷ 2 ∷ 0 ∷ 44 ∷ 1 ∷ []) 9 65535 (blank 30)
    ≡ upped (accepted 28) (14 ∷ 0 ∷ 48 ∷ 0 ∷ 255 ∷ 255 ∷ 0 ∷ 0 ∷ 9 ∷ 0 ∷ 1 ∷ 0 ∷ 0 ∷ 0 ∷ 14 ∷ 0 ∷ 48 ∷ 0 ∷ 0 ∷ 0 ∷ 1 ∷ 0 ∷ 9 ∷ 0 ∷ 2 ∷ 0 ∷ 44 ∷ 1 ∷ 255 ∷ 255 ∷ []))
    × (telegrams_up [] 9 4294967295 [] ≡ upped (accepted 0) [])
    -- first number 0; the last number; past it
    × (telegrams_up (old_telegram 1 0) 9 0 (blank 14) ≡ upped (accepted 14) (telegram 0 9 1 0))
    × (telegrams_up (old_telegram 1 0) 9 4294967295 (blank 14) ≡ upped (accepted 14) (telegram 4294967295 9 1 0))
    × (telegrams_up two 9 4294967295 (blank 28) ≡ upped (refused 46 1) (blank 28))
    -- a new telegram's kind; 30 before 46; the first telegram off decides
    × (telegrams_up (old_telegram 1 0 ++ (8 ∷ 0 ∷ 48 ∷ 0 ∷ 2 ∷ 0 ∷ 44 ∷ 1 ∷ [])) 9 1 (blank 28) ≡ upped (refused 30 1) (blank 28))
    × (telegrams_up (old_telegram 1 0 ++ (8 ∷ 0 ∷ 48 ∷ 0 ∷ 2 ∷ 0 ∷ 44 ∷ 1 ∷ [])) 9 4294967295 (blank 28) ≡ upped (refused 30 1) (blank 28))
    × (telegrams_up (two ++ (0 ∷ [])) 9 4294967295 (blank 42) ≡ upped (refused 46 1) (blank 42))
    -- bytes left over; a short area
    × (telegrams_up (take 15 two) 9 1 (blank 28) ≡ upped (refused 30 1) (blank 28))
    × (telegrams_up two 9 1 (blank 27) ≡ upped (refused 10 28) (blank 27))
unfolding old_telegram telegram old_fault convert_from new_of upward telegrams_up
up-examples = (refl, refl, refl, refl, refl, refl, refl, refl, refl, refl, refl)

pub down-examples :
    -- an empty run: station and first number are 0
    (down [] 2 ≡ downed (accepted 0) (255 ∷ 255 ∷ []) 0 0)
    × (down (telegram 65535 9 1 0 ++ telegram 65536 9 2 300) 17 ≡ downed (accepted 16) (two ++ (255 ∷ [])) 9 65535)
    -- first number 0
    × (down (telegram 0 9 1 0) 8 ≡ downed (accepted 8) (old_telegram 1 0) 9 0)
    -- a number that does not rise; another station; both; the number after the last
    × (down (telegram 7 9 1 0 ++ telegram 7 9 2 300) 16 ≡ downed (refused 46 1) (blank 16) 3 4)
    × (down (telegram 7 9 1 0 ++ telegram 8 8 2 300) 16 ≡ downed (refused 47 1) (blank 16) 3 4)
    × (down (telegram 7 9 1 0 ++ telegram 9 8 2 300) 16 ≡ downed (refused 46 1) (blank 16) 3 4)
    × (down (telegram 4294967295 9 1 0 ++ telegram 0 9 2 300) 16 ≡ downed (refused 46 1) (blank 16) 3 4)
    -- bytes left over; a short area
    × (down (take 27 (telegram 7 9 1 0 ++ telegram 8 9 2 300)) 16 ≡ downed (refused 30 1) (blank 16) 3 4)
    × (down (telegram 7 9 1 0 ++ telegram 8 9 2 300) 15 ≡ downed (refused 10 16) (blank 15) 3 4)
unfolding old_telegram telegram new_fault convert_from old_of downward telegrams_down
down-examples = (refl, refl, refl, refl, refl, refl, refl, refl, refl)

-- a value that 32 bits can hold, and those that they cannot
pub stopping-examples : (stopping 4294967295 ≡ 4294967295) × (stopping 4294967296 ≡ 4294967295) × (stopping 60129542144 ≡ 4294967295)
stopping-examples = (refl, refl, refl)
