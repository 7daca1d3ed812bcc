-- Document 01, items, and document 02, CR 2: what is counted, what rows take and give. Assumes nothing.
use Rattle.std.specs.Prelude.{ℕ, zero, suc, Bool, not, cond, ◌&&◌, List, [], ◌∷◌, ◌++◌, length, get_or, eqb}
use Rattle.effbd.specs.Ranges.{only, tabulate}
use Rattle.effbd.specs.Diagrams.{function, Use, item, Diagram, row_count, item_total, is_trigger, row, is_kind}

-- the take and the give of item k among a row's uses, 0 where there is none
abbrev pub take_of : List Use → ℕ → ℕ
take_of [] k = 0
take_of (u ∷ us) k = cond (eqb u.item k) u.take (take_of us k)

abbrev pub give_of : List Use → ℕ → ℕ
give_of [] k = 0
give_of (u ∷ us) k = cond (eqb u.item k) u.give (give_of us k)

-- what a count counts: an item, "whoever takes from it"; the copy of a trigger for one row
pub data Tally : Type 0 where
  shared : (item : ℕ) → Tally
  copy : (item row : ℕ) → Tally

abbrev pub item_of : Tally → ℕ
item_of (shared k) = k
item_of (copy k r) = k

module _ (d : Diagram) where
  -- of a trigger "a count for each FUNCTION row taking it"
  abbrev pub receives : ℕ → ℕ → Bool
  receives k r = is_trigger d k && (is_kind d function r && not (eqb (take_of (row d r).uses k) 0))

  -- "the copies follow the items, by item and then row": those of item k for the rows below n, those of the items below m
  unfoldable pub copies_of : (k n : ℕ) → List Tally
  copies_of k zero = []
  copies_of k (suc r) = copies_of k r ++ cond (receives k r) (copy k r ∷ []) []

  unfoldable pub copies : (m : ℕ) → List Tally
  copies zero = []
  copies (suc k) = copies k ++ copies_of k (row_count d)

  -- the counts of a state and of a net, in their order
  unfoldable pub tallies : List Tally
  tallies = tabulate (item_total d) shared ++ copies (item_total d)

  unfoldable pub count_total : ℕ
  count_total = length tallies

  unfoldable pub tally : ℕ → Tally
  tally c = get_or tallies c (shared c)

  -- "An item is one count, whoever takes from it"; of a trigger a row takes from its own copy, "A give adds to all of them",
  -- "each starting at the initial count", "Its shared count and place remain 0"
  abbrev pub takes_as : ℕ → Tally → ℕ
  takes_as r (shared k) = cond (is_trigger d k) 0 (take_of (row d r).uses k)
  takes_as r (copy k q) = cond (only q r) (take_of (row d r).uses k) 0

  abbrev pub gives_as : ℕ → Tally → ℕ
  gives_as r (shared k) = cond (is_trigger d k) 0 (give_of (row d r).uses k)
  gives_as r (copy k q) = give_of (row d r).uses k

  abbrev pub initial_as : Tally → ℕ
  initial_as (shared k) = cond (is_trigger d k) 0 (item d k).initial
  initial_as (copy k q) = (item d k).initial

  -- which counts row r takes from and gives to, and how much; the counts that are there at first
  unfoldable pub takes : ℕ → ℕ → ℕ
  takes r c = takes_as r (tally c)

  unfoldable pub gives : ℕ → ℕ → ℕ
  gives r c = gives_as r (tally c)

  unfoldable pub initial_count : ℕ → ℕ
  initial_count c = initial_as (tally c)
