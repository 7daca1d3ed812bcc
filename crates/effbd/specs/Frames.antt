-- Document 01, "Nesting", and 02, CR 7: the constructs that are open, and what a row does to them. Assumes nothing.
use Rattle.std.specs.Prelude.{ℕ, suc, Bool, true, false, List, [], ◌∷◌}
use Rattle.effbd.specs.Diagrams.{Kind, function, and_open, branch, and_close, or_open, or_close, it_open, it_close, lp_open, lp_close, loop_exit, end, box_open, box_close, box_exit}

-- a construct that is open: its open row, its latest BRANCH (at first the row after the open), how many BRANCH rows it has so far
pub record Frame : Type 0 where
  pub opened : ℕ
  pub latest : ℕ
  pub branches : ℕ

abbrev pub push : ℕ → List Frame → List Frame
push q fs = record { opened = q; latest = suc q; branches = 0 } ∷ fs

abbrev pub turn_to : ℕ → List Frame → List Frame
turn_to q [] = []
turn_to q (f ∷ fs) = record { opened = f.opened; latest = q; branches = suc f.branches } ∷ fs

abbrev pub pop : List Frame → List Frame
pop [] = []
pop (f ∷ fs) = fs

-- what a row does to the constructs that are open
pub data Role : Type 0 where
  opening turning closing staying : Role

abbrev pub role : Kind → Role
role function = staying
role and_open = opening
role branch = turning
role and_close = closing
role or_open = opening
role or_close = closing
role it_open = opening
role it_close = closing
role lp_open = opening
role lp_close = closing
role loop_exit = staying
role end = staying
role box_open = opening
role box_close = closing
role box_exit = staying

abbrev pub is_opening : Role → Bool
is_opening opening = true
is_opening turning = false
is_opening closing = false
is_opening staying = false

abbrev pub is_closing : Role → Bool
is_closing opening = false
is_closing turning = false
is_closing closing = true
is_closing staying = false

-- what is open behind row q, where `fs` is open before it: an open adds its construct, a BRANCH turns the innermost one, a close takes it off
abbrev pub passing : Role → ℕ → List Frame → List Frame
passing opening q fs = push q fs
passing turning q fs = turn_to q fs
passing closing q fs = pop fs
passing staying q fs = fs

abbrev pub innermost_open : List Frame → ℕ
innermost_open [] = 0
innermost_open (f ∷ fs) = f.opened

abbrev pub latest_branch : List Frame → ℕ
latest_branch [] = 0
latest_branch (f ∷ fs) = f.latest

abbrev pub branch_count : List Frame → ℕ
branch_count [] = 0
branch_count (f ∷ fs) = f.branches
