-- Document 01, "Nesting", and 02, CR 3, CR 4 and CR 7: which constructs are open at each row, what may stand there (refusals 7, 44, 8, 48, 9), outlets and
-- their EXITs (49), scenarios that fall through (50), loops that spend no time (45), a whole diagram file. Assumes nothing.
use Rattle.std.specs.Prelude.{ℕ, zero, suc, ◌+◌, ◌-◌, ◌*◌, Bool, true, false, not, cond, ◌&&◌, ◌||◌, List, [], ◌∷◌, length, take, drop, leb, ltb, eqb}
use Rattle.effbd.specs.Ranges.{all_below, least, how_many, only, within, between}
use Rattle.effbd.specs.Answers.{Outcome, accepted, refused, unless, and_then}
use Rattle.effbd.specs.Records.{word, length_at, Got, read_many}
use Rattle.effbd.specs.Diagrams.{Kind, function, and_open, branch, and_close, or_open, or_close, it_open, it_close, lp_open, lp_close, loop_exit, end, box_open, box_close, box_exit, Row, Item, Diagram, row_count, kind, is_kind, alpha, kills, outlet_named, head_fault, item_fault, item_at, row_at, row_fault_in}
use Rattle.effbd.specs.Frames.{Frame, role, is_opening, is_closing, passing, innermost_open, latest_branch, branch_count}

module _ (d : Diagram) where
  -- the constructs that are open when row q is read, innermost first
  unfoldable pub stack : ℕ → List Frame
  stack zero = []
  stack (suc q) = passing (role (kind d q)) q (stack q)

  -- the open row of the construct that row q stands in; of a BRANCH or close, its own construct's
  unfoldable pub owner : ℕ → ℕ
  owner q = innermost_open (stack q)

  -- the BRANCH row of the branch that a BRANCH or close q ends
  abbrev pub branch_ended : ℕ → ℕ
  branch_ended q = latest_branch (stack q)

  abbrev pub is_open : ℕ → Bool
  is_open q = is_opening (role (kind d q))

  abbrev pub is_close : ℕ → Bool
  is_close q = is_closing (role (kind d q))

  -- the close of the construct that row o opens
  unfoldable pub close : ℕ → ℕ
  close o = least (row_count d) (λ c. is_close c && only o (owner c))

  -- b is a BRANCH of the construct that row o opens
  unfoldable pub branch_of : ℕ → ℕ → Bool
  branch_of o b = is_kind d branch b && only o (owner b)

  abbrev pub innermost : Kind → List Frame → ℕ
  innermost k [] = 0
  innermost k (f ∷ fs) = cond (is_kind d k f.opened) f.opened (innermost k fs)

  -- of an LE: "Its loop is the innermost open LP"; the rows from LP open to LP close
  unfoldable pub loop : ℕ → ℕ
  loop r = innermost lp_open (stack r)

  abbrev pub in_loop : ℕ → ℕ → Bool
  in_loop r = within (loop r) (close (loop r))

  -- 02, CR 7: "Row 29 opens one; its scenario's rows follow; then BRANCH rows, its outlets": a frame whose scenario is being read
  abbrev pub in_scenario : Frame → Bool
  in_scenario f = is_kind d box_open f.opened && eqb f.branches 0

  abbrev pub some_scenario : List Frame → Bool
  some_scenario [] = false
  some_scenario (f ∷ fs) = in_scenario f || some_scenario fs

  -- "EXIT belongs to the innermost box whose scenario it is in"
  abbrev pub innermost_scenario : List Frame → ℕ
  innermost_scenario [] = 0
  innermost_scenario (f ∷ fs) = cond (in_scenario f) f.opened (innermost_scenario fs)

  unfoldable pub box : ℕ → ℕ
  box r = innermost_scenario (stack r)

  -- the constructs that are open in a row's own scenario; all of them where it is in none
  abbrev pub own_scenario : List Frame → List Frame
  own_scenario [] = []
  own_scenario (f ∷ fs) = cond (in_scenario f) [] (f ∷ own_scenario fs)

  -- the rows "from 29 to before the first outlet's BRANCH", of the box that row o opens
  unfoldable pub first_outlet : ℕ → ℕ
  first_outlet o = least (row_count d) (branch_of o)

  abbrev pub scenario : ℕ → ℕ → Bool
  scenario o q = leb o q && ltb q (first_outlet o)

  -- outlets are "numbered upward, the first 0": EXIT r leads to the outlet b; the outlet of EXIT r
  unfoldable pub leads : ℕ → ℕ → Bool
  leads r b = is_kind d box_exit r && (branch_of (box r) b && eqb (how_many b (branch_of (box r))) (outlet_named d r))

  unfoldable pub outlet : ℕ → ℕ
  outlet r = least (row_count d) (leads r)

  -- what may stand
  abbrev pub innermost_is : Kind → List Frame → Bool
  innermost_is k [] = false
  innermost_is k (f ∷ fs) = is_kind d k f.opened

  abbrev pub some_open : Kind → List Frame → Bool
  some_open k [] = false
  some_open k (f ∷ fs) = is_kind d k f.opened || some_open k fs

  abbrev pub none_open : List Frame → Bool
  none_open [] = true
  none_open (f ∷ fs) = false

  abbrev pub in_and_or : List Frame → Bool
  in_and_or fs = innermost_is and_open fs || innermost_is or_open fs

  -- "two BRANCH rows or more"
  abbrev pub two_branches : List Frame → Bool
  two_branches fs = leb 2 (branch_count fs)

  -- "AND open and OR open are followed by BRANCH at once"
  abbrev pub follows : ℕ → Bool
  follows zero = true
  follows (suc p) = not (is_kind d and_open p || is_kind d or_open p) || is_kind d branch (suc p)

  -- "each has two BRANCH rows or more"; "A BRANCH needs an innermost open AND or OR; a close needs its own kind innermost"; of one that kills "in an OR it is 7";
  -- of a box's BRANCH rows "28 there is 7", "two or more";
  -- "END is the last row only, with nothing open"
  abbrev pub stands_as : Kind → ℕ → List Frame → Bool
  stands_as function q fs = true
  stands_as and_open q fs = true
  stands_as branch q fs = (in_and_or fs || innermost_is box_open fs) && (not (kills d q) || innermost_is and_open fs)
  stands_as and_close q fs = innermost_is and_open fs && two_branches fs
  stands_as or_open q fs = true
  stands_as or_close q fs = innermost_is or_open fs && two_branches fs
  stands_as it_open q fs = true
  stands_as it_close q fs = innermost_is it_open fs
  stands_as lp_open q fs = true
  stands_as lp_close q fs = innermost_is lp_open fs
  stands_as loop_exit q fs = true
  stands_as end q fs = none_open fs && eqb (suc q) (row_count d)
  stands_as box_open q fs = true
  stands_as box_close q fs = innermost_is box_open fs && two_branches fs
  stands_as box_exit q fs = true

  -- 7: "Refusal 7 stands at the first row that may not follow the rows before it, or at a last row other than END"
  unfoldable pub nesting_broken : ℕ → Bool
  nesting_broken q = not (follows q && (stands_as (kind d q) q (stack q) && (not (eqb (suc q) (row_count d)) || is_kind d end q)))

  -- 44: "a killing branch is empty, at its row, between 7 and 8"
  unfoldable pub killer_empty : ℕ → Bool
  killer_empty q = is_kind d branch q && (kills d q && (is_kind d branch (suc q) || is_kind d and_close (suc q)))

  -- "a BRANCH or that construct's close as next row", of the innermost open construct
  abbrev pub ends_run : ℕ → List Frame → Bool
  ends_run q fs = is_kind d branch (suc q) || ((innermost_is and_open fs && is_kind d and_close (suc q))
      || ((innermost_is or_open fs && is_kind d or_close (suc q)) || (innermost_is box_open fs && is_kind d box_close (suc q))))

  -- 8: "An LE needs an innermost open AND or OR, some open LP, and a BRANCH or that construct's close as next row"; 02, CR 7:
  -- "an LE's loop must lie in the LE's own scenario (else 8)"
  unfoldable pub exit_misplaced : ℕ → Bool
  exit_misplaced q = is_kind d loop_exit q && not (in_and_or (stack q) && (some_open lp_open (own_scenario (stack q)) && ends_run q (stack q)))

  -- 48: "EXIT outside a scenario, or innermost open construct IT or LP, or next row not BRANCH or that construct's close, at its row after 8"
  unfoldable pub box_exit_misplaced : ℕ → Bool
  box_exit_misplaced q = is_kind d box_exit q
      && not (some_scenario (stack q) && (not (innermost_is it_open (stack q) || innermost_is lp_open (stack q)) && ends_run q (stack q)))

  -- 9: "at most 12 open together"; row 29 "counts as an open"
  unfoldable pub thirteenth_open : ℕ → Bool
  thirteenth_open q = is_open q && leb 12 (length (stack q))

  -- "Then rows upward, at a row 7, 8, 9"; 44 "between 7 and 8"; 48 "after 8"
  unfoldable pub nesting_fault : ℕ → ℕ
  nesting_fault q = cond (nesting_broken q) 7 (cond (killer_empty q) 44 (cond (exit_misplaced q) 8 (cond (box_exit_misplaced q) 48 (cond (thirteenth_open q) 9 0))))

  -- 49: "outlets and EXIT rows not one to one", of the box that row o opens
  unfoldable pub not_one_to_one : ℕ → Bool
  not_one_to_one o = is_kind d box_open o && not (all_below (row_count d) (λ b. not (branch_of o b) || eqb (how_many (row_count d) (λ r. leads r b)) 1)
      && all_below (row_count d) (λ r. not (is_kind d box_exit r && only o (box r)) || eqb (how_many (row_count d) (leads r)) 1))

  abbrev pub outlet_fault : ℕ → ℕ
  outlet_fault q = cond (not_one_to_one q) 49 0

  -- some LE leaves the loop that row o opens; row e ends a branch of the AND or OR that row o opens
  unfoldable pub loop_left : ℕ → Bool
  loop_left o = not (all_below (row_count d) (λ r. not (is_kind d loop_exit r && only o (loop r))))

  unfoldable pub ends_branch : ℕ → ℕ → Bool
  ends_branch o e = (is_kind d branch e || is_close e) && (only o (owner e) && ltb (suc o) e)

  -- "A run falls through unless its last construct is EXIT, LE, LP (one that no LE leaves), an OR none of whose branches fall through,
  -- or an AND with one that doesn't and no killing branch that does": the run whose last row is p; `falls e`: the branch that row e ends does
  abbrev pub falls_as : Kind → (ℕ → Bool) → ℕ → Bool
  falls_as function falls p = true
  falls_as and_open falls p = true
  falls_as branch falls p = true
  falls_as and_close falls p = all_below (row_count d) (λ e. elim (ends_branch (owner p) e) [ true ↦ falls e | false ↦ true ])
      || not (all_below (row_count d) (λ e. elim (ends_branch (owner p) e && kills d (branch_ended e)) [ true ↦ not (falls e) | false ↦ true ]))
  falls_as or_open falls p = true
  falls_as or_close falls p = not (all_below (row_count d) (λ e. elim (ends_branch (owner p) e) [ true ↦ not (falls e) | false ↦ true ]))
  falls_as it_open falls p = true
  falls_as it_close falls p = true
  falls_as lp_open falls p = true
  falls_as lp_close falls p = loop_left (owner p)
  falls_as loop_exit falls p = false
  falls_as end falls p = true
  falls_as box_open falls p = true
  falls_as box_close falls p = true
  falls_as box_exit falls p = false

  -- the run before row q falls through; the first number, of rows, falls with each construct and, begun at q, never runs out
  unfoldable pub falls_into : ℕ → ℕ → Bool
  falls_into zero q = true
  falls_into (suc n) zero = true
  falls_into (suc n) (suc p) = falls_as (kind d p) (falls_into n) p

  -- 50: "a scenario falls through", of the box that row o opens
  unfoldable pub scenario_falls : ℕ → Bool
  scenario_falls o = is_kind d box_open o && falls_into (first_outlet o) (first_outlet o)

  abbrev pub scenario_fault : ℕ → ℕ
  scenario_fault q = cond (scenario_falls q) 50 0

  -- "FUNCTION of α at least 1"
  abbrev pub spends_time : ℕ → Bool
  spends_time q = is_kind d function q && leb 1 (alpha d q)

  -- 45: "An LP with no FUNCTION of α at least 1 between open and close", at its open
  unfoldable pub spends_no_time : ℕ → Bool
  spends_no_time o = is_kind d lp_open o && all_below (row_count d) (λ q. not (between o (close o) q && spends_time q))

  abbrev pub loop_fault : ℕ → ℕ
  loop_fault q = cond (spends_no_time q) 45 0

  -- the lowest row with a fault; turned away there, or on
  unfoldable pub first_faulty : (fault : ℕ → ℕ) → ℕ
  first_faulty fault = least (row_count d) (λ q. not (eqb (fault q) 0))

  unfoldable pub unless_row : (fault : ℕ → ℕ) → Outcome Diagram → Outcome Diagram
  unless_row fault on = cond (ltb (first_faulty fault) (row_count d)) (refused (fault (first_faulty fault)) (first_faulty fault)) on

  -- "Then rows upward"; 49 and 50 "each at its lowest box, 49 first, after the walk and before 45"; 45 "lowest such LP row"
  unfoldable pub nested : Outcome Diagram
  nested = unless_row nesting_fault (unless_row outlet_fault (unless_row scenario_fault (unless_row loop_fault (accepted d))))

-- a diagram file: the head, M items, N rows; "after the last, 6"; then the nesting
unfoldable pub after_rows : List ℕ → List Item → Got (List Row) → Outcome Diagram
after_rows file items got =
    unless (cond (eqb (length got.rest) 0) 0 6) (length file - length got.rest) (nested (record { rows = got.value; items = items }))

unfoldable pub after_items : List ℕ → Got (List Item) → Outcome Diagram
after_items file got = and_then (read_many (row_fault_in got.value) row_at (length file) (word file 6) got.rest) (after_rows file got.value)

unfoldable pub read_diagram : List ℕ → Outcome Diagram
read_diagram file =
    unless (head_fault file) 0 (and_then (read_many item_fault item_at (length file) (word file 8) (drop 10 file)) (after_items file))

-- the rest of a file n records further on; from the record of row r on
unfoldable pub skip : ℕ → List ℕ → List ℕ
skip zero rest = rest
skip (suc n) rest = skip n (drop (length_at rest) rest)

unfoldable pub from_row : List ℕ → ℕ → List ℕ
from_row file r = skip r (skip (word file 8) (drop 10 file))

-- a part of a file
pub record Part : Type 0 where
  pub start : ℕ
  pub size : ℕ

-- its bytes; where it lies, in one number of 64 bits
abbrev pub part_in : List ℕ → Part → List ℕ
part_in file part = take part.size (drop part.start file)

abbrev pub packed_part : Part → ℕ
packed_part part = part.start * 4294967296 + part.size

abbrev pub uses_part_of : List ℕ → ℕ → Outcome Diagram → Part
uses_part_of file r (refused number value) = record { start = 0; size = 0 }
uses_part_of file r (accepted d) = cond (is_kind d function r)
    (record { start = length file - length (from_row file r) + 8; size = length_at (from_row file r) - 8 })
    (record { start = 0; size = 0 })

-- "The uses of one FUNCTION row are handed back as the very bytes of the caller's file; for a refused file or another row, an empty part at the file's start"
unfoldable pub uses_part : List ℕ → ℕ → Part
uses_part file r = uses_part_of file r (read_diagram file)
