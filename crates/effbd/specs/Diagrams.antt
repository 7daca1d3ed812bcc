-- Document 01, "Diagram records", and document 02, CR 2: a diagram and its records in a file (refusals 1 to 5, 43). Assumes nothing.
use Rattle.std.specs.Prelude.{ℕ, zero, suc, ◌+◌, ◌-◌, ◌/◌, ◌%◌, Bool, true, not, cond, ◌&&◌, ◌||◌, false, List, [], ◌∷◌, length, get_or, drop, leb, ltb, eqb}
use Rattle.effbd.specs.Records.{word, length_at, kind_at, length_of, fault_at}
use Rattle.effbd.specs.Answers.{or_else}

-- the kinds of rows, and their numbers
pub data Kind : Type 0 where
  function and_open branch and_close or_open or_close it_open it_close lp_open lp_close loop_exit end box_open box_close box_exit : Kind

abbrev pub number_of : Kind → ℕ
number_of function = 16
number_of and_open = 17
number_of branch = 18
number_of and_close = 19
number_of or_open = 20
number_of or_close = 21
number_of it_open = 22
number_of it_close = 23
number_of lp_open = 24
number_of lp_close = 25
number_of loop_exit = 26
number_of end = 27
number_of box_open = 29
number_of box_close = 30
number_of box_exit = 31

abbrev pub same_kind : Kind → Kind → Bool
same_kind k j = eqb (number_of k) (number_of j)

-- the kind of a number from 16 to 31; 02, CR 3: "Row 28 is a BRANCH of an AND that kills"; CR 7: "Row 29 opens" a box, "row 30 closes it", "Row 31 is EXIT"
unfoldable pub kind_of : ℕ → Kind
kind_of n = cond (eqb n 16) function (cond (eqb n 17) and_open (cond (eqb n 18) branch (cond (eqb n 19) and_close (cond (eqb n 20) or_open (cond (eqb n 21) or_close
    (cond (eqb n 22) it_open (cond (eqb n 23) it_close (cond (eqb n 24) lp_open (cond (eqb n 25) lp_close (cond (eqb n 26) loop_exit
    (cond (eqb n 28) branch (cond (eqb n 29) box_open (cond (eqb n 30) box_close (cond (eqb n 31) box_exit end))))))))))))))

-- "uses (item, take, give)"
pub record Use : Type 0 where
  pub item : ℕ
  pub take : ℕ
  pub give : ℕ

-- a row: `first` is α of a FUNCTION, the count of an IT open, 1 at a BRANCH that kills or the outlet that an EXIT names, `second` is β; 0 where the kind has no such field
pub record Row : Type 0 where
  pub kind : Kind
  pub first : ℕ
  pub second : ℕ
  pub uses : List Use

abbrev pub plain : Kind → Row
plain k = record { kind = k; first = 0; second = 0; uses = [] }

-- "2 item, length 6: initial count"; "Item kind 3, otherwise like 2, is a trigger"
pub record Item : Type 0 where
  pub initial : ℕ
  pub trigger : Bool

abbrev pub no_item : Item
no_item = record { initial = 0; trigger = false }

-- "A row is numbered from 0 by its place"
pub record Diagram : Type 0 where
  pub rows : List Row
  pub items : List Item

module _ (d : Diagram) where
  -- N
  abbrev pub row_count : ℕ
  row_count = length d.rows

  -- M
  abbrev pub item_total : ℕ
  item_total = length d.items

  abbrev pub item : ℕ → Item
  item k = get_or d.items k no_item

  abbrev pub is_trigger : ℕ → Bool
  is_trigger k = (item k).trigger

  -- a number that no row has stands for an END, which never steps
  abbrev pub row : ℕ → Row
  row r = get_or d.rows r (plain end)

  abbrev pub kind : ℕ → Kind
  kind r = (row r).kind

  abbrev pub is_kind : Kind → ℕ → Bool
  is_kind k r = same_kind (kind r) k

  -- α and β of a FUNCTION row, the count of an IT open
  abbrev pub alpha : ℕ → ℕ
  alpha r = (row r).first

  abbrev pub beta : ℕ → ℕ
  beta r = (row r).second

  abbrev pub turn_limit : ℕ → ℕ
  turn_limit r = (row r).first

  -- of a BRANCH: it kills
  abbrev pub kills : ℕ → Bool
  kills b = eqb (row b).first 1

  -- of an EXIT: "its field names an outlet"
  abbrev pub outlet_named : ℕ → ℕ
  outlet_named r = (row r).first

-- "1 head, length 10: edition 1, rows N (1 to 64), items M (0 to 16)"; "The edition 1, the 64 rows and 16 items are constants of the diagram"
abbrev pub edition : ℕ
edition = 1

abbrev pub most_rows : ℕ
most_rows = 64

abbrev pub most_items : ℕ
most_items = 16

unfoldable pub head_fault : List ℕ → ℕ
head_fault bytes = fault_at bytes (eqb (kind_at bytes) 1) (eqb (length_at bytes) (length_of 1))
    (eqb (word bytes 4) edition && (leb 1 (word bytes 6) && (leb (word bytes 6) most_rows && leb (word bytes 8) most_items))) 4

-- "2 item, length 6: initial count"; "Item kind 3, otherwise like 2, is a trigger"
unfoldable pub item_fault : List ℕ → ℕ
item_fault bytes = fault_at bytes (eqb (kind_at bytes) 2 || eqb (kind_at bytes) 3) (eqb (length_at bytes) (length_of (kind_at bytes))) true 5

abbrev pub item_at : List ℕ → Item
item_at bytes = record { initial = word bytes 4; trigger = eqb (kind_at bytes) 3 }

-- "then u uses (item, take, give)"
unfoldable pub uses_at : ℕ → List ℕ → List Use
uses_at zero bytes = []
uses_at (suc u) bytes = record { item = word bytes 0; take = word bytes 2; give = word bytes 4 } ∷ uses_at u (drop 6 bytes)

-- "item numbers below M and rising, take and give not both 0"
unfoldable pub uses_fine : ℕ → ℕ → List Use → Bool
uses_fine M from [] = true
uses_fine M from (u ∷ us) = leb from u.item && (ltb u.item M && (not (eqb (u.take + u.give) 0) && uses_fine M (suc u.item) us))

-- "16 FUNCTION, length 8 + 6u: α, β, then u uses"; "22 IT open, length 6: count"; "Row 31, length 6, is EXIT; its field names an outlet";
-- the others have no field (a 28 is a BRANCH that kills)
unfoldable pub row_at : List ℕ → Row
row_at bytes = record {
  kind = kind_of (kind_at bytes);
  first = cond (eqb (kind_at bytes) 16 || eqb (kind_at bytes) 22 || eqb (kind_at bytes) 31) (word bytes 4) (cond (eqb (kind_at bytes) 28) 1 0);
  second = cond (eqb (kind_at bytes) 16) (word bytes 6) 0;
  uses = cond (eqb (kind_at bytes) 16) (uses_at ((length_at bytes - 8) / 6) (drop 8 bytes)) [];
}

-- "length 8 + 6u, u at most M"; of the other kinds the table's
unfoldable pub row_right : ℕ → List ℕ → Bool
row_right M bytes = cond (eqb (kind_at bytes) 16)
    (leb 8 (length_at bytes) && (eqb ((length_at bytes - 8) % 6) 0 && leb ((length_at bytes - 8) / 6) M))
    (eqb (length_at bytes) (length_of (kind_at bytes)))

-- "α ≤ β", the uses; "count 2 to 255"
abbrev pub row_fine_as : Kind → ℕ → Row → Bool
row_fine_as function M r = leb r.first r.second && uses_fine M 0 r.uses
row_fine_as and_open M r = true
row_fine_as branch M r = true
row_fine_as and_close M r = true
row_fine_as or_open M r = true
row_fine_as or_close M r = true
row_fine_as it_open M r = leb 2 r.first && leb r.first 255
row_fine_as it_close M r = true
row_fine_as lp_open M r = true
row_fine_as lp_close M r = true
row_fine_as loop_exit M r = true
row_fine_as end M r = true
row_fine_as box_open M r = true
row_fine_as box_close M r = true
row_fine_as box_exit M r = true

unfoldable pub row_fine : ℕ → Row → Bool
row_fine M r = row_fine_as r.kind M r

-- "Then N rows", of the kinds 16 to 31
unfoldable pub row_fault : ℕ → List ℕ → ℕ
row_fault M bytes = fault_at bytes (leb 16 (kind_at bytes) && leb (kind_at bytes) 31) (row_right M bytes) (row_fine M (row_at bytes)) 5

-- 43: "a trigger's take or give above 1"
unfoldable pub triggers_fine : List Item → List Use → Bool
triggers_fine items [] = true
triggers_fine items (u ∷ us) = (not (get_or items u.item no_item).trigger || (leb u.take 1 && leb u.give 1)) && triggers_fine items us

-- a row of a diagram with these items: 43 "after 5 at the same record"
unfoldable pub row_fault_in : List Item → List ℕ → ℕ
row_fault_in items bytes = or_else (row_fault (length items) bytes) (cond (triggers_fine items (row_at bytes).uses) 0 43)
