-- The pass over the table that finds the structure of the rows. Assumes nothing.
use Rattle.std.specs.Prelude.{ℕ, zero, suc, ◌+◌, ◌-◌, ◌≡◌, cond, ◌&&◌, List, [], ◌∷◌, length, set, leb, eqb}
use Rattle.effbd.specs.Diagrams.{most_rows}
use Rattle.diagram_table.specs.Cells.{cell_of, cell_total, kind_in, owner_in, branch_in, loop_in}
use Rattle.diagram_table.specs.CellStores.{Cell, cell, put_all}
use Rattle.diagram_structure.specs.declared.Around.{Around}
use Rattle.nesting.specs.declared.Part.{Part}
use Rattle.nesting.specs.declared.Part.TheVariants.{Opens, Turns, Closes, Stays}
use Rattle.nesting.specs.Runs.{part_of}

abbrev pub structure_cells : (rows row owner latest looping : ℕ) → List Cell
structure_cells rows row owner latest looping = cell (cell_of 5 row) owner ∷ cell (cell_of 6 row) latest ∷ cell (cell_of 7 row) rows ∷ cell (cell_of 8 row) looping ∷ []

unfoldable pub put_structure : (rows row owner latest looping : ℕ) → List ℕ → List ℕ
put_structure rows row owner latest looping table = put_all (structure_cells rows row owner latest looping) table

-- the table says what a row stands in
pub record AroundAt (t : List ℕ) (row : ℕ) (a : Around) : Type 0 where
  pub owner : a.owner ≡ owner_in t row
  pub latest : a.latest ≡ branch_in t row
  pub looping : a.looping ≡ loop_in t row

abbrev pub looping_in : (kind row looping : ℕ) → ℕ
looping_in kind row looping = cond (eqb kind 24) row looping

-- the structure of row q + 1, by what row q does: an open has itself, a BRANCH turns, a close has what its owner had
abbrev pub followed_as : Part → (rows q : ℕ) → List ℕ → List ℕ
followed_as Opens rows q t = put_structure rows (q + 1) q (q + 1) (looping_in (kind_in t q) q (loop_in t q)) t
followed_as Turns rows q t = put_structure rows (q + 1) (owner_in t q) q (loop_in t q) t
followed_as Closes rows q t =
    put_structure rows (q + 1) (owner_in t (owner_in t q)) (branch_in t (owner_in t q)) (loop_in t (owner_in t q))
    (set t (cell_of 7 (owner_in t q)) q)
followed_as Stays rows q t = put_structure rows (q + 1) (owner_in t q) (branch_in t q) (loop_in t q) t

unfoldable pub followed : (rows q : ℕ) → List ℕ → List ℕ
followed rows q t = followed_as (part_of (kind_in t q)) rows q t

-- the structure of the rows up to and with row n, where that of row 0 stands
unfoldable pub structured : (rows n : ℕ) → List ℕ → List ℕ
structured rows zero t = t
structured rows (suc n) t = followed rows n (structured rows n t)

-- the structure of all rows of a table that has some and not too many; any other list stays as it is
unfoldable pub structure_filled : (rows : ℕ) → List ℕ → List ℕ
structure_filled rows t = cond (eqb (length t) cell_total && (leb 1 rows && leb rows most_rows)) (structured rows (rows - 1) (put_structure rows 0 0 0 0 t)) t
