-- Rows of a state: one at rest passes the check; the rows first, then the shared counts.
use Prim.Native.Nat.{ℕ, ◌+◌, ◌*◌}
use mathlib.Core.Path.{◌≡◌, refl, sym, ◌∙◌}
use mathlib.Core.Bool.{Bool, true, false, cond, ◌&&◌}
use mathlib.Core.List.{List}
use native.Mathlib.Omega.{arith}
use lib.Dec.{eqb}
use lib.ListN.{length}
use borrow.Author.Tests.{le-leb, eqb-true}
use Rattle.effbd.specs.Ranges.{all_below}
use Rattle.ranges.specs.Tests.{and_left, and_right, and_intro}
use Rattle.diagram_table.specs.Cells.{kind_in, first_in}
use Rattle.diagram_moves.specs.Decisions.{activity_allowed, turns_allowed, clock_allowed, row_allowed, shared_allowed, state_allowed}

-- a row at rest passes, whatever its kind
always : (b : Bool) {x y : Bool} → x ≡ true → y ≡ true → cond b x y ≡ true
always true p q = p
always false p q = q

pub rest-allowed : (table : List ℕ) (r a n c : ℕ) → (eqb a 0 && (eqb n 0 && eqb c 0)) ≡ true → (activity_allowed table r a && (turns_allowed table r n && clock_allowed table r a c)) ≡ true
unfolding activity_allowed turns_allowed clock_allowed
rest-allowed table r a n c h =
    rw (eqb-true a 0 (and_left (eqb a 0) _ h), eqb-true n 0 (and_left (eqb n 0) _ (and_right (eqb a 0) _ h)), eqb-true c 0 (and_right (eqb n 0) _ (and_right (eqb a 0) _ h)))
    (and_intro (always (k 16) refl (always (k 18) refl (always (k 19) refl refl))) (and_intro (always (k 22) (le-leb 0 (first_in table r) (omega arith)) refl) refl))
  where
    k : ℕ → Bool
    k n = eqb (kind_in table r) n

-- the rows of a state first, then the shared counts
and-off : (x y z : Bool) → (x && y) ≡ false → (x && (y && z)) ≡ false
and-off true y z e = rw e
and-off false y z e = refl

and-on : (x y z : Bool) → (x && y) ≡ true → (x && (y && z)) ≡ z
and-on x y z e = rw (and_left x y e, and_right x y e)

module _ (table : List ℕ) (rows items counts : ℕ) (l : List ℕ) {b : Bool} (told : b ≡ (eqb (length l) (3 * rows + counts) && all_below rows (row_allowed table l))) where
  pub rows-off : b ≡ false → false ≡ state_allowed table rows items counts l
  unfolding state_allowed
  rows-off e = sym (and-off (eqb (length l) (3 * rows + counts)) (all_below rows (row_allowed table l)) (shared_allowed table rows items l) (sym told ∙ e))

  pub rows_pass : b ≡ true → state_allowed table rows items counts l ≡ shared_allowed table rows items l
  unfolding state_allowed
  rows_pass e = and-on (eqb (length l) (3 * rows + counts)) (all_below rows (row_allowed table l)) (shared_allowed table rows items l) (sym told ∙ e)
