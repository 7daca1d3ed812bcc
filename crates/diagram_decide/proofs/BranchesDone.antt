-- All BRANCH rows of an AND are done: a test of each on the walk back from the last one.
use Rattle.std.specs.Prelude.{ℕ, zero, suc, ◌≡◌, ◌≢◌, Bool, true, false, cond, ◌&&◌, List, [], ◌∷◌, get_or, ltb, eqb}
use Rattle.std.specs.List.{list_all}
use Rattle.std.proofs.Common.{refl, ap}
use borrow.Author.Tests.{eq-eqb, ne_eqb}
use Rattle.effbd.specs.States.{activity_at}
use Rattle.diagram_table.specs.Cells.{branch_in}
use Rattle.diagram_table.specs.Branches.{branch_rows}
use Rattle.diagram_moves.specs.Decisions.{done_back}

module _ (table state : List ℕ) where
  abbrev pub done : ℕ → Bool
  done q = eqb (get_or state (activity_at q) 0) 3

  pub done-is : (n b : ℕ) → list_all done (branch_rows table n b) ≡ done_back table state n b
  unfolding branch_rows done_back
  done-is zero b = refl
  done-is (suc n) b = ap (λ (x : Bool). done b && x) (go (done-is n (branch_in table b)) (ltb (branch_in table b) b))
    where
      go : list_all done (branch_rows table n (branch_in table b)) ≡ done_back table state n (branch_in table b)
          → (t : Bool) → list_all done (cond t (branch_rows table n (branch_in table b)) []) ≡ cond t (done_back table state n (branch_in table b)) true
      go e true = e
      go e false = refl

  -- the row that is next is not done, or is
  pub row-not : (left more : List ℕ) (row activity : ℕ) (whole : Bool) → left ≡ row ∷ more → activity ≡ get_or state (activity_at row) 0 → activity ≢ 3 → list_all done left ≡ whole → false ≡ whole
  row-not left more row activity whole l a n e = rw (l, ← a, ne_eqb activity 3 n) at e

  pub row-done : (left more : List ℕ) (row activity : ℕ) (whole : Bool) → left ≡ row ∷ more → activity ≡ get_or state (activity_at row) 0 → activity ≡ 3 → list_all done left ≡ whole → list_all done more ≡ whole
  row-done left more row activity whole l a n e = rw (l, ← a, eq-eqb activity 3 n) at e
