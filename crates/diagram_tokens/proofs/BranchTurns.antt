-- A walk over an AND's BRANCH rows, from the last one back, is the turns at each of them.
use Rattle.std.specs.Prelude.{ℕ, zero, suc, ◌+◌, ◌<◌, ◌≡◌, Bool, true, false, cond, List, [], ◌∷◌, ltb, fold}
use Rattle.std.proofs.Common.{refl, ap, ◌∙◌}
use Rattle.diagram_table.specs.Cells.{branch_in}
use Rattle.diagram_table.specs.Branches.{branch_rows}
use Rattle.diagram_moves.specs.Changes.{branches_back}

module _ (table : List ℕ) (turn : ℕ → List ℕ → List ℕ) where
  -- the turns at some rows, one after another
  abbrev pub turned : (rows words : List ℕ) → List ℕ
  turned rows words = fold (λ (w : List ℕ) (q : ℕ). turn q w) words rows

  pub walk-is : (n b : ℕ) (words : List ℕ) → turned (branch_rows table n b) words ≡ branches_back table turn n b words
  unfolding branch_rows branches_back
  walk-is zero b words = refl
  walk-is (suc n) b words = go (walk-is n (branch_in table b) (turn b words)) (ltb (branch_in table b) b)
    where
      left : List ℕ
      left = branch_rows table n (branch_in table b)

      whole : List ℕ
      whole = branches_back table turn n (branch_in table b) (turn b words)

      go : turned left (turn b words) ≡ whole → (t : Bool) → turned (cond t left []) (turn b words) ≡ cond t whole (turn b words)
      go e true = e
      go e false = refl

  -- the turn of the next row
  pub walk-on : (whole left more words after : List ℕ) (row : ℕ) → left ≡ row ∷ more → after ≡ turn row words → turned left words ≡ whole → turned more after ≡ whole
  walk-on whole left more words after row l a e = rw a (rw l at e)

  -- where nothing is left, all turns are done
  pub walk-whole : (last : ℕ) (words after rows left : List ℕ) → rows ≡ branch_rows table (last + 1) last → turned left after ≡ turned rows words → left ≡ [] → after ≡ branches_back table turn (last + 1) last words
  walk-whole last words after rows left r e n = rw n at e ∙ (ap (λ (q : List ℕ). turned q words) r ∙ walk-is (last + 1) last words)

-- all of some rows are words
abbrev pub Words : List ℕ → Type 0
Words [] = Unit {0}
Words (row ∷ rows) = (row < 65536) × Words rows

-- a row for a branch that ends is a cell's word
pub rows_words : (table : List ℕ) → ((r : ℕ) → branch_in table r < 65536) → (n b : ℕ) → b < 65536 → Words (branch_rows table n b)
unfolding branch_rows
rows_words table cells zero b h = tt
rows_words table cells (suc n) b h = (h, go (rows_words table cells n (branch_in table b) (cells b)) (ltb (branch_in table b) b))
  where
    go : Words (branch_rows table n (branch_in table b)) → (t : Bool) → Words (cond t (branch_rows table n (branch_in table b)) [])
    go w true = w
    go w false = tt
