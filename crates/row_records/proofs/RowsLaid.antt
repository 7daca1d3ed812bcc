-- What stands in the table while rows are read: laying what is due from here on is laying all.
use Prim.Native.Nat.{ℕ, suc, ◌+◌, ◌-◌, ◌<◌}
use mathlib.Core.Path.{◌≡◌, sym, ◌∙◌}
use mathlib.Core.Logic.{◌≢◌}
use mathlib.Core.List.{List}
use native.Mathlib.Omega.{arith}
use lib.ListN.{drop}
use borrow.Author.Tests.{ne_eqb}
use Rattle.effbd.specs.Records.{word}
use Rattle.effbd.specs.Diagrams.{row_fault}
use Rattle.row_records.specs.Rows.{fill_row, rows_laid}

-- the first turn of the loop
pub rows-due : (items at n : ℕ) (l t : List ℕ) → rows_laid items 0 at (n - 0) l t ≡ rows_laid items 0 at n l t
rows-due items at n l t = let z : n - 0 ≡ n = omega arith in rw z

module _ (items row at n : ℕ) (rest t : List ℕ) where
  pub row_laid : {k size : ℕ} {more u : List ℕ} → row < n → k ≡ row_fault items rest → k ≡ 0 → size ≡ word rest 0 → more ≡ drop size rest → u ≡ fill_row row at rest t
      → rows_laid items (row + 1) (at + size) (n - (row + 1)) more u ≡ rows_laid items row at (n - row) rest t
  unfolding rows_laid
  row_laid l ek z es em eu = let e : n - row ≡ suc (n - (row + 1)) = omega arith in let f : row_fault items rest ≡ 0 = sym ek ∙ z in rw (em, es, eu, e, f)

  pub rows-laid-stop : {k : ℕ} → row < n → k ≡ row_fault items rest → k ≢ 0 → t ≡ rows_laid items row at (n - row) rest t
  unfolding rows_laid
  rows-laid-stop l ek ne = let e : n - row ≡ suc (n - (row + 1)) = omega arith in rw (e, ne_eqb (row_fault items rest) 0 (λ q. ne (ek ∙ q)))

  pub rows-laid : row ≡ n → t ≡ rows_laid items row at (n - row) rest t
  unfolding rows_laid
  rows-laid l = let e : n - row ≡ 0 = omega arith in rw e
