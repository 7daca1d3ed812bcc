-- What a writer leaves: records of words, laid one after another into an area. Assumes nothing.
use Rattle.std.specs.Prelude.{ℕ, zero, suc, ◌+◌, ◌-◌, ◌≡◌, cond, List, [], ◌∷◌, ◌++◌, length, leb}
use Rattle.std.proofs.lemmas.List.Edits.{sets}
use Rattle.effbd.specs.Records.{word_bytes}
use Rattle.net_records.specs.declared.Writer.{Writer}

-- records in the order of the file, each its words
abbrev pub Records : Type 0
Records = List (List ℕ)

-- the bytes of words, and of records
unfoldable pub encode : List ℕ → List ℕ
encode [] = []
encode (w ∷ ws) = word_bytes w ++ encode ws

unfoldable pub flat : Records → List ℕ
flat [] = []
flat (r ∷ rs) = encode r ++ flat rs

-- the offset k bytes on; far above every net's length it stands still, so that no sum can fail
abbrev pub offset_limit : ℕ
offset_limit = 1000000000

unfoldable pub past : ℕ → ℕ → ℕ
past at k = cond (leb at offset_limit) (at + k) at

-- records laid into an area from `at` on (past its end a store changes nothing), and where the next one is due
unfoldable pub laid : List ℕ → ℕ → Records → List ℕ
laid area at [] = area
laid area at (r ∷ rs) = laid (sets area at (encode r)) (past at (length (encode r))) rs

unfoldable pub reach : ℕ → Records → ℕ
reach at [] = at
reach at (r ∷ rs) = reach (past at (length (encode r))) rs

-- what every writer promises: the area is the records laid into what it was, the next one is due behind them, and the area is still the caller's
pub record Wrote (before after : Writer) (records : Records) : Type 0 where
  pub area : after.area.now ≡ laid before.area.now before.at records
  pub reached : after.at ≡ reach before.at records
  pub lender : after.area.ghost_name ≡ before.area.ghost_name

-- what the first n turns of a loop write
unfoldable pub runs : (ℕ → Records) → ℕ → Records
runs f zero = []
runs f (suc n) = runs f n ++ f n

-- and the turns from `start` up to but not including `stop`
unfoldable pub span : (ℕ → Records) → (start stop : ℕ) → Records
span f start stop = runs (λ i. f (start + i)) (stop - start)
