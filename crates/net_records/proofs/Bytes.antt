-- The bytes of records; where they fit below the limit of offsets, the area holds them and the next offset is behind them.
use Rattle.std.proofs.Common.{ℕ, ◌+◌, ◌≤◌, ◌≡◌, refl, ap, sym, ◌∙◌, List, [], ◌∷◌, ◌++◌, append_assoc, arith, length, length-append, le-leb}
use Rattle.std.proofs.lemmas.List.Edits.{sets}
use Rattle.net_records.specs.Writing.{Records, encode, flat, offset_limit, past, laid, reach}
use Rattle.net_records.proofs.Stores.{sets-append}

pub flat_append : (xs ys : Records) → flat (xs ++ ys) ≡ flat xs ++ flat ys
unfolding flat
flat_append [] ys = refl
flat_append (x ∷ xs) ys = rw (flat_append xs ys, append_assoc)

past_fits : (at k : ℕ) → at + k ≤ offset_limit → past at k ≡ at + k
unfolding past
past_fits at k h = rw (le-leb at offset_limit (omega arith))

pub reach-fits : (rs : Records) (at : ℕ) → at + length (flat rs) ≤ offset_limit → reach at rs ≡ at + length (flat rs)
unfolding reach flat
reach-fits [] at h = omega arith
reach-fits (r ∷ rs) at h =
    let l : length (encode r ++ flat rs) ≡ length (encode r) + length (flat rs) = length-append (encode r) (flat rs) in
    ap (λ (k : ℕ). reach k rs) (past_fits at (length (encode r)) (omega arith)) ∙ (reach-fits rs (at + length (encode r)) (omega arith) ∙ omega arith)

pub laid-fits : (rs : Records) (area : List ℕ) (at : ℕ) → at + length (flat rs) ≤ offset_limit → laid area at rs ≡ sets area at (flat rs)
unfolding laid flat
laid-fits [] area at h = refl
laid-fits (r ∷ rs) area at h =
    let l : length (encode r ++ flat rs) ≡ length (encode r) + length (flat rs) = length-append (encode r) (flat rs) in
    ap (λ (k : ℕ). laid (sets area at (encode r)) k rs) (past_fits at (length (encode r)) (omega arith))
    ∙ (laid-fits rs (sets area at (encode r)) (at + length (encode r)) (omega arith) ∙ sym (sets-append (encode r) (flat rs) area at))
