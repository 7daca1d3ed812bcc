-- One record: its words, written into the lent rest of an area.
use Rattle.std.proofs.Common.{ℕ, suc, ◌+◌, ◌-◌, ◌*◌, ◌≤◌, ◌<◌, ◌≡◌, refl, ap, sym, ◌∙◌, List, [], ◌∷◌, ◌++◌, append-nil, add-one, arith, le_of_eq, le-add_right, add-zero, add-suc, length, get_or, take, drop, set, length-take, take-append-drop, length-drop, take-suc, take_all}
use Rattle.std.proofs.lemmas.List.Edits.{sets}
use Rattle.std.proofs.Math.Seq.{take-set-le, drop-set-add, set_out, drop-length}
use borrow.Rule.Slice.PartMut.{put_mid, mid_of}
use Rattle.words.specs.Stores.{word_put}
use Rattle.net_records.specs.declared.Writer.{Writer}
use Rattle.net_records.specs.Writing.{encode, past, laid, reach, Wrote}

-- words
pub encode-append : (xs ys : List ℕ) → encode (xs ++ ys) ≡ encode xs ++ encode ys
unfolding encode
encode-append [] ys = refl
encode-append (x ∷ xs) ys = ap (λ (l : List ℕ). encode (x ∷ []) ++ l) (encode-append xs ys)

pub encode-length : (xs : List ℕ) → length (encode xs) ≡ 2 * length xs
unfolding encode
encode-length [] = refl
encode-length (x ∷ xs) = let i = encode-length xs in omega arith

pub sets-append : (xs ys area : List ℕ) (at : ℕ) → sets area at (xs ++ ys) ≡ sets (sets area at xs) (at + length xs) ys
sets-append [] ys area at = ap (λ (k : ℕ). sets area k ys) (sym (add-zero at))
sets-append (x ∷ xs) ys area at = sets-append xs ys (set area at x) (suc at)
    ∙ (let e : suc at + length xs ≡ at + suc (length xs) = omega arith in ap (λ (k : ℕ). sets (sets (set area at x) (suc at) xs) k ys) e)

-- one more word of a record
pub word_more : (before fields : List ℕ) (i : ℕ) → i < length fields
    → sets before 0 (encode (take (i + 1) fields)) ≡ word_put (sets before 0 (encode (take i fields))) (2 * i) (get_or fields i 0)
unfolding encode
word_more before fields i l =
    let n : 0 + length (encode (take i fields)) ≡ 2 * i = let a = encode-length (take i fields) in let b = length-take i fields in omega arith in
    rw (add-one, take-suc fields i 0 l, encode-append (take i fields) (get_or fields i 0 ∷ []), sets-append (encode (take i fields)) (encode (get_or fields i 0 ∷ [])) before 0, n, add-one) refl

-- the rest of an area was lent, written from its start, and is back
sets-tail : (bytes area : List ℕ) (at i : ℕ) → take at area ++ sets (drop at area) i bytes ≡ sets area (at + i) bytes
sets-tail [] area at i = take-append-drop at area
sets-tail (b ∷ bytes) area at i =
    let area' = set area (at + i) b in
    ap (λ (l : List ℕ). take at area ++ sets l (suc i) bytes) (sym (drop-set-add at area i b))
    ∙ (ap (λ (l : List ℕ). l ++ sets (drop at area') (suc i) bytes) (sym (take-set-le at area (at + i) b (le-add_right at i)))
    ∙ (sets-tail bytes area' at (suc i) ∙ ap (λ (k : ℕ). sets area' k bytes) (add-suc at i)))

pub laid-tail : (bytes area last : List ℕ) (at : ℕ) → last ≡ sets (mid_of at (length area - at) area) 0 bytes → put_mid at (length area - at) area last ≡ sets area at bytes
laid-tail bytes area last at e =
    let m : mid_of at (length area - at) area ≡ drop at area = take_all (length area - at) (drop at area) (le_of_eq (length-drop at area)) in
    let d : drop (length area - at) (drop at area) ≡ [] = ap (λ (k : ℕ). drop k (drop at area)) (sym (length-drop at area)) ∙ drop-length (drop at area) in
    rw (e, m, d, append-nil) (sets-tail bytes area at 0 ∙ ap (λ (k : ℕ). sets area k bytes) (add-zero at))

pub laid_out : (bytes area : List ℕ) (at : ℕ) → length area ≤ at → sets area at bytes ≡ area
laid_out [] area at h = refl
laid_out (b ∷ bytes) area at h = rw (set_out area at b h) (laid_out bytes area (suc at) (omega arith))

-- one record
pub one : {a b : Writer} (fields : List ℕ) → b.area.now ≡ sets a.area.now a.at (encode fields) → b.at ≡ past a.at (2 * length fields)
    → b.area.ghost_name ≡ a.area.ghost_name → Wrote a b (fields ∷ [])
unfolding laid reach
one {a} fields e h g = record { area = e; reached = h ∙ ap (past a.at) (sym (encode-length fields)); lender = g }
