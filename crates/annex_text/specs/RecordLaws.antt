-- What the definitions of Lines say of one record, from its kind and its fields.
use Rattle.std.specs.Prelude.{ℕ, ◌≢◌, ◌≡◌, true, false, List, [], ◌∷◌, ◌++◌, eqb}
use Rattle.std.proofs.Common.{sym, ◌∙◌, ap, eq-eqb, ne_eqb}
use Rattle.effbd.specs.Records.{word, kind_at}
use Rattle.effbd.specs.Annex.{number, line, t_letter, label_letters, from_letters, to_letters, give_letters, arc_letters}
use Rattle.annex_text.specs.Lines.{transition_line, arc_line, record_line, record_size, transitions_at}

pub transition-words : (j : ℕ) (bytes : List ℕ) (label earliest latest : ℕ) → label ≡ word bytes 4 → earliest ≡ word bytes 6 → latest ≡ word bytes 8
    → t_letter ++ (number j ++ (label_letters ++ (number label ++ (from_letters ++ (number earliest ++ (to_letters ++ (number latest ++ (10 ∷ [])))))))) ≡ transition_line j bytes
unfolding transition_line
transition-words j bytes label earliest latest e f g = rw (e, f, g)

pub give-letters : (k : ℕ) → k ≢ 35 → k ≢ 36 → give_letters ≡ arc_letters k
give-letters k h g = rw (ne_eqb k 35 h, ne_eqb k 36 g)

pub arc-of : (bytes letters : List ℕ) (k first second : ℕ) → k ≡ kind_at bytes → first ≡ word bytes 4 → second ≡ word bytes 6 → letters ≡ arc_letters k
    → line letters (first ∷ second ∷ []) ≡ arc_line bytes
unfolding arc_line
arc-of bytes letters k first second e f g h = ap (λ (l : List ℕ). line l (first ∷ second ∷ [])) (h ∙ ap arc_letters e)
    ∙ (ap (λ (n : ℕ). line (arc_letters (kind_at bytes)) (n ∷ second ∷ [])) f ∙ ap (λ (n : ℕ). line (arc_letters (kind_at bytes)) (word bytes 4 ∷ n ∷ [])) g)

-- a record that is a transition, and one that is not
module _ (bytes : List ℕ) (k : ℕ) (e : k ≡ kind_at bytes) where
  yes : k ≡ 34 → eqb (kind_at bytes) 34 ≡ true
  yes h = eq-eqb _ _ (sym e ∙ h)

  no : k ≢ 34 → eqb (kind_at bytes) 34 ≡ false
  no h = ne_eqb _ _ (λ z. h (e ∙ z))

  pub transition-line : (j : ℕ) → k ≡ 34 → transition_line j bytes ≡ record_line j bytes
  unfolding record_line
  transition-line j h = rw (yes h)

  pub arc-line : (j : ℕ) → k ≢ 34 → arc_line bytes ≡ record_line j bytes
  unfolding record_line
  arc-line j h = rw (no h)

  pub transition-size : k ≡ 34 → 10 ≡ record_size bytes
  unfolding record_size
  transition-size h = rw (yes h)

  pub arc-size : k ≢ 34 → 8 ≡ record_size bytes
  unfolding record_size
  arc-size h = rw (no h)

  pub transition-counts : k ≡ 34 → 1 ≡ transitions_at bytes
  unfolding transitions_at
  transition-counts h = rw (yes h)

  pub arc-counts : k ≢ 34 → 0 ≡ transitions_at bytes
  unfolding transitions_at
  arc-counts h = rw (no h)
