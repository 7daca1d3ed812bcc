-- A transition's line and a net's text, as they are written.
use Rattle.std.proofs.Common.{ℕ, ◌+◌, ◌*◌, ◌≡◌, ◌∙◌, List, [], ◌∷◌, ◌++◌, append_assoc, length, drop}
use Rattle.effbd.specs.Records.{word}
use Rattle.effbd.specs.Annex.{number, line, t_letter, label_letters, from_letters, to_letters, net_letters, marks_letters}
use Rattle.annex_text.specs.Lines.{transition_line, record_lines, mark_numbers, records_of, net_text}
use Rattle.annex_text.specs.RecordLaws.{transition-words}

regroup : (a b c d e f g h n : List ℕ) → ((((a ++ b) ++ (c ++ d)) ++ (e ++ f)) ++ (g ++ h)) ++ n ≡ a ++ (b ++ (c ++ (d ++ (e ++ (f ++ (g ++ (h ++ n)))))))
regroup a b c d e f g h n = simp append_assoc

pub transition-of : (j : ℕ) (bytes : List ℕ) (label earliest latest : ℕ) → label ≡ word bytes 4 → earliest ≡ word bytes 6 → latest ≡ word bytes 8
    → ((((t_letter ++ number j) ++ (label_letters ++ number label)) ++ (from_letters ++ number earliest)) ++ (to_letters ++ number latest)) ++ (10 ∷ []) ≡ transition_line j bytes
transition-of j bytes label earliest latest e f g =
    regroup t_letter (number j) label_letters (number label) from_letters (number earliest) to_letters (number latest) (10 ∷ []) ∙ transition-words j bytes label earliest latest e f g

-- a net's text as it is written
pub net-of : (net tail records : List ℕ) (places transitions : ℕ) → places ≡ word net 4 → transitions ≡ word net 6 → tail ≡ drop 8 net → records ≡ drop (8 + 6 * places) net
    → (((line net_letters (places ∷ transitions ∷ []) ++ marks_letters) ++ mark_numbers places tail) ++ (10 ∷ [])) ++ record_lines (length records) 0 records ≡ net_text net
unfolding net_text
net-of net tail records places transitions e f g h = rw (h, g, f, e)
    (regroup-net (line net_letters (word net 4 ∷ word net 6 ∷ [])) marks_letters (mark_numbers (word net 4) (drop 8 net)) (10 ∷ []) (record_lines (length (records_of net)) 0 (records_of net)))
  where
    regroup-net : (a b c d e : List ℕ) → (((a ++ b) ++ c) ++ d) ++ e ≡ a ++ ((b ++ (c ++ d)) ++ e)
    regroup-net a b c d e = simp append_assoc
