-- The text of what is called, as it is written: by the tests that lead to it, and piece by piece.
use Rattle.std.proofs.Common.{ℕ, ◌≡◌, ◌≢◌, sym, ◌∙◌, ap, ap₂, Bool, true, false, cond, List, ◌++◌, length, drop, eq-eqb, ne_eqb}
use Rattle.effbd.specs.Records.{word, kind_at}
use Rattle.effbd.specs.BusEnds.{is_telegram, number_at, station_at}
use Rattle.effbd.specs.Annex.{number}
use Rattle.calls.specs.CallList.{call_of}
use Rattle.text.specs.Letters.{letters}
use Rattle.call_lines.specs.Lines.{move_text, bytes_text, call_text}

module _ (bytes : List ℕ) (b : Bool) (e : b ≡ is_telegram bytes) where
  pub telegram-text : b ≡ true → (n station : ℕ) → n ≡ number_at bytes → station ≡ station_at bytes
      → (letters "hand telegram" ++ number n) ++ (letters " of station" ++ number station) ≡ bytes_text bytes
  unfolding bytes_text
  telegram-text t n station f g =
      ap₂ (λ (x y : ℕ). (letters "hand telegram" ++ number x) ++ (letters " of station" ++ number y)) f g
      ∙ sym (ap (λ (x : Bool). cond x ((letters "hand telegram" ++ number (number_at bytes)) ++ (letters " of station" ++ number (station_at bytes)))
      ((letters "hand" ++ number (length bytes)) ++ letters " bytes")) (sym e ∙ t))

  pub other_text : b ≡ false → (letters "hand" ++ number (length bytes)) ++ letters " bytes" ≡ bytes_text bytes
  unfolding bytes_text
  other_text t = sym (ap (λ (x : Bool). cond x ((letters "hand telegram" ++ number (number_at bytes)) ++ (letters " of station" ++ number (station_at bytes)))
      ((letters "hand" ++ number (length bytes)) ++ letters " bytes")) (sym e ∙ t))

module _ (call : List ℕ) (k : ℕ) (e : k ≡ kind_at call) where
  pub offer-text : k ≡ 1 → (code argument : ℕ) → code ≡ word call 4 → argument ≡ word call 6 → move_text code argument ≡ call_text (call_of call)
  unfolding call_of
  offer-text o code argument f g = rw (eq-eqb (kind_at call) 1 (sym e ∙ o)) (ap₂ move_text f g)

  pub hand-text : k ≢ 1 → (bytes : List ℕ) → bytes ≡ drop 4 call → bytes_text bytes ≡ call_text (call_of call)
  unfolding call_of
  hand-text w bytes f = rw (ne_eqb (kind_at call) 1 (λ z. w (e ∙ z))) (ap bytes_text f)
