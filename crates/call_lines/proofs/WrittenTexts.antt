-- Each text of Lines, as it is written: by the tests that lead to it, and piece by piece.
use Rattle.std.proofs.Common.{ℕ, zero, suc, ◌+◌, ◌-◌, ◌≤◌, ◌<◌, ◌≡◌, ◌≢◌, refl, sym, ◌∙◌, ap, List, [], ◌∷◌, ◌++◌, append_assoc, append-nil, Result, Ok, Err, max, Bool, true, false, cond, ltb, ltb-true, ltb-false, length, take, get_or, arith, add-one, lt-ltb, le-ltb, eq-eqb, ne_eqb}
use Rattle.std.proofs.Math.Seq.{take-suc}
use Rattle.std.specs.Result.{is_ok}
use Rattle.effbd.specs.declared.refusals.Refusal.{Refusal}
use Rattle.effbd.specs.Answers.{Outcome, said}
use Rattle.effbd.specs.Annex.{number}
use Rattle.text.specs.Letters.{letters}
use Rattle.call_lines.specs.Lines.{transition_text, fired_text, words_text, spaces, gap, closing_text}

-- spaces up to a column, one at least
gap-by : (at column : ℕ) (b : Bool) → ltb at column ≡ b → max (column - at) 1 ≡ cond b (column - at) 1
gap-by at column true e = let l = ltb-true at column e in omega arith
gap-by at column false e = let l = ltb-false at column e in omega arith

pub gap-is : (at column : ℕ) → max (column - at) 1 ≡ gap at column
unfolding gap
gap-is at column = gap-by at column (ltb at column) refl

-- spaces, one more each turn
spaces-append : (n : ℕ) → spaces n ++ (32 ∷ []) ≡ spaces (suc n)
unfolding spaces
spaces-append zero = refl
spaces-append (suc n) = ap (λ (l : List ℕ). 32 ∷ l) (spaces-append n)

pub one-more : (n : ℕ) → spaces n ++ (32 ∷ []) ≡ spaces (n + 1)
one-more n = spaces-append n ∙ ap spaces (sym (add-one n))

-- what a call fires
pub fires : (answer : Result ℕ Refusal) (fired : Outcome ℕ) → is_ok answer ≡ true → transition_text fired ≡ fired_text (said answer) fired
fires (Ok count) fired e = refl
fires (Err refusal) fired e = cc

pub fires_none : (answer : Result ℕ Refusal) (fired : Outcome ℕ) → is_ok answer ≡ false → [] ≡ fired_text (said answer) fired
fires_none (Ok count) fired e = cc
fires_none (Err refusal) fired e = refl

-- the words of a state
words-append : (xs ys : List ℕ) → words_text (xs ++ ys) ≡ words_text xs ++ words_text ys
unfolding words_text
words-append [] ys = refl
words-append (x ∷ xs) ys = ap (λ (l : List ℕ). number x ++ l) (words-append xs ys) ∙ sym (append_assoc (number x) (words_text xs) (words_text ys))

pub words_on : (state : List ℕ) (i : ℕ) → i < length state → words_text (take i state) ++ number (get_or state i 0) ≡ words_text (take (i + 1) state)
unfolding words_text
words_on state i l =
    let x = get_or state i 0 in
    ap (λ (k : List ℕ). words_text (take i state) ++ k) (sym (append-nil (number x)))
    ∙ (sym (words-append (take i state) (x ∷ [])) ∙ ap words_text (sym (take-suc state i 0 l) ∙ ap (λ (k : ℕ). take k state) (sym (add-one i))))

-- what was lost
module _ (sent taken : ℕ) where
  pub one-lost : taken < sent → sent ≡ taken + 1 → (letters "lost: telegram" ++ number sent) ++ letters " was sent and never taken\n" ≡ closing_text sent taken
  unfolding closing_text
  one-lost l e = rw (lt-ltb taken sent l, eq-eqb sent (taken + 1) e)

  pub some-lost : taken < sent → sent ≢ taken + 1
      → ((letters "lost: telegrams" ++ number (taken + 1)) ++ (letters " to" ++ number sent)) ++ letters " were sent and never taken\n" ≡ closing_text sent taken
  unfolding closing_text
  some-lost l e = rw (lt-ltb taken sent l, ne_eqb sent (taken + 1) e)

  pub none-lost : sent ≤ taken → letters "none lost: every telegram sent was taken\n" ≡ closing_text sent taken
  unfolding closing_text
  none-lost l = rw (le-ltb taken sent l)
