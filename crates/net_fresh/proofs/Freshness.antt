-- A fresh state, by what the reader of the file answered.
use Prim.Native.Nat.{ℕ, zero, suc, ◌+◌, ◌*◌, ◌≤◌, ◌<◌}
use mathlib.Core.Path.{◌≡◌, refl, ap, ap₂, sym, ◌∙◌}
use mathlib.Core.List.{List, [], ◌∷◌, ◌++◌, append-nil}
use native.Mathlib.Nat.{zero-add, not-suc-le-zero, le_of_suc-le-suc}
use native.Mathlib.Numerals.{add-one}
use native.Mathlib.Omega.{arith}
use lib.ListN.{length, drop, get_or, set, drop_of_length-le}
use lib.Seq.{drop-drop, get_or-drop}
use borrow.Author.Tests.{eq-eqb, ne_eqb, lt-ltb, le-ltb}
use Rattle.ranges.specs.RangeLaws.{tab-ext}
use Rattle.effbd.specs.Ranges.{tabulate}
use Rattle.effbd.specs.Answers.{accepted, refused}
use Rattle.effbd.specs.Records.{word}
use Rattle.effbd.specs.Nets.{read_net}
use Rattle.effbd.specs.Firing.{net_word_count, words_of, fresh_net_words, fresh_net}
use Rattle.net_file.proofs.Accepted.{transition-count}
use Rattle.net_file.proofs.Answers.{refused-inv, Read}
use Rattle.net_fresh.specs.FreshWords.{fresh_word}

-- a list written from the front: its first n words are f 0, f 1, ..
front-suc : (to : List ℕ) (f : ℕ → ℕ) (n : ℕ) → n < length to → set (tabulate n f ++ drop n to) n (f n) ≡ tabulate (suc n) f ++ drop (suc n) to
front-suc [] f n h = absurd (not-suc-le-zero h)
front-suc (x ∷ to) f zero h = refl
front-suc (x ∷ to) f (suc n) h = ap (λ (l : List ℕ). f zero ∷ l) (front-suc to (λ i. f (suc i)) n (le_of_suc-le-suc h))

pub front-more : (to : List ℕ) (f : ℕ → ℕ) (n : ℕ) → n < length to → set (tabulate n f ++ drop n to) n (f n) ≡ tabulate (n + 1) f ++ drop (n + 1) to
front-more to f n h = rw add-one (front-suc to f n h)

pub front-all : (to : List ℕ) (f : ℕ → ℕ) (n : ℕ) → n ≡ length to → tabulate n f ++ drop n to ≡ tabulate (length to) f
front-all to f n e = let h : length to ≤ n = omega arith in rw (drop_of_length-le to h, append-nil (tabulate n f), e)

pub fresh-refused : (file words : List ℕ) (a b : ℕ) → refused a b ≡ words_of (read_net file) → fresh_net file words ≡ refused a b
unfolding fresh_net
fresh-refused file words a b e = rw (refused-inv file a b e)

module _ (file words : List ℕ) (size : ℕ) (read : Read file size) where
  pub fresh-length : (length words ≡ size → ⊥) → fresh_net file words ≡ refused 20 0
  unfolding fresh_net
  fresh-length h = rw (read.says, ne_eqb (length words) (net_word_count read.net) (λ q. h (q ∙ read.counts)))

tabulate-append : (a b : ℕ) (f g h : ℕ → ℕ) → ((i : ℕ) → i < a → f i ≡ h i) → ((i : ℕ) → i < b → g i ≡ h (a + i)) → tabulate a f ++ tabulate b g ≡ tabulate (a + b) h
tabulate-append zero b f g h p q = tab-ext b g h (λ i l. q i l ∙ ap h (zero-add i)) ∙ rw (zero-add b)
tabulate-append (suc a) b f g h p q =
    let z : suc a + b ≡ suc (a + b) = omega arith in
    rw z (ap₂ (λ (x : ℕ) (l : List ℕ). x ∷ l) (p zero (omega arith))
    (tabulate-append a b (λ i. f (suc i)) g (λ i. h (suc i)) (λ i l. p (suc i) (omega arith)) (λ i l. q i l ∙ (let y : suc a + i ≡ suc (a + i) = omega arith in ap h y))))

word-drop : (n m i : ℕ) (file : List ℕ) → word (drop n (drop m file)) i ≡ word file (m + n + i)
word-drop n m i file = rw (drop-drop n m file, get_or-drop (m + n) file i 0, get_or-drop (m + n) file (suc i) 0)
    (let z : m + n + suc i ≡ suc (m + n + i) = omega arith in ap (λ (k : ℕ). get_or file (m + n + i) 0 + 256 * get_or file k 0) z)

pub fresh-is : (file words : List ℕ) (size places : ℕ) → Read file size → length words ≡ size → places ≡ word file 4 → fresh_net file words ≡ accepted (tabulate (length words) (fresh_word file places))
unfolding fresh_net fresh_net_words fresh_word
fresh-is file words size places read l ep = rw (read.says, eq-eqb (length words) (net_word_count read.net) (l ∙ sym read.counts))
    (ap accepted (ap₂ (λ (m : List ℕ) (n : ℕ). m ++ tabulate n (λ x. 0)) read.holds.marks (transition-count file read.net read.holds)
    ∙ (tabulate-append (word file 4) (word file 6) _ _ (fresh_word file places)
    (λ i m. rw (ep, lt-ltb i (word file 4) m) (word-drop (6 * i) 8 4 file))
    (λ i m. rw (ep, le-ltb (word file 4 + i) (word file 4) (omega arith)))
    ∙ ap (λ (n : ℕ). tabulate n (fresh_word file places)) (sym (l ∙ read.adds)))))
