-- Words, bytes and records: their laws.
use Rattle.std.specs.Prelude.{ℕ, zero, suc, ◌+◌, ◌*◌, ◌/◌, ◌%◌, ◌≤◌, ◌<◌, ◌≡◌, refl, Bool, true, false, not, cond, List, [], ◌∷◌, ◌++◌, length, get_or, drop, ltb}
use Rattle.std.proofs.Common.{sym, ◌∙◌, ap, ap₂, arith, drop-cons, ltb-true, ltb-false, lt-ltb, le-ltb}
use Rattle.effbd.specs.Answers.{Outcome, accepted, and_then, refused, unless}
use Rattle.effbd.specs.Records.{Got, adding, are_bytes, fault_at, length_at, word, word_bytes}
use Rattle.ranges.specs.Tests.{and_left, and_right, and_intro}

pub byte_at : (l : List ℕ) → are_bytes l ≡ true → (i : ℕ) → get_or l i 0 < 256
unfolding are_bytes
byte_at [] h zero = omega arith
byte_at [] h (suc i) = omega arith
byte_at (b ∷ l) h zero = ltb-true b 256 (and_left (ltb b 256) (are_bytes l) h)
byte_at (b ∷ l) h (suc i) = byte_at l (and_right (ltb b 256) (are_bytes l) h) i

pub bytes-are : (l : List ℕ) → ((i : ℕ) → get_or l i 0 < 256) → are_bytes l ≡ true
unfolding are_bytes
bytes-are [] h = refl
bytes-are (b ∷ l) h = and_intro (lt-ltb b 256 (h zero)) (bytes-are l (λ i. h (suc i)))

pub bytes_drop : (n : ℕ) (l : List ℕ) → are_bytes l ≡ true → are_bytes (drop n l) ≡ true
unfolding are_bytes
bytes_drop zero l h = h
bytes_drop (suc n) [] h = refl
bytes_drop (suc n) (b ∷ l) h = bytes_drop n l (and_right (ltb b 256) (are_bytes l) h)

pub word_fits : (l : List ℕ) → are_bytes l ≡ true → (i : ℕ) → word l i ≤ 65535
word_fits l h i = let a = byte_at l h i in let b = byte_at l h (suc i) in omega arith

pub two-of : (a b : ℕ) → a < 256 → word_bytes (a + 256 * b) ≡ a ∷ b ∷ []
two-of a b l = ap₂ (λ (x y : ℕ). x ∷ y ∷ []) (let z : (a + 256 * b) % 256 ≡ a = omega arith in z) (let z : (a + 256 * b) / 256 ≡ b = omega arith in z)

-- a word's two bytes, and the rest
pub two_at : (l : List ℕ) (i : ℕ) → suc i < length l → are_bytes l ≡ true → word_bytes (word l i) ++ drop (suc (suc i)) l ≡ drop i l
two_at l i h b = ap (λ x. x ++ drop (suc (suc i)) l) (two-of (get_or l i 0) (get_or l (suc i) 0) (byte_at l b i))
    ∙ sym (drop-cons l i 0 (omega arith) ∙ ap (λ x. get_or l i 0 ∷ x) (drop-cons l (suc i) 0 h))

pub of_two : (n : ℕ) → n % 256 + 256 * (n / 256) ≡ n
of_two n = omega arith

-- a record with nothing off
pub record Clean (l : List ℕ) (due right fine : Bool) : Type 0 where
  pub long : 4 ≤ length l
  pub is_due : due ≡ true
  pub is_right : right ≡ true
  pub whole : length_at l ≤ length l
  pub is_fine : fine ≡ true

pub clean-none : (l : List ℕ) (due right fine : Bool) (n : ℕ) → Clean l due right fine → fault_at l due right fine n ≡ 0
unfolding fault_at
clean-none l due right fine n c = rw (le-ltb (length l) 4 c.long, c.is_due, c.is_right, le-ltb (length l) (length_at l) c.whole, c.is_fine)

pub none-clean : (l : List ℕ) (due right fine : Bool) (n : ℕ) → fault_at l due right fine (suc n) ≡ 0 → Clean l due right fine
unfolding fault_at
none-clean l due right fine n e = go (ltb (length l) 4) due right (ltb (length l) (length_at l)) fine refl refl e
  where
    go : (a b c x f : Bool) → ltb (length l) 4 ≡ a → ltb (length l) (length_at l) ≡ x
        → cond a 1 (cond (not b) 2 (cond (not c) 3 (cond x 1 (cond (not f) (suc n) 0)))) ≡ 0 → Clean l b c f
    go true b c x f p q z = absurd (omega arith)
    go false false c x f p q z = absurd (omega arith)
    go false true false x f p q z = absurd (omega arith)
    go false true true true f p q z = absurd (omega arith)
    go false true true false false p q z = absurd (omega arith)
    go false true true false true p q z = record { long = ltb-false (length l) 4 p; is_due = refl; is_right = refl; whole = ltb-false (length l) (length_at l) q; is_fine = refl }

pub never : {A : Type 0} {C : Type 0} {n v : ℕ} {x : A} → refused n v ≡ accepted x → C
never e = absurd (let z : ◌≡◌ {A = ℕ} 0 1 = cc in omega arith)

pub next-inv : {A : Type 0} (f v : ℕ) (a : Outcome A) (x : A) → unless f v a ≡ accepted x → (f ≡ 0) × (a ≡ accepted x)
next-inv zero v a x e = (refl, e)
next-inv (suc f) v a x e = never e

pub bind_inv : {A B : Type 0} (a : Outcome A) (f : A → Outcome B) (y : B) → and_then a f ≡ accepted y → (x : A) × (a ≡ accepted x) × (f x ≡ accepted y)
bind_inv (accepted x) f y e = (x, refl, e)
bind_inv (refused n v) f y e = never e

pub adding-inv : {A : Type 0} (a : A) (b : Outcome (Got (List A))) (g : Got (List A)) → adding a b ≡ accepted g
    → (h : Got (List A)) × (b ≡ accepted h) × (record { value = a ∷ h.value; rest = h.rest } ≡ g)
adding-inv a (accepted h) g e = (h, refl, cc)
adding-inv a (refused n v) g e = never e
