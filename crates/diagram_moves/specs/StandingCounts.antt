-- A run of counts is its counts that stand: past the state's end a store changes nothing, and a count is 0.
use Prim.Native.Nat.{ℕ, zero, suc, ◌+◌, ◌-◌, ◌≤◌, ◌<◌}
use Rattle.std.specs.Prelude.{◌≡◌, Bool, List, length, leb}
use Rattle.std.proofs.Math.Path.{refl, ap}
use Rattle.std.proofs.Common.{◌∙◌}
use native.Mathlib.Omega.{arith}
use Rattle.std.proofs.Math.ListN.{get_or, length-set, get_or-eq_default}
use Rattle.std.proofs.Math.Seq.{set_out}
use borrow.Author.Tests.{leb-true, leb-false, le-leb, lt-leb, le-ltb}
use Rattle.ranges.specs.Tests.{decide}
use Rattle.diagram_moves.specs.Decisions.{count_place, standing, most_of}
use Rattle.diagram_moves.specs.Changes.{fold, count_turn}

module _ (rows first n : ℕ) (words : List ℕ) where
  record Stands (m : ℕ) : Type 0 where
    few : m ≤ n
    inside : (i : ℕ) → i < m → count_place rows (first + i) < length words
    past : (i : ℕ) → m ≤ i → i < n → length words ≤ count_place rows (first + i)

  all-stand : Stands (standing rows first n words)
  unfolding standing
  all-stand = decide (leb (count_place rows (first + n)) (length words))
      (λ e. let l = leb-true (count_place rows (first + n)) (length words) e in rw e (record { few = omega arith; inside = λ i h. omega arith; past = λ i h k. omega arith }))
      (λ e. let l = leb-false (count_place rows (first + n)) (length words) e in rw e (record { few = omega arith; inside = λ i h. omega arith; past = λ i h k. omega arith }))

  pub standing-all : count_place rows (first + n) ≤ length words → n ≡ standing rows first n words
  unfolding standing
  standing-all l = rw (le-leb (count_place rows (first + n)) (length words) l)

  pub standing-some : length words < count_place rows (first + n) → length words - count_place rows first ≡ standing rows first n words
  unfolding standing
  standing-some l = rw (lt-leb (count_place rows (first + n)) (length words) l)

  pub count-stands : (i : ℕ) → i < standing rows first n words → count_place rows (first + i) < length words
  count-stands = all-stand.inside

-- from count m on none stands
module _ (rows first m : ℕ) (words : List ℕ) where
  most-past : (n : ℕ) → m ≤ n → ((i : ℕ) → m ≤ i → i < n → length words ≤ count_place rows (first + i)) → most_of rows first words n ≡ most_of rows first words m
  unfolding most_of
  most-past zero l past = let z : 0 ≡ m = omega arith in ap (most_of rows first words) z
  most-past (suc n) l past = decide (leb m n)
      (λ e. let k = leb-true m n e in
      let c : get_or words (count_place rows (first + n)) 0 ≡ 0 = get_or-eq_default words 0 {n = count_place rows (first + n)} (past n k (omega arith)) in
      rw (c, le-ltb (most_of rows first words n) 0 (omega arith)) (most-past n k (λ i a b. past i a (omega arith))))
      (λ e. let k = leb-false m n e in let z : suc n ≡ m = omega arith in ap (most_of rows first words) z)

  module _ (giving : Bool) (amount : ℕ) where
    turn-long : (n : ℕ) (l : List ℕ) → length (fold n (count_turn giving rows first amount) l) ≡ length l
    unfolding count_turn
    turn-long zero l = refl
    turn-long (suc n) l = length-set (fold n (count_turn giving rows first amount) l) (count_place rows (first + n)) _ ∙ turn-long n l

    unmoved : (n : ℕ) → length words ≤ count_place rows (first + n) → fold (suc n) (count_turn giving rows first amount) words ≡ fold n (count_turn giving rows first amount) words
    unfolding count_turn
    unmoved n h = set_out (fold n (count_turn giving rows first amount) words) (count_place rows (first + n)) _ (omega (arith, turn-long n words))

    turns-past : (n : ℕ) → m ≤ n → ((i : ℕ) → m ≤ i → i < n → length words ≤ count_place rows (first + i))
        → fold n (count_turn giving rows first amount) words ≡ fold m (count_turn giving rows first amount) words
    turns-past zero l past = let z : 0 ≡ m = omega arith in ap (λ (x : ℕ). fold x (count_turn giving rows first amount) words) z
    turns-past (suc n) l past = decide (leb m n)
        (λ e. let k = leb-true m n e in unmoved n (past n k (omega arith)) ∙ turns-past n k (λ i a b. past i a (omega arith)))
        (λ e. let k = leb-false m n e in let z : suc n ≡ m = omega arith in ap (λ (x : ℕ). fold x (count_turn giving rows first amount) words) z)

module _ (rows first n : ℕ) (words : List ℕ) where
  pub most-standing : most_of rows first words n ≡ most_of rows first words (standing rows first n words)
  most-standing = let s = all-stand rows first n words in most-past rows first (standing rows first n words) words n s.few s.past

  pub turns-standing : (giving : Bool) (amount : ℕ) → fold n (count_turn giving rows first amount) words ≡ fold (standing rows first n words) (count_turn giving rows first amount) words
  turns-standing giving amount = let s = all-stand rows first n words in turns-past rows first (standing rows first n words) words giving amount n s.few s.past
