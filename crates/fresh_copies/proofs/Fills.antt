-- A run of stores of one value, which stops at the state's end, is a fill of a part.
use Rattle.std.proofs.Common.{ℕ, zero, suc, ◌+◌, ◌-◌, ◌≤◌, ◌<◌, ◌≡◌, ◌≢◌, true, false, refl, sym, ◌∙◌, ap, List, ◌++◌, length, get_or, take, drop, replicate, eqb, ltb, arith, length-append, length-drop, length-set}
use Rattle.std.proofs.lemmas.List.{ext_get_or, length-take-le, get_or-append_right, length-replicate, get_or-replicate}
use lib.ListN.{get_or-append}
use lib.Seq.{get_or-set_same, get_or-set_other, get_or-take, get_or-drop}
use borrow.Author.Tests.{ltb-true, ltb-false, eqb-true, eqb-false}
use Rattle.ranges.specs.Tests.{decide}
use Rattle.fresh_copies.specs.Runs.{run_put}

pub run_long : (from many value : ℕ) (l : List ℕ) → length (run_put from many value l) ≡ length l
unfolding run_put
run_long from zero value l = refl
run_long from (suc n) value l = length-set (run_put from n value l) (from + n) value ∙ run_long from n value l

pub run-other : (from many value : ℕ) (l : List ℕ) (i : ℕ) → ((j : ℕ) → j < many → i ≢ from + j) → get_or (run_put from many value l) i 0 ≡ get_or l i 0
unfolding run_put
run-other from zero value l i h = refl
run-other from (suc n) value l i h = get_or-set_other (run_put from n value l) (from + n) i value 0 (h n (omega arith)) ∙ run-other from n value l i (λ j z. h j (omega arith))

pub run-own : (from many value : ℕ) (l : List ℕ) (j : ℕ) → j < many → from + j < length l → get_or (run_put from many value l) (from + j) 0 ≡ value
unfolding run_put
run-own from zero value l j h n = absurd (omega arith)
run-own from (suc m) value l j h n = decide (eqb j m)
    (λ e. let z = eqb-true j m e in rw z (get_or-set_same (run_put from m value l) (from + m) value 0 (omega (arith, run_long from m value l))))
    (λ e. let z = eqb-false j m e in
    get_or-set_other (run_put from m value l) (from + m) (from + j) value 0 (λ y. z (omega arith)) ∙ run-own from m value l j (omega arith) n)

module _ (from many value a b : ℕ) (l : List ℕ) (order : a ≤ b) (inside : b ≤ length l) (low : a ≤ from) (begins : a < length l → a ≡ from) (few : b ≤ a + many) (ends : b < length l → b ≡ a + many) where
  abbrev part : List ℕ
  part = replicate (b - a) value

  abbrev filled : List ℕ
  filled = take a l ++ (part ++ drop (b - a) (drop a l))

  front-long : length (take a l) ≡ a
  front-long = length-take-le a l (omega arith)

  filled-long : length filled ≡ length l
  filled-long = simp (length-append, length-drop, length-replicate) (omega (arith, front-long))

  each : (i : ℕ) → i < length filled → get_or filled i 0 ≡ get_or (run_put from many value l) i 0
  each i h = let inside-l : i < length l = omega (arith, filled-long) in decide (ltb i a)
      (λ e. let z = ltb-true i a e in
      get_or-append (take a l) (part ++ drop (b - a) (drop a l)) 0 i (omega (arith, front-long)) ∙ (get_or-take a l i 0 z ∙ sym (run-other from many value l i (λ j t. λ y. absurd (omega arith)))))
      (λ e. let z = ltb-false i a e in
      get_or-append_right (take a l) (part ++ drop (b - a) (drop a l)) a i 0 front-long z ∙ decide (ltb i b) (within i inside-l z) (behind i inside-l z))
    where
      within : (i : ℕ) → i < length l → a ≤ i → ltb i b ≡ true → get_or (part ++ drop (b - a) (drop a l)) (i - a) 0 ≡ get_or (run_put from many value l) i 0
      within i h z e = let y = ltb-true i b e in let w : i ≡ from + (i - a) = omega arith in
          get_or-append part (drop (b - a) (drop a l)) 0 (i - a) (simp length-replicate (omega arith))
          ∙ (get_or-replicate (b - a) (i - a) value 0 (omega arith) ∙ sym (ap (λ x. get_or (run_put from many value l) x 0) w ∙ run-own from many value l (i - a) (omega arith) (omega arith)))

      behind : (i : ℕ) → i < length l → a ≤ i → ltb i b ≡ false → get_or (part ++ drop (b - a) (drop a l)) (i - a) 0 ≡ get_or (run_put from many value l) i 0
      behind i h z e = let y = ltb-false i b e in let w : a + (b - a + (i - a - (b - a))) ≡ i = omega arith in
          get_or-append_right part (drop (b - a) (drop a l)) (b - a) (i - a) 0 (length-replicate (b - a) value) (omega arith)
          ∙ (get_or-drop (b - a) (drop a l) (i - a - (b - a)) 0 ∙ (get_or-drop a l (b - a + (i - a - (b - a))) 0 ∙ (ap (λ x. get_or l x 0) w ∙ sym (run-other from many value l i (λ j t. λ x. absurd (omega arith))))))

  pub filled_is : filled ≡ run_put from many value l
  filled_is = ext_get_or 0 filled (run_put from many value l) (filled-long ∙ sym (run_long from many value l)) each
