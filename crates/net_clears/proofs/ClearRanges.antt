-- The clear ranges of a test: none where nothing passes, one where exactly the places of a range pass.
use Rattle.std.proofs.Common.{ℕ, zero, suc, ◌+◌, ◌*◌, ◌/◌, ◌%◌, ◌≤◌, ◌<◌, ◌≡◌, refl, ap, ◌∙◌, Bool, false, ◌&&◌, [], ◌∷◌, arith, leb, ltb, eqb, leb-true, leb-false, le-leb, eqb-true, eq-eqb, ltb-true, ltb-false}
use Rattle.std.proofs.lemmas.Bool.{lt-leb, eqb-false}
use Rattle.effbd.specs.Ranges.{within}
use Rattle.effbd.specs.Diagrams.{Diagram, row_count}
use Rattle.effbd.specs.Layout.{places, place_of}
use Rattle.effbd.specs.Patterns.{clear_range, ranges_from, nowhere, clears_rows}
use Rattle.ranges.specs.Tests.{decide}

pub ranges-none : (f : ℕ → Bool) (n p : ℕ) → ((i : ℕ) → p ≤ i → i < p + n → f i ≡ false) → ranges_from n p f ≡ []
unfolding ranges_from
ranges-none f zero p h = refl
ranges-none f (suc n) p h = rw (h p (omega arith) (omega arith)) (ranges-none f n (suc p) (λ i l m. h i (omega arith) (omega arith)))

module _ (f : ℕ → Bool) (a b count : ℕ) (order : a ≤ b) (inside : b < count) (test : (i : ℕ) → i < count → f i ≡ within a b i) where
  outside : (i : ℕ) → i < count → (leb a i && leb i b) ≡ false → f i ≡ false
  outside i l e = test i l ∙ e

  -- from a place of the range on
  from_in : (n p : ℕ) → p + n ≡ count → a ≤ p → p ≤ b → ranges_from n p f ≡ clear_range p b ∷ []
  unfolding ranges_from
  from_in zero p e l m = absurd (omega arith)
  from_in (suc n) p e l m = rw (test p (omega arith), le-leb a p l, le-leb p b m) (decide (eqb p b)
      (λ z. let w = eqb-true p b z in
      rw (ranges-none f n (suc p) (λ i k j. outside i (omega arith) (rw (le-leb a i (omega arith), lt-leb i b (omega arith)))), w))
      (λ z. let w = eqb-false p b z in rw (from_in n (suc p) (omega arith) (omega arith) (omega arith), eq-eqb (suc p) (suc p) refl)))

  -- from a place before it on
  from-before : (n p : ℕ) → p + n ≡ count → p ≤ a → ranges_from n p f ≡ clear_range a b ∷ []
  unfolding ranges_from
  from-before zero p e l = absurd (omega arith)
  from-before (suc n) p e l = decide (eqb p a)
      (λ z. let w = eqb-true p a z in from_in (suc n) p e (omega arith) (omega arith) ∙ ap (λ (x : ℕ). clear_range x b ∷ []) w)
      (λ z. let w = eqb-false p a z in rw (outside p (omega arith) (rw (lt-leb a p (omega arith)))) (from-before n (suc p) (omega arith) (omega arith)))

  pub one-range : ranges_from count 0 f ≡ clear_range a b ∷ []
  one-range = from-before count 0 (omega arith) (omega arith)

module _ (d : Diagram) where
  -- all places of the rows from a to b
  row-places : (a b i : ℕ) → a ≤ b → b < row_count d → i < places d → clears_rows d (within a b) (place_of d i) ≡ within (3 * a) (3 * b + 2) i
  unfolding place_of
  row-places a b i o l m = decide (ltb i (3 * row_count d))
      (λ e. let h = ltb-true i (3 * row_count d) e in rw e (decide (eqb (i % 3) 0)
      (λ z. rw z scaled)
      (λ z. rw z (decide (eqb (i % 3) 1) (λ y. rw y scaled) (λ y. rw y scaled)))))
      (λ e. let h = ltb-false i (3 * row_count d) e in rw (e, le-leb (3 * a) i (omega arith), lt-leb i (3 * b + 2) (omega arith)))
    where
      low : leb a (i / 3) ≡ leb (3 * a) i
      low = decide (leb a (i / 3))
          (λ e. let h = leb-true a (i / 3) e in rw (e, le-leb (3 * a) i (omega arith)))
          (λ e. let h = leb-false a (i / 3) e in rw (e, lt-leb (3 * a) i (omega arith)))

      high : leb (i / 3) b ≡ leb i (3 * b + 2)
      high = decide (leb (i / 3) b)
          (λ e. let h = leb-true (i / 3) b e in rw (e, le-leb i (3 * b + 2) (omega arith)))
          (λ e. let h = leb-false (i / 3) b e in rw (e, lt-leb i (3 * b + 2) (omega arith)))

      scaled : within a b (i / 3) ≡ within (3 * a) (3 * b + 2) i
      scaled = rw (low, high)

  pub rows-range : (a b : ℕ) → a ≤ b → b < row_count d
      → ranges_from (places d) 0 (λ p. clears_rows d (within a b) (place_of d p)) ≡ clear_range (3 * a) (3 * b + 2) ∷ []
  rows-range a b l m = one-range (λ p. clears_rows d (within a b) (place_of d p)) (3 * a) (3 * b + 2) (places d) (omega arith) (omega arith)
      (λ i k. row-places a b i l m k)

  pub no-range : ranges_from (places d) 0 (λ p. nowhere (place_of d p)) ≡ []
  no-range = ranges-none (λ p. false) (places d) 0 (λ i l m. refl)
