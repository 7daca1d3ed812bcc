-- The words that are cleared, as far as the state has them, are a part that is filled with 0.
use Rattle.std.proofs.Common.{ℕ, ◌+◌, ◌-◌, ◌≤◌, ◌<◌, ◌≡◌, true, false, sym, ◌∙◌, ap, List, ◌++◌, length, get_or, take, drop, replicate, ltb, arith, length-append, length-drop}
use Rattle.std.proofs.lemmas.List.{ext_get_or, length-take-le, get_or-append_right, length-replicate, get_or-replicate}
use Rattle.std.proofs.Math.Bool.{and-false}
use Rattle.std.proofs.lemmas.Bool.{lt-leb}
use lib.ListN.{get_or-append}
use lib.Seq.{get_or-take, get_or-drop}
use borrow.Author.Tests.{ltb-true, ltb-false, lt-ltb, le-ltb, le-leb}
use Rattle.ranges.specs.Tests.{decide}
use Rattle.diagram_moves.specs.Changes.{words_cleared}
use Rattle.diagram_moves.proofs.RowStores.{cleared_at, cleared-long}

module _ (first end a b : ℕ) (l : List ℕ) (order : a ≤ b) (inside : b ≤ length l) (low : a ≤ first) (few : b ≤ end) (begins : a < b → a ≡ first) (ends : b < length l → b ≡ end) where
  abbrev part : List ℕ
  part = replicate (b - a) 0

  abbrev filled : List ℕ
  filled = take a l ++ (part ++ drop (b - a) (drop a l))

  front-long : length (take a l) ≡ a
  front-long = length-take-le a l (omega arith)

  filled-long : length filled ≡ length l
  filled-long = simp (length-append, length-drop, length-replicate) (omega (arith, front-long))

  each : (i : ℕ) → i < length filled → get_or filled i 0 ≡ get_or (words_cleared first end l) i 0
  each i h = let inside-l : i < length l = omega (arith, filled-long) in decide (ltb i a)
      (λ e. let z = ltb-true i a e in
      get_or-append (take a l) (part ++ drop (b - a) (drop a l)) 0 i (omega (arith, front-long)) ∙ (get_or-take a l i 0 z ∙ sym (cleared_at first end i l ∙ rw (lt-leb first i (omega arith), and-false (ltb i end)))))
      (λ e. let z = ltb-false i a e in
      get_or-append_right (take a l) (part ++ drop (b - a) (drop a l)) a i 0 front-long z ∙ decide (ltb i b) (within i inside-l z) (behind i inside-l z))
    where
      within : (i : ℕ) → i < length l → a ≤ i → ltb i b ≡ true → get_or (part ++ drop (b - a) (drop a l)) (i - a) 0 ≡ get_or (words_cleared first end l) i 0
      within i h z e = let y = ltb-true i b e in
          get_or-append part (drop (b - a) (drop a l)) 0 (i - a) (simp length-replicate (omega arith))
          ∙ (get_or-replicate (b - a) (i - a) 0 0 (omega arith) ∙ sym (cleared_at first end i l ∙ rw (lt-ltb i end (omega arith), le-leb first i (omega arith))))

      behind : (i : ℕ) → i < length l → a ≤ i → ltb i b ≡ false → get_or (part ++ drop (b - a) (drop a l)) (i - a) 0 ≡ get_or (words_cleared first end l) i 0
      behind i h z e = let y = ltb-false i b e in let w : a + (b - a + (i - a - (b - a))) ≡ i = omega arith in
          get_or-append_right part (drop (b - a) (drop a l)) (b - a) (i - a) 0 (length-replicate (b - a) 0) (omega arith)
          ∙ (get_or-drop (b - a) (drop a l) (i - a - (b - a)) 0 ∙ (get_or-drop a l (b - a + (i - a - (b - a))) 0 ∙ (ap (λ x. get_or l x 0) w ∙ sym (cleared_at first end i l ∙ rw (le-ltb i end (omega arith))))))

  pub cleared_is : filled ≡ words_cleared first end l
  cleared_is = ext_get_or 0 filled (words_cleared first end l) (filled-long ∙ sym (cleared-long first end l)) each
