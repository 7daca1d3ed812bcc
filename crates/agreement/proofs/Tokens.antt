-- The image of a state after rows are cleared and rows made active. And which transitions are enabled at an image.
use Rattle.std.specs.Prelude.{ℕ, ◌+◌, ◌≤◌, ◌<◌, ◌≡◌, refl, Bool, true, false, cond, ◌&&◌, leb}
use Rattle.std.proofs.Common.{arith, add-zero, leb-true, le-leb}
use Rattle.std.proofs.Math.Nat.{sub-zero}
use Rattle.effbd.specs.Diagrams.{Diagram, branch, is_kind, it_open, row_count}
use Rattle.effbd.specs.Counts.{count_total}
use Rattle.effbd.specs.Image.{image_mark, ready_or_done, running}
use Rattle.effbd.specs.Layout.{Count, P, Place, Q, R, by_place}
use Rattle.effbd.specs.Patterns.{Pattern, clears_rows, marks_p, none, one_at, restores_r}
use Rattle.effbd.specs.Ranges.{all_below}
use Rattle.effbd.specs.States.{State, activate, clear_rows}
use Rattle.ranges.specs.Tests.{and_intro, and_left, and_right, clash, decide}
use Rattle.ranges.specs.RangeLaws.{all-elim, all-intro}
use Rattle.agreement.specs.Named.{all_places, enabled}
use Rattle.agreement.specs.Tokens.{Real}

module _ (d : Diagram) where
  -- what holds at all places, by places
  pub places-intro : (f : Place → Bool) → ((p : Place) → Real d p → f p ≡ true) → all_places d f ≡ true
  places-intro f h = and_intro (all-intro (row_count d) (λ i. f (P i)) (λ i l. h (P i) l)) (and_intro (all-intro (row_count d) (λ i. f (Q i)) (λ i l. h (Q i) l))
      (and_intro (all-intro (row_count d) (λ i. f (R i)) (λ i l. h (R i) l)) (all-intro (count_total d) (λ i. f (Count i)) (λ i l. h (Count i) l))))

  pub places-elim : (f : Place → Bool) → all_places d f ≡ true → (p : Place) → Real d p → f p ≡ true
  places-elim f e = at'
    where
      a : Bool
      a = all_below (row_count d) (λ r. f (P r))

      b : Bool
      b = all_below (row_count d) (λ r. f (Q r))

      c : Bool
      c = all_below (row_count d) (λ r. f (R r))

      g : Bool
      g = all_below (count_total d) (λ k. f (Count k))

      at' : (p : Place) → Real d p → f p ≡ true
      at' (P i) l = all-elim (row_count d) (λ r. f (P r)) (and_left a (b && (c && g)) e) i l
      at' (Q i) l = all-elim (row_count d) (λ r. f (Q r)) (and_left b (c && g) (and_right a (b && (c && g)) e)) i l
      at' (R i) l = all-elim (row_count d) (λ r. f (R r)) (and_left c g (and_right b (c && g) (and_right a (b && (c && g)) e))) i l
      at' (Count i) l = all-elim (count_total d) (λ r. f (Count r)) (and_right c g (and_right b (c && g) (and_right a (b && (c && g)) e))) i l

  pub enabled-yes : (t : Pattern) (m : Place → ℕ) → ((p : Place) → Real d p → t.take p ≤ m p) → enabled d t m ≡ true
  enabled-yes t m h = places-intro (λ p. leb (t.take p) (m p)) (λ p l. le-leb (t.take p) (m p) (h p l))

  pub enabled-no : (t : Pattern) (m : Place → ℕ) (p : Place) → Real d p → m p < t.take p → enabled d t m ≡ false
  enabled-no t m p l h = decide (enabled d t m)
      (λ e. let f : t.take p ≤ m p = leb-true (t.take p) (m p) (places-elim (λ x. leb (t.take x) (m x)) e p l) in absurd (omega arith)) (λ e. e)

  -- what rows W being cleared and rows E made active does to the image of a state m in which no other row of E is active
  module _ (W E : ℕ → Bool) (m : State) (idle : (q : ℕ) → W q ≡ false → E q ≡ true → m.activity q ≡ 0) where
    -- at a place that is not cleared a mark is added where a row is made active
    pub kept-marks : (p : Place) → clears_rows d W p ≡ false → image_mark d (activate d E (clear_rows W m)) p ≡ image_mark d m p + marks_p E p
    kept-marks (P q) w = rw w (go (E q) (is_kind d branch q) (m.activity q) (idle q w))
      where
        go : (e b : Bool) (a : ℕ) → (e ≡ true → a ≡ 0) → ready_or_done (cond e (cond b 3 1) a) ≡ ready_or_done a + cond e 1 0
        go true true a h = rw (h refl)
        go true false a h = rw (h refl)
        go false b a h = simp add-zero
    kept-marks (Q q) w = rw w (go (is_kind d it_open q) (E q) (is_kind d branch q) (m.activity q) (idle q w))
      where
        go : (i e b : Bool) (a : ℕ) → (e ≡ true → a ≡ 0) → cond i (m.turns q) (running (cond e (cond b 3 1) a)) ≡ cond i (m.turns q) (running a) + 0
        go true e b a h = simp add-zero
        go false true true a h = rw (h refl)
        go false true false a h = rw (h refl)
        go false false b a h = simp add-zero
    kept-marks (R q) w = rw w (simp add-zero)
    kept-marks (Count k) w = simp add-zero

    -- a place that is cleared is as a fresh state has it
    pub cleared-marks : (p : Place) → clears_rows d W p ≡ true → image_mark d (activate d E (clear_rows W m)) p ≡ by_place (one_at E) none (restores_r d W) none p
    cleared-marks (P q) w = rw w (go (E q) (is_kind d branch q))
      where
        go : (e b : Bool) → ready_or_done (cond e (cond b 3 1) 0) ≡ cond e 1 0
        go true true = refl
        go true false = refl
        go false b = refl
    cleared-marks (Q q) w = rw w (go (is_kind d it_open q) (E q) (is_kind d branch q))
      where
        go : (i e b : Bool) → cond i 0 (running (cond e (cond b 3 1) 0)) ≡ 0
        go true e b = refl
        go false true true = refl
        go false true false = refl
        go false false b = refl
    cleared-marks (R q) w = rw w (simp sub-zero)
    cleared-marks (Count k) w = clash w refl
