-- The counts: what each can be at most, what rows take and give are words, how many there are.
use Prim.Native.Nat.{ℕ, zero, suc, ◌+◌, ◌*◌, ◌≤◌, zero-le}
use Rattle.std.specs.Prelude.{◌≡◌, refl, true, cond, ◌&&◌, [], ◌∷◌, length, eqb}
use Rattle.std.proofs.Math.Bool.{and-false, not}
use native.Mathlib.Omega.{arith}
use Rattle.std.proofs.Common.{length-append, eq-eqb}
use Rattle.effbd.specs.Ranges.{how_many, tabulate}
use Rattle.effbd.specs.Diagrams.{Diagram, function, is_kind, is_trigger, item, item_total, row, row_count}
use Rattle.effbd.specs.Counts.{Tally, copies, copies_of, copy, count_total, gives, gives_as, initial_as, initial_count, receives, shared, take_of, tallies, tally}
use Rattle.effbd.specs.States.{count_passes}
use Rattle.ranges.specs.Tests.{decide}
use Rattle.ranges.specs.RangeLaws.{length-tab}

module _ (d : Diagram) where
  -- a count is a word; of a trigger "its shared count remains 0"
  abbrev pub most_of : Tally → ℕ
  most_of (shared k) = cond (is_trigger d k) 0 65535
  most_of (copy k q) = 65535

  pub most-le : (t : Tally) → most_of t ≤ 65535
  most-le (shared k) = decide (is_trigger d k) (λ e. rw e zero-le) (λ e. rw e (omega arith))
  most-le (copy k q) = omega arith

  given : (r n : ℕ) (t : Tally) → n ≤ most_of t → n + gives_as d r t ≤ 65535 → n + gives_as d r t ≤ most_of t
  given r n (shared k) l h = decide (is_trigger d k) (λ e. rw e (let m : n ≤ 0 = rw e at l in omega arith)) (λ e. rw e (rw e at h))
  given r n (copy k q) l h = h

  pub most-given : (r c n : ℕ) → n ≤ most_of (tally d c) → n + gives d r c ≤ 65535 → n + gives d r c ≤ most_of (tally d c)
  unfolding gives
  most-given r c n l h = given r n (tally d c) l h

  pub most-passes : (t : Tally) (n : ℕ) → n ≤ most_of t → count_passes d t n ≡ true
  most-passes (shared k) n l = decide (is_trigger d k) (λ e. rw e (let m : n ≤ 0 = rw e at l in eq-eqb n 0 (omega arith))) (λ e. rw e)
  most-passes (copy k q) n l = refl

  module _ (stocks : (k : ℕ) → (item d k).initial ≤ 65535) where
    initial : (t : Tally) → initial_as d t ≤ most_of t
    initial (shared k) = decide (is_trigger d k) (λ e. rw e zero-le) (λ e. rw e (stocks k))
    initial (copy k q) = stocks k

    pub most-initial : (c : ℕ) → initial_count d c ≤ most_of (tally d c)
    unfolding initial_count
    most-initial c = initial (tally d c)

  -- how many copies of one item: at most one for each FUNCTION; how many counts, where at most n rows are FUNCTIONs
  copies-each : (k r : ℕ) → length (copies_of d k r) ≤ how_many r (is_kind d function)
  unfolding copies_of
  copies-each k zero = zero-le
  copies-each k (suc r) = rw (length-append (copies_of d k r) (cond (receives d k r) (copy k r ∷ []) [])) (let a = copies-each k r in decide (is_kind d function r)
      (λ e. rw e (decide (is_trigger d k && not (eqb (take_of (row d r).uses k) 0)) (λ f. rw f (omega arith)) (λ f. rw f (omega arith))))
      (λ e. rw (e, and-false) (omega arith)))

  module _ (n : ℕ) (few : how_many (row_count d) (is_kind d function) ≤ n) where
    copies-few : (m : ℕ) → length (copies d m) ≤ n * m
    unfolding copies
    copies-few zero = zero-le
    copies-few (suc k) = rw (length-append (copies d k) (copies_of d k (row_count d))) (let a = copies-few k in let b = copies-each k (row_count d) in let z : n * suc k ≡ n * k + n = omega arith in omega arith)

    pub counts-few : count_total d ≤ item_total d + n * item_total d
    unfolding count_total tallies
    counts-few = rw (length-append (tabulate (item_total d) shared) (copies d (item_total d)), length-tab (item_total d) shared) (let x = copies-few (item_total d) in omega arith)
