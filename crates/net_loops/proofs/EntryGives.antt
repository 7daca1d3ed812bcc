-- Gives of a transition that enters one row: its entry stands before or behind the gives at other rows' Q and R.
use Rattle.std.proofs.Common.{ℕ, ◌+◌, ◌*◌, ◌≤◌, ◌<◌, ◌≡◌, refl, ap, ◌∙◌, ◌≢◌, [], ◌++◌, append-nil, arith, leb, leb-true, leb-false, ne_eqb}
use Rattle.effbd.specs.Ranges.{only}
use Rattle.effbd.specs.Diagrams.{Diagram, row_count}
use Rattle.effbd.specs.Layout.{by_place}
use Rattle.effbd.specs.Nets.{give_arc}
use Rattle.effbd.specs.Patterns.{none, one_at}
use Rattle.ranges.specs.Tests.{decide}
use Rattle.ranges.specs.RangeLaws.{only-refl}
use Rattle.net_records.specs.Writing.{Records, runs}
use Rattle.net_records.specs.Records.{arc}
use Rattle.net_records.proofs.Runs.{runs-one, runs-first, runs_last}
use Rattle.net_clears.proofs.Weights.{arc-none, row_arcs, weights, count_none, weighed}
use Rattle.net_loops.specs.LoopTransitions.{early, late}

module _ (d : Diagram) where
  -- the give to row e's P before the gives at Q and R of rows behind, or after those of rows before
  pub entry-among : (b c : ℕ → ℕ) (e p : ℕ) → e < row_count d
      → (e ≤ p → (q : ℕ) → q < e → (b q ≡ 0) × (c q ≡ 0)) → (p < e → (q : ℕ) → e ≤ q → (b q ≡ 0) × (c q ≡ 0))
      → weights d give_arc (by_place (one_at (only e)) b c none)
      ≡ arc give_arc (3 * e) (early (3 * e) (3 * p)) ++ (runs (λ q. arc give_arc (3 * q + 1) (b q) ++ arc give_arc (3 * q + 2) (c q)) (row_count d) ++ arc give_arc (3 * e) (late (3 * e) (3 * p)))
  unfolding row_arcs early late
  entry-among b c e p l h g = weighed d give_arc (one_at (only e)) b c none ∙ (rw (count_none d give_arc, append-nil) (decide (leb (3 * e) (3 * p))
      (λ z. let w = leb-true (3 * e) (3 * p) z in
      runs-first own rest e (row_count d) l off (λ q m. empty q (h (omega arith) q m))
      ∙ rw (z, only-refl e, arc-none give_arc (3 * e) refl, append-nil))
      (λ z. let w = leb-false (3 * e) (3 * p) z in
      runs_last own rest e (row_count d) l off (λ q m. empty q (g (omega arith) q m))
      ∙ rw (z, only-refl e, arc-none give_arc (3 * e) refl))))
    where
      own : ℕ → Records
      own q = arc give_arc (3 * q) (one_at (only e) q)

      rest : ℕ → Records
      rest q = arc give_arc (3 * q + 1) (b q) ++ arc give_arc (3 * q + 2) (c q)

      off : (q : ℕ) → q ≢ e → own q ≡ []
      off q n = arc-none give_arc (3 * q) (rw (ne_eqb q e n))

      empty : (q : ℕ) → (b q ≡ 0) × (c q ≡ 0) → rest q ≡ []
      empty q i = rw (arc-none give_arc (3 * q + 1) i.0, arc-none give_arc (3 * q + 2) i.1)

  -- the gives of an IT open r: at its Q or R, and at row e's P
  pub it-gives : (b c : ℕ → ℕ) (e r : ℕ) → e < row_count d → r < row_count d → ((q : ℕ) → q ≢ r → (b q ≡ 0) × (c q ≡ 0))
      → weights d give_arc (by_place (one_at (only e)) b c none)
      ≡ arc give_arc (3 * e) (early (3 * e) (3 * r)) ++ ((arc give_arc (3 * r + 1) (b r) ++ arc give_arc (3 * r + 2) (c r)) ++ arc give_arc (3 * e) (late (3 * e) (3 * r)))
  it-gives b c e r l m h = entry-among b c e r l (λ o q k. h q (omega arith)) (λ o q k. h q (omega arith))
      ∙ ap (λ (x : Records). arc give_arc (3 * e) (early (3 * e) (3 * r)) ++ (x ++ arc give_arc (3 * e) (late (3 * e) (3 * r))))
      (runs-one (λ q. arc give_arc (3 * q + 1) (b q) ++ arc give_arc (3 * q + 2) (c q)) r (row_count d) m
      (λ q n. rw (arc-none give_arc (3 * q + 1) (h q n).0, arc-none give_arc (3 * q + 2) (h q n).1)))
