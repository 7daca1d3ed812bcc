-- Rows upward, each with its fault: a file is turned away at the lowest row at fault, or none is.
use Rattle.std.specs.Prelude.{ℕ, ◌≤◌, ◌<◌, ◌≡◌, ◌≢◌, Bool, true, cond, eqb}
use Rattle.std.proofs.Math.Path.{refl}
use Rattle.std.proofs.Math.Bool.{false, not}
use Rattle.std.proofs.Common.{arith}
use Rattle.std.proofs.Math.Dec.{ltb}
use borrow.Author.Tests.{ltb-false, eqb-true, ne_eqb, lt-ltb, le-ltb}
use Rattle.effbd.specs.Answers.{Outcome, accepted, refused}
use Rattle.effbd.specs.Diagrams.{Diagram, row_count}
use Rattle.effbd.specs.Nesting.{first_faulty, unless_row}
use Rattle.ranges.specs.Tests.{decide}
use Rattle.ranges.specs.RangeLaws.{least-found, least-is, least-none}
use Rattle.agreement.specs.ByteLaws.{never}

module _ (d : Diagram) (fault : ℕ → ℕ) where
  -- accepted: no row is at fault, and what follows is accepted
  pub rows-clean : (on : Outcome Diagram) (e : Diagram) → unless_row d fault on ≡ accepted e → ((q : ℕ) → q < row_count d → fault q ≡ 0) × (on ≡ accepted e)
  unfolding unless_row
  rows-clean on e h = go (ltb (first_faulty d fault) (row_count d)) refl h
    where
      none : ltb (first_faulty d fault) (row_count d) ≡ false → (q : ℕ) → q < row_count d → fault q ≡ 0
      none f q l = decide (eqb (fault q) 0) (λ z. eqb-true (fault q) 0 z)
          (λ z. let w = (least-found (row_count d) (λ q. not (eqb (fault q) 0)) q l (rw z)).1 in
          let y : first_faulty d fault ≤ q = unfold first_faulty in w in
          let x = ltb-false (first_faulty d fault) (row_count d) f in absurd (omega arith))

      go : (b : Bool) → ltb (first_faulty d fault) (row_count d) ≡ b → cond b (refused (fault (first_faulty d fault)) (first_faulty d fault)) on ≡ accepted e
          → ((q : ℕ) → q < row_count d → fault q ≡ 0) × (on ≡ accepted e)
      go true f z = never z
      go false f z = (none f, z)

  pub rows-faultless : ((q : ℕ) → q < row_count d → fault q ≡ 0) → (on : Outcome Diagram) → unless_row d fault on ≡ on
  unfolding unless_row first_faulty
  rows-faultless h on = rw (least-none (row_count d) (λ q. not (eqb (fault q) 0)) (λ q l. rw (h q l)), le-ltb (row_count d) (row_count d) (omega arith))

  pub rows-faulty : (q : ℕ) → q < row_count d → fault q ≢ 0 → ((p : ℕ) → p < q → fault p ≡ 0) → (on : Outcome Diagram) → unless_row d fault on ≡ refused (fault q) q
  unfolding unless_row first_faulty
  rows-faulty q l ne h on = rw (least-is (row_count d) (λ q. not (eqb (fault q) 0)) q l (rw (ne_eqb (fault q) 0 ne)) (λ p m. rw (h p m)), lt-ltb q (row_count d) l)
