-- THEOREM (first-is): the numbers that are told from a table are those of the diagram's net.
use Rattle.std.proofs.Common.{ℕ, zero, suc, ◌+◌, ◌*◌, ◌≤◌, zero-le, ◌≡◌, refl, ap, ap₂, sym, ◌∙◌, List, ◌++◌, arith, length, length-append}
use Rattle.effbd.specs.Ranges.{tabulate}
use Rattle.effbd.specs.Diagrams.{Kind, function, and_open, branch, and_close, or_open, or_close, it_open, it_close, lp_open, lp_close, loop_exit, end, box_open, box_close, box_exit, Diagram, number_of, row_count, kind, is_kind}
use Rattle.effbd.specs.Nesting.{owner}
use Rattle.effbd.specs.Patterns.{Name, names, patterns, patterns_as}
use Rattle.effbd.specs.Transitions.{first_number}
use Rattle.ranges.specs.Tests.{decide}
use Rattle.ranges.specs.RangeLaws.{length-tab}
use Rattle.diagram_table.specs.Held.{Holds}
use Rattle.diagram_table.proofs.HeldCells.{kind-cell, owner-kind}
use Rattle.net_numbers.specs.Numbers.{own_number, branch_number, number_as, first_number_in}

module _ (d : Diagram) where
  number_by : (k : Kind) (r : ℕ) → (length (patterns_as d k r) ≡ number_as (number_of (kind d (owner d r))) (number_of k)) × (length (patterns_as d k r) ≤ 2)
  unfolding number_as own_number branch_number
  number_by function r = (refl, omega arith)
  number_by and_open r = (refl, omega arith)
  number_by branch r = decide (is_kind d or_open (owner d r)) (λ e. rw e (refl, omega arith)) (λ e. rw e (refl, omega arith))
  number_by and_close r = (refl, omega arith)
  number_by or_open r = (refl, omega arith)
  number_by or_close r = (refl, omega arith)
  number_by it_open r = (refl, omega arith)
  number_by it_close r = (refl, omega arith)
  number_by lp_open r = (refl, omega arith)
  number_by lp_close r = (refl, omega arith)
  number_by loop_exit r = (refl, omega arith)
  number_by end r = (refl, omega arith)
  number_by box_open r = (refl, omega arith)
  number_by box_close r = (refl, omega arith)
  number_by box_exit r = (refl, omega arith)

module _ (d : Diagram) (rows items : ℕ) (table : List ℕ) (h : Holds d rows items table) where
  pub first-is : (n : ℕ) → n ≤ row_count d → (first_number_in table n ≡ first_number d n) × (first_number d n ≤ 2 * n)
  unfolding first_number_in names
  first-is zero l = (refl, zero-le)
  first-is (suc n) l =
      let i = first-is n (omega arith) in
      let b = number_by d (kind d n) n in
      let e : length (names d n ++ tabulate (length (patterns d n)) (λ i. record { label = n; index = i })) ≡ length (names d n) + length (patterns d n) =
      length-append (names d n) (tabulate (length (patterns d n)) (λ i. record { label = n; index = i })) ∙ ap (λ (x : ℕ). length (names d n) + x) (length-tab {A = Name d} (length (patterns d n)) (λ i. record { label = n; index = i })) in
      (rw (e, owner-kind d rows items table h n l, kind-cell d rows items table h n l) (ap₂ ◌+◌ i.0 (sym b.0)), (let x = i.1 in let y = b.1 in omega arith))
