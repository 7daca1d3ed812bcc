-- THEOREM (killed-range, kill-gives, kill-is): what is written of a kill is what a pattern clears and gives that clears the rows of an AND.
use Rattle.std.proofs.Common.{ℕ, suc, ◌+◌, ◌*◌, ◌-◌, ◌≤◌, ◌<◌, ◌≡◌, refl, ap, ap₂, ◌∙◌, true, false, ◌&&◌, List, [], ◌++◌, append-nil, arith, leb, ltb, leb-true, leb-false, le-ltb, lt-ltb}
use Rattle.std.proofs.Math.Path.{fun_ext}
use Rattle.effbd.specs.Ranges.{within, between}
use Rattle.effbd.specs.Diagrams.{Diagram, and_open, it_open, row_count, kind, is_kind}
use Rattle.effbd.specs.Nesting.{close, branch_of}
use Rattle.effbd.specs.Nets.{clear_arc, give_arc}
use Rattle.effbd.specs.Patterns.{none, one_at, clears_rows, restores_r}
use Rattle.ranges.specs.Tests.{decide}
use Rattle.agreement.specs.AcceptedFiles.{Held}
use Rattle.agreement.specs.Structure.{Laws}
use Rattle.agreement.specs.NestingLaws.{laws}
use Rattle.agreement.proofs.Reach.{branch-behind, branch-before, close-in}
use Rattle.agreement.proofs.TokenSteps.{branch-kind}
use Rattle.diagram_table.specs.Held.{Holds}
use Rattle.diagram_table.proofs.HeldCells.{kind-cell, first_cell, close-cell, branch-cell}
use Rattle.net_records.specs.Writing.{Records, runs, span}
use Rattle.net_records.specs.Records.{pair, arc}
use Rattle.net_records.proofs.Runs.{runs_same, runs-span}
use Rattle.net_clears.specs.Clearing.{restore, revive, kill}
use Rattle.net_clears.proofs.Weights.{arc-none, row_arcs, idle-row}
use Rattle.net_clears.proofs.PatternRecords.{clears, one-clear}

between_is : (a b : ℕ) → 1 ≤ b → between a b ≡ within (a + 1) (b - 1)
between_is a b l = fun_ext (λ q. ap₂ ◌&&◌ (low q) (high q))
  where
    low : (q : ℕ) → ltb a q ≡ leb (a + 1) q
    low q = decide (leb (a + 1) q) (λ e. let h = leb-true (a + 1) q e in rw e (lt-ltb a q (omega arith))) (λ e. let h = leb-false (a + 1) q e in rw e (le-ltb a q (omega arith)))

    high : (q : ℕ) → ltb q b ≡ leb q (b - 1)
    high q = decide (leb q (b - 1)) (λ e. let h = leb-true q (b - 1) e in rw e (lt-ltb q b (omega arith))) (λ e. let h = leb-false q (b - 1) e in rw e (le-ltb q b (omega arith)))

module _ (d : Diagram) (rows items : ℕ) (table : List ℕ) (h : Holds d rows items table) (held : Held d) where
  law : Laws d
  law = laws d held.acc

  -- a kill in the AND that row o opens
  module _ (o : ℕ) (a : kind d o ≡ and_open) where
    shut : ℕ
    shut = close d o

    below : suc shut < row_count d
    unfolding shut
    below = close-in d held.acc o (rw a)

    inside : (b : ℕ) → branch_of d o b ≡ true → (o < b) × (b < shut)
    unfolding shut
    inside b e = let s = law.shut o (rw a) in (branch-behind d held.acc o b e, branch-before d held.acc o b (close d o) e s.0 s.1)

    some : o + 1 < shut
    some = let w = inside (suc o) (law.first o a) in omega arith

    pub killed-range : clears d (clears_rows d (between o (close d o))) ≡ pair clear_arc (3 * (o + 1)) (3 * (close d o - 1) + 2)
    unfolding shut
    killed-range = let s = some in let b = below in
        ap (λ W. clears d (clears_rows d W)) (between_is o (close d o) (omega arith)) ∙ one-clear d (o + 1) (close d o - 1) (omega arith) (omega arith) held.rows

    gives : ℕ → Records
    gives = row_arcs give_arc (one_at (branch_of d o)) none (restores_r d (between o (close d o)))

    outside : (q : ℕ) → branch_of d o q ≡ false → between o (close d o) q ≡ false → gives q ≡ []
    unfolding gives
    outside q e f = idle-row give_arc (record { at_p = rw e; at_q = refl; at_r = rw f })

    revived : (q : ℕ) → o < q → q < shut → gives q ≡ revive table o q
    unfolding gives shut row_arcs revive restore
    revived q l m = let b = below in
        rw (branch-cell d rows items table h o q (omega arith), kind-cell d rows items table h q (omega arith), first_cell d rows items table h q (omega arith), lt-ltb o q l, lt-ltb q (close d o) m, arc-none give_arc (3 * q + 1) refl)
        (decide (branch_of d o q)
        (λ e. rw (e, branch-kind d o q e) (ap (λ (x : Records). arc give_arc (3 * q) 1 ++ x) (arc-none give_arc (3 * q + 2) refl) ∙ append-nil _))
        (λ e. rw (e, arc-none give_arc (3 * q) refl) (decide (is_kind d it_open q) (λ z. rw z) (λ z. rw z (arc-none give_arc (3 * q + 2) refl)))))

    pub kill-gives : runs (row_arcs give_arc (one_at (branch_of d o)) none (restores_r d (between o (close d o)))) (row_count d) ≡ span (revive table o) (o + 1) (close d o)
    unfolding gives shut
    kill-gives = let s = some in let b = below in
        runs-span gives (o + 1) (close d o) (row_count d) (omega arith) (omega arith)
        (λ q l. outside q (off q (λ e. let w = inside q e in absurd (omega arith))) (rw (le-ltb o q (omega arith))))
        (λ q l. outside q (off q (λ e. let w = inside q e in absurd (omega arith))) (rw (lt-ltb o q (omega arith), le-ltb q (close d o) l)))
        ∙ (unfold span in runs_same _ _ (close d o - (o + 1)) (λ i m. revived (o + 1 + i) (omega arith) (omega arith)))
      where
        off : (q : ℕ) → (branch_of d o q ≡ true → ⊥) → branch_of d o q ≡ false
        off q n = decide (branch_of d o q) (λ e. absurd (n e)) (λ e. e)

    pub kill-is : kill table o ≡ pair clear_arc (3 * (o + 1)) (3 * (close d o - 1) + 2) ++ span (revive table o) (o + 1) (close d o)
    unfolding kill
    kill-is = let s = some in let b = below in unfold shut in rw (close-cell d rows items table h o (omega arith))
