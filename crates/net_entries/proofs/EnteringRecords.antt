-- THEOREM (enter-is): what a transition writes of entering a row is what its pattern clears and gives.
use Rattle.std.proofs.Common.{ℕ, ◌+◌, ◌*◌, ◌-◌, ◌<◌, ◌≡◌, refl, ap, sym, ◌∙◌, true, false, List, ◌++◌, append_assoc, append-nil}
use Rattle.std.proofs.Math.Path.{fun_ext}
use Rattle.effbd.specs.Ranges.{only, between, nobody}
use Rattle.effbd.specs.Diagrams.{Diagram, and_open, row_count, kind}
use Rattle.effbd.specs.Layout.{Place, P, Q, R, Count, by_place}
use Rattle.effbd.specs.Nesting.{owner, close, branch_of}
use Rattle.effbd.specs.Nets.{take_arc, clear_arc, give_arc}
use Rattle.effbd.specs.States.{ends_killer, entered_row, killed, entered}
use Rattle.effbd.specs.Patterns.{none, one_at, nowhere, clears_rows, restores_r}
use Rattle.ranges.specs.Tests.{decide}
use Rattle.agreement.specs.AcceptedFiles.{Held}
use Rattle.agreement.specs.NestingLaws.{laws}
use Rattle.agreement.proofs.Reach.{entered-in, ends-killer}
use Rattle.agreement.proofs.TokenSteps.{branch-owner}
use Rattle.diagram_table.specs.Cells.{entered_in, kills_in, owner_in}
use Rattle.diagram_table.specs.Held.{Holds}
use Rattle.diagram_table.proofs.HeldCells.{owner-cell, entered-cell, kills-cell}
use Rattle.net_records.specs.Writing.{Records}
use Rattle.net_records.specs.Records.{transition, pair, arc}
use Rattle.net_clears.specs.Clearing.{kill}
use Rattle.net_clears.proofs.Weights.{arc-none, weights, count_arcs, weighed, at-P}
use Rattle.net_clears.proofs.PatternRecords.{pattern_records, clears, no-clear}
use Rattle.net_clears.proofs.Kills.{killed-range, kill-gives, kill-is}
use Rattle.net_entries.specs.Entering.{entering}

-- the sets of an entering that kills, and of one that does not
module _ (d : Diagram) (q : ℕ) where
  pub killing : ends_killer d q ≡ true → (killed d q ≡ between (owner d q) (close d (owner d q))) × (entered d q ≡ branch_of d (owner d q))
  unfolding killed entered
  killing e = (fun_ext (λ x. rw e), fun_ext (λ x. rw e))

  pub sparing : ends_killer d q ≡ false → (killed d q ≡ nobody) × (entered d q ≡ only (entered_row d q))
  unfolding killed entered
  sparing e = (fun_ext (λ x. rw e), fun_ext (λ x. rw e))

-- a transition that clears no row
pub no_rows : (d : Diagram) → clears_rows d nobody ≡ nowhere
no_rows d = fun_ext go
  where
    go : (p : Place) → clears_rows d nobody p ≡ nowhere p
    go (P q) = refl
    go (Q q) = refl
    go (R q) = refl
    go (Count k) = refl

module _ (d : Diagram) (rows items : ℕ) (table : List ℕ) (h : Holds d rows items table) (held : Held d) where
  module _ (q : ℕ) (l : q < row_count d) where
    pub kills-is : kills_in table (entered_in table q) ≡ ends_killer d q
    kills-is = ap (kills_in table) (entered-cell d rows items table h q l) ∙ (kills-cell d rows items table h (entered_row d q) (entered-in d held.acc q l) ∙ ends-killer d held.acc q)

    -- of one that ends a branch that kills: the AND of that branch, in the table and in the diagram
    module _ (e : ends_killer d q ≡ true) where
      killer : (kind d (owner d q) ≡ and_open) × (branch_of d (owner d q) (entered_row d q) ≡ true)
      killer = (laws d held.acc).killer q e

      pub owner-is : owner_in table (entered_in table q) ≡ owner d q
      owner-is = ap (owner_in table) (entered-cell d rows items table h q l)
          ∙ (owner-cell d rows items table h (entered_row d q) (entered-in d held.acc q l) ∙ branch-owner d (owner d q) (entered_row d q) killer.1)

      pub entering-kill : entering table q ≡ kill table (owner d q)
      unfolding entering
      entering-kill = rw (kills-is, e, owner-is)

    pub entering-one : ends_killer d q ≡ false → entering table q ≡ arc give_arc (3 * entered_row d q) 1
    unfolding entering
    entering-one e = rw (kills-is, e, entered-cell d rows items table h q l)

    -- what entering q clears and gives, with gives to counts
    entering-is : (e : ℕ → ℕ) → clears d (clears_rows d (killed d q)) ++ weights d give_arc (by_place (one_at (entered d q)) none (restores_r d (killed d q)) e) ≡ entering table q ++ count_arcs d give_arc e
    entering-is w = decide (ends_killer d q)
        (λ e. let k = killer e in
        rw ((killing d q e).0, (killing d q e).1, killed-range d rows items table h held (owner d q) k.0, weighed d give_arc (one_at (branch_of d (owner d q))) none (restores_r d (between (owner d q) (close d (owner d q)))) w, kill-gives d rows items table h held (owner d q) k.0, entering-kill e)
        (sym (ap (λ (x : Records). x ++ count_arcs d give_arc w) (kill-is d rows items table h held (owner d q) k.0) ∙ append_assoc (pair clear_arc (3 * (owner d q + 1)) (3 * (close d (owner d q) - 1) + 2)) _ (count_arcs d give_arc w))))
        (λ e. rw ((sparing d q e).0, (sparing d q e).1, no_rows d, no-clear d, entering-one e)
        (at-P d give_arc (entered_row d q) none none w (entered-in d held.acc q l) (λ x n. (refl, refl))
        ∙ rw (arc-none give_arc (3 * entered_row d q + 1) refl, arc-none give_arc (3 * entered_row d q + 2) refl, append-nil)))

    pub enter-is : (r earliest latest : ℕ) (take : Place → ℕ) (e : ℕ → ℕ) (ts gs : Records) → weights d take_arc take ≡ ts → count_arcs d give_arc e ≡ gs
        → pattern_records d r (record { earliest = earliest; latest = latest; take = take; clear = clears_rows d (killed d q); give = by_place (one_at (entered d q)) none (restores_r d (killed d q)) e })
        ≡ transition r earliest latest ++ ts ++ entering table q ++ gs
    unfolding pattern_records
    enter-is r earliest latest take e ts gs x y = rw (x, entering-is e, y) (sym (append_assoc (transition r earliest latest ++ ts) (entering table q) gs ∙ append_assoc (transition r earliest latest) ts (entering table q ++ gs)))
