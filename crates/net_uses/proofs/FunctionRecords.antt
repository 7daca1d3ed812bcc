-- THEOREM (function-is): the records of a FUNCTION over the table are those of its patterns.
use Rattle.std.proofs.Common.{ℕ, suc, ◌+◌, ◌*◌, ◌<◌, ◌≡◌, refl, ap₂, sym, ◌∙◌, ◌≢◌, List, ◌++◌, append_assoc, append-nil, add-one}
use Rattle.effbd.specs.Ranges.{only}
use Rattle.effbd.specs.Diagrams.{function, end, Diagram, row_count, row, kind}
use Rattle.effbd.specs.Counts.{takes, gives}
use Rattle.effbd.specs.Layout.{by_place}
use Rattle.effbd.specs.States.{killed, entered}
use Rattle.effbd.specs.Nets.{take_arc, give_arc}
use Rattle.effbd.specs.Patterns.{none, one_at, nowhere, at_once, clears_rows, restores_r, patterns_as}
use Rattle.agreement.specs.Basics.{not-kind}
use Rattle.agreement.specs.AcceptedFiles.{Held}
use Rattle.agreement.proofs.Reach.{next-in}
use Rattle.diagram_table.specs.Cells.{uses_in}
use Rattle.diagram_table.specs.Held.{Holds, HoldsUses, HoldsCopies, HoldsRanks}
use Rattle.diagram_table.proofs.HeldCells.{in_rows, first_cell}
use Rattle.net_records.specs.Records.{arc}
use Rattle.net_clears.proofs.Weights.{arc-none, at-P, mark-Q}
use Rattle.net_clears.proofs.PatternRecords.{pattern_records, all_patterns, unclearing}
use Rattle.net_entries.proofs.EnteringRecords.{enter-is}
use Rattle.net_uses.specs.FunctionTransitions.{use_arcs, function_start, function_end, function_of, function_records}
use Rattle.net_uses.proofs.CountArcs.{takes-are, gives-are}

module _ (d : Diagram) (rows items : ℕ) (table file : List ℕ) (h : Holds d rows items table) (u : HoldsUses file d table) (copied : HoldsCopies d table) (ranked : HoldsRanks d table)
    (held : Held d) where
  pub function-is : (r : ℕ) → r < row_count d → kind d r ≡ function → function_records table file rows r ≡ all_patterns d r (patterns_as d function r)
  unfolding function_records function_of all_patterns
  function-is r l e = sym (ap₂ ◌++◌ start (append-nil _ ∙ stop))
    where
      no_end : kind d r ≢ end
      no_end = not-kind d r e end refl

      start : pattern_records d r (at_once (by_place (one_at (only r)) none none (takes d r)) nowhere (by_place none (one_at (only r)) none none)) ≡ function_start r (use_arcs table rows take_arc r (uses_in table file r))
      start = unfold function_start in (unclearing d r 0 0 _ _ (arc take_arc (3 * r) 1 ++ use_arcs table rows take_arc r (uses_in table file r)) (arc give_arc (3 * r + 1) 1)
          (at-P d take_arc r none none (takes d r) l (λ q n. (refl, refl)) ∙ rw (arc-none take_arc (3 * r + 1) refl, arc-none take_arc (3 * r + 2) refl, append-nil, takes-are d rows items table file h u copied ranked held r l e))
          (mark-Q d give_arc r l) ∙ simp append_assoc)

      q : ℕ
      q = suc r

      stop : pattern_records d r (record { earliest = (row d r).first; latest = (row d r).second; take = by_place none (one_at (only r)) none none; clear = clears_rows d (killed d q); give = by_place (one_at (entered d q)) none (restores_r d (killed d q)) (gives d r) })
          ≡ function_end table r (use_arcs table rows give_arc r (uses_in table file r))
      stop = unfold function_end in (enter-is d rows items table h held q (next-in d held.acc r no_end) r (row d r).first (row d r).second _ (gives d r) (arc take_arc (3 * r + 1) 1) (use_arcs table rows give_arc r (uses_in table file r))
          (mark-Q d take_arc r l) (gives-are d rows items table file h u copied ranked held r l e)
          ∙ rw (first_cell d rows items table h r l, h.records.seconds r (in_rows d rows items table h r l) (rw e), add-one r))
