-- The records of a row's patterns.
use Rattle.std.proofs.Common.{ℕ, ◌+◌, ◌*◌, ◌%◌, ◌≤◌, ◌<◌, ◌≡◌, ap, sym, ◌∙◌, Bool, List, [], ◌∷◌, ◌++◌, map, append_assoc, arith}
use Rattle.effbd.specs.Ranges.{within}
use Rattle.effbd.specs.Diagrams.{Diagram, row_count, most_rows}
use Rattle.effbd.specs.Layout.{Place, places, place_of}
use Rattle.effbd.specs.Nets.{take_arc, clear_arc, give_arc}
use Rattle.effbd.specs.Patterns.{Pattern, nowhere, clears_rows, ranges_from}
use Rattle.net_records.specs.Writing.{Records}
use Rattle.net_records.specs.Records.{transition, pair}
use Rattle.net_records.proofs.Nets.{arc_record}
use Rattle.net_clears.proofs.Weights.{weights}
use Rattle.net_clears.proofs.ClearRanges.{rows-range, no-range}

-- the clear ranges of a test of places, a pattern's transition, a row's
module _ (d : Diagram) where
  unfoldable pub clears : (Place → Bool) → Records
  clears test = map arc_record (ranges_from (places d) 0 (λ p. test (place_of d p)))

  unfoldable pub pattern_records : ℕ → Pattern → Records
  pattern_records r p = transition r p.earliest p.latest ++ (weights d take_arc p.take ++ (clears p.clear ++ weights d give_arc p.give))

  unfoldable pub all_patterns : ℕ → List Pattern → Records
  all_patterns r [] = []
  all_patterns r (p ∷ ps) = pattern_records r p ++ all_patterns r ps

  pub no-clear : clears nowhere ≡ []
  unfolding clears
  no-clear = ap (map arc_record) (no-range d)

  pub one-clear : (a b : ℕ) → a ≤ b → b < row_count d → row_count d ≤ most_rows → clears (clears_rows d (within a b)) ≡ pair clear_arc (3 * a) (3 * b + 2)
  unfolding clears pair
  one-clear a b l m few = let e : (3 * a) % 65536 ≡ 3 * a = omega arith in let f : (3 * b + 2) % 65536 ≡ 3 * b + 2 = omega arith in
      ap (map arc_record) (rows-range d a b l m) ∙ rw (e, f)

  -- a transition that clears nothing
  pub unclearing : (r : ℕ) (earliest latest : ℕ) (take give : Place → ℕ) (ts gs : Records) → weights d take_arc take ≡ ts → weights d give_arc give ≡ gs
      → pattern_records r (record { earliest = earliest; latest = latest; take = take; clear = nowhere; give = give }) ≡ transition r earliest latest ++ ts ++ gs
  unfolding pattern_records
  unclearing r earliest latest take give ts gs e f = rw (e, f, no-clear) (sym (append_assoc (transition r earliest latest) ts gs))
