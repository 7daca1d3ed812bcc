-- THEOREM (transitions-are): the transitions over the table are the records of the diagram's net.
use Rattle.std.proofs.Common.{ℕ, zero, suc, ◌%◌, ◌≤◌, ◌<◌, ◌≡◌, refl, ap, ap₂, sym, ◌∙◌, List, [], ◌∷◌, ◌++◌, map, arith, length, get_or}
use Rattle.std.proofs.lemmas.List.{map-append}
use Rattle.effbd.specs.Ranges.{tabulate}
use Rattle.effbd.specs.Diagrams.{Diagram, most_rows, row_count}
use Rattle.effbd.specs.Layout.{places, place_of}
use Rattle.effbd.specs.Nets.{Transition, take_arc, give_arc, most_places}
use Rattle.effbd.specs.Patterns.{Pattern, no_pattern, Name, names, patterns, arcs_of, ranges_from, transition_of, net_of}
use Rattle.agreement.specs.AcceptedFiles.{Held}
use Rattle.agreement.specs.Counts.{counts-few}
use Rattle.diagram_table.specs.Held.{Holds, HoldsUses, HoldsCopies, HoldsRanks}
use Rattle.net_records.specs.Writing.{runs}
use Rattle.net_records.specs.Records.{transition}
use Rattle.net_rows.specs.Rows.{row_records}
use Rattle.net_records.proofs.Runs.{runs_same}
use Rattle.net_records.proofs.Nets.{arc_record, transition_record, transition_records, records-append}
use Rattle.net_clears.proofs.Weights.{arcs-run, weights}
use Rattle.net_clears.proofs.PatternRecords.{clears, pattern_records, all_patterns}
use Rattle.net_rows.proofs.RowRecords.{row_is}

module _ (d : Diagram) (few : places d ≤ most_places) where
  -- the transition of a pattern
  made : ℕ → Pattern → Transition
  made r p = record {
    label = r;
    earliest = p.earliest;
    latest = p.latest;
    arcs = arcs_of take_arc (places d) (λ i. p.take (place_of d i)) ++ (ranges_from (places d) 0 (λ i. p.clear (place_of d i)) ++ arcs_of give_arc (places d) (λ i. p.give (place_of d i)));
  }

  pattern-records : (r : ℕ) (p : Pattern) → r < most_rows → transition_record (made r p) ∷ map arc_record (made r p).arcs ≡ pattern_records d r p
  unfolding made transition_record pattern_records transition weights clears
  pattern-records r p l = let e : r % 65536 ≡ r = omega arith in
      rw (e, map-append, map-append, arcs-run take_arc (places d) (λ i. p.take (place_of d i)) (omega arith), arcs-run give_arc (places d) (λ i. p.give (place_of d i)) (omega arith))

  row-patterns : (ps : List Pattern) (r : ℕ) (f : ℕ → Name d) → r < most_rows → ((i : ℕ) → transition_of d (f i) ≡ made r (get_or ps i no_pattern))
      → transition_records (map (transition_of d) (tabulate (length ps) f)) ≡ all_patterns d r ps
  unfolding transition_records all_patterns
  row-patterns [] r f l h = refl
  row-patterns (p ∷ ps) r f l h = ap (λ (t : Transition). (transition_record t ∷ map arc_record t.arcs) ++ transition_records (map (transition_of d) (tabulate (length ps) (λ i. f (suc i))))) (h 0)
      ∙ ap₂ ◌++◌ (pattern-records r p l) (row-patterns ps r (λ i. f (suc i)) l (λ i. h (suc i)))

  all-patterns : (n : ℕ) → n ≤ most_rows → transition_records (map (transition_of d) (names d n)) ≡ runs (λ r. all_patterns d r (patterns d r)) n
  unfolding names runs transition_records transition_of made
  all-patterns zero l = refl
  all-patterns (suc n) l = ap transition_records (map-append (transition_of d) (names d n) (tabulate (length (patterns d n)) (λ i. record { label = n; index = i })))
      ∙ (records-append (map (transition_of d) (names d n)) (map (transition_of d) (tabulate (length (patterns d n)) (λ i. record { label = n; index = i })))
      ∙ ap₂ ◌++◌ (all-patterns n (omega arith)) (row-patterns (patterns d n) n (λ i. record { label = n; index = i }) (omega arith) (λ i. refl)))

module _ (d : Diagram) (rows items : ℕ) (table file : List ℕ) (h : Holds d rows items table) (u : HoldsUses file d table) (copied : HoldsCopies d table) (ranked : HoldsRanks d table)
    (held : Held d) where
  few : places d ≤ most_places
  few = let a = held.rows in let b = held.items in let c = counts-few d 63 held.works in omega arith

  pub transitions-are : transition_records (net_of d).transitions ≡ runs (row_records table file rows) rows
  unfolding net_of
  transitions-are = all-patterns d few (row_count d) held.rows
      ∙ (runs_same _ _ (row_count d) (λ r l. sym (row_is d rows items table file h u copied ranked held r l)) ∙ ap (runs (row_records table file rows)) (sym h.records.rows_are))
