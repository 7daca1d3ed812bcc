-- THEOREM (head-is): the head over the table is the first record of the diagram's net.
use Rattle.std.proofs.Common.{ℕ, ◌+◌, ◌*◌, ◌%◌, ◌≤◌, ◌<◌, ◌≡◌, ap, ap₂, ◌∙◌, List, [], ◌∷◌, arith, length}
use Rattle.effbd.specs.Diagrams.{Diagram, row_count}
use Rattle.effbd.specs.Layout.{places}
use Rattle.effbd.specs.Nets.{most_places, most_transitions}
use Rattle.effbd.specs.Patterns.{names, transition_of, net_of}
use Rattle.agreement.specs.AcceptedFiles.{Held}
use Rattle.agreement.specs.Counts.{counts-few}
use Rattle.agreement.proofs.Numbering.{length-map}
use Rattle.agreement.proofs.NetSteps.{many-marks}
use Rattle.diagram_table.specs.Cells.{counts_in}
use Rattle.diagram_table.specs.Held.{Holds, HoldsCopies}
use Rattle.net_records.specs.Records.{pair}
use Rattle.net_numbers.specs.Numbers.{first_number_in}
use Rattle.net_numbers.proofs.FirstNumbers.{first-is}
use Rattle.net_head.specs.Head.{net_head}

word_mod : (n : ℕ) → n < 65536 → n % 65536 ≡ n
word_mod n l = omega arith

module _ (d : Diagram) (rows items : ℕ) (table : List ℕ) (h : Holds d rows items table) (copied : HoldsCopies d table) (held : Held d) where
  few : places d ≤ most_places
  few = let a = held.rows in let b = held.items in let c = counts-few d 63 held.works in omega arith

  pub head-is : (8 ∷ net_head ∷ length (net_of d).marks ∷ length (net_of d).transitions ∷ []) ∷ [] ≡ pair net_head (3 * rows + counts_in table items) (first_number_in table rows)
  unfolding pair
  head-is =
      let c = first-is d rows items table h (row_count d) (omega arith) in
      let t : length (net_of d).transitions ≡ length (names d (row_count d)) = unfold net_of in length-map (transition_of d) (names d (row_count d)) in
      let a = h.records.rows_are in let b = ap (counts_in table) h.records.items_are ∙ copied.total in let f = few in let k = c.1 in let g = h.records.few_rows in
      let p : 3 * rows + counts_in table items ≡ places d = ap₂ (λ (x y : ℕ). 3 * x + y) a b in
      let e₁ : (3 * rows + counts_in table items) % 65536 ≡ places d = ap (λ (x : ℕ). x % 65536) p ∙ word_mod (places d) (omega arith) in
      let w : first_number_in table rows ≡ length (names d (row_count d)) = ap (first_number_in table) a ∙ c.0 in
      let small : length (names d (row_count d)) ≤ most_transitions = omega arith in
      let e₂ : first_number_in table rows % 65536 ≡ length (names d (row_count d)) = ap (λ (x : ℕ). x % 65536) w ∙ word_mod (length (names d (row_count d))) (omega arith) in
      rw (many-marks d, t, e₁, e₂)
