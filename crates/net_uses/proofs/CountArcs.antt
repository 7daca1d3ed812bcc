-- THEOREM (takes-are, gives-are): a FUNCTION's arcs at all counts are those that the passes over its uses write: its items', then its triggers' copies'.
use Rattle.std.proofs.Common.{ℕ, ◌+◌, ◌*◌, ◌<◌, ◌≡◌, refl, sym, ap, ap₂, subst, ◌∙◌, Bool, true, false, cond, List, [], ◌∷◌, ◌++◌, append-nil, arith, add-zero, length, get_or, leb, eqb, eqb-true}
use Rattle.effbd.specs.Diagrams.{Diagram, Use, function, is_trigger, item_total, kind, row, row_count, row_fine, row_fine_as, uses_fine}
use Rattle.effbd.specs.Counts.{copies_of, give_of, gives, take_of, takes}
use Rattle.effbd.specs.Nets.{take_arc, give_arc}
use Rattle.ranges.specs.Tests.{and_right, decide}
use Rattle.agreement.specs.AcceptedFiles.{Held}
use Rattle.agreement.specs.Sources.{copy_at, item-shared, plain-copies}
use Rattle.diagram_table.specs.Cells.{uses_in, trigger_in, some_trigger_in, run_first, run_length}
use Rattle.diagram_table.specs.Held.{Holds, HoldsUses, HoldsCopies, HoldsRanks, no_use}
use Rattle.net_records.specs.Writing.{Records, runs}
use Rattle.net_records.specs.Records.{arc}
use Rattle.net_records.proofs.Runs.{runs_same, runs_none}
use Rattle.net_clears.proofs.Weights.{arc-none, count_arcs}
use Rattle.net_uses.specs.FunctionTransitions.{use_weight, equal_arcs, copy_arcs, use_arc, pass_arcs, trigger_arcs, plain_arcs, use_arcs}
use Rattle.net_uses.proofs.UseArcs.{by-item, pass-is, plain-is, equal-none, equal-one, item-low, each_use}
use Rattle.net_uses.proofs.CountTurns.{first_of, receivers_of, by-counts, taken, given}

module _ (d : Diagram) (held : Held d) where
  pub uses-fine : (r : ℕ) → kind d r ≡ function → uses_fine (item_total d) 0 (row d r).uses ≡ true
  uses-fine r e = and_right (leb (row d r).first (row d r).second) _ (subst (λ k. row_fine_as k (item_total d) (row d r) ≡ true) e (unfold row_fine in (held.each r).fine))

-- `amount` is what row r takes from each count, or gives to it, `weight` what its uses say; the copies of trigger k among them are `number` counts
-- from `first` on
module _ (d : Diagram) (rows items : ℕ) (table : List ℕ) (h : Holds d rows items table) (r kind : ℕ) (weight : List Use → ℕ → ℕ) (amount first number : ℕ → ℕ)
    (without : (k : ℕ) → weight [] k ≡ 0)
    (with : (u : Use) (us : List Use) (k : ℕ) → weight (u ∷ us) k ≡ cond (eqb u.item k) (use_weight kind u) (weight us k))
    (plain : (k : ℕ) → k < item_total d → amount k ≡ cond (is_trigger d k) 0 (weight (row d r).uses k))
    (copied : (k : ℕ) → k < item_total d → is_trigger d k ≡ true → runs (λ i. arc kind (3 * row_count d + (first_of d k + i)) (amount (first_of d k + i))) (receivers_of d k)
    ≡ equal_arcs kind (3 * row_count d + first k) (number k) (weight (row d r).uses k))
    (run : (j : ℕ) → j < length (row d r).uses → let k = (get_or (row d r).uses j no_use).item in is_trigger d k ≡ true
    → (run_first table (eqb kind give_arc) r j k ≡ first k) × (run_length table (eqb kind give_arc) k ≡ number k))
    (fine : uses_fine (item_total d) 0 (row d r).uses ≡ true) where
  -- what the two passes write for item k
  own : ℕ → ℕ → Records
  own k w = cond (is_trigger d k) [] (arc kind (3 * row_count d + k) w)

  copies : ℕ → ℕ → Records
  copies k w = cond (is_trigger d k) (equal_arcs kind (3 * row_count d + first k) (number k) w) []

  items-sum : runs (λ k. arc kind (3 * row_count d + k) (amount k)) (item_total d) ≡ runs (λ k. own k (weight (row d r).uses k)) (item_total d)
  unfolding own
  items-sum = runs_same _ _ (item_total d) (λ k l. rw (plain k l) (decide (is_trigger d k) (λ t. rw t (arc-none kind (3 * row_count d + k) refl)) (λ t. rw t)))

  copies-sum : runs (λ k. runs (λ i. arc kind (3 * row_count d + (first_of d k + i)) (amount (first_of d k + i))) (receivers_of d k)) (item_total d)
      ≡ runs (λ k. copies k (weight (row d r).uses k)) (item_total d)
  unfolding copies runs
  copies-sum = runs_same _ _ (item_total d) (λ k l. decide (is_trigger d k) (λ t. rw (copied k l t, t)) (λ t. rw (plain-copies d k (row_count d) t, t)))

  low : (j : ℕ) → j < length (row d r).uses → (get_or (row d r).uses j no_use).item < item_total d
  low j l = item-low (row d r).uses (item_total d) 0 j fine l

  trigger-cell : (k : ℕ) → k < item_total d → trigger_in table k ≡ cond (is_trigger d k) 1 0
  trigger-cell k l = h.records.triggers k (let e = h.records.items_are in omega arith)

  own-pass : pass_arcs table rows kind r 0 0 (row d r).uses ≡ each_use own kind (row d r).uses
  unfolding own use_arc
  own-pass = pass-is table rows kind r 0 own (row d r).uses 0 (λ j l w. let k = (get_or (row d r).uses j no_use).item in
      rw (trigger-cell k (low j l)) (decide (is_trigger d k)
      (λ t. rw t)
      (λ t. rw (t, h.records.rows_are))))

  copies-pass : pass_arcs table rows kind r 1 0 (row d r).uses ≡ each_use copies kind (row d r).uses
  unfolding copies use_arc copy_arcs
  copies-pass = pass-is table rows kind r 1 copies (row d r).uses 0 (λ j l w. let k = (get_or (row d r).uses j no_use).item in let z : 0 + j ≡ j = omega arith in
      rw (trigger-cell k (low j l), z) (decide (is_trigger d k)
      (λ t. rw (t, h.records.rows_are, (run j l t).0, (run j l t).1))
      (λ t. rw t)))

  -- where no item is a trigger, one loop writes what the first pass writes, and the second writes nothing
  module _ (z : some_trigger_in table ≡ 0) where
    no-trigger : (k : ℕ) → k < item_total d → is_trigger d k ≡ false
    no-trigger k l = h.records.no_trigger z k (let i = h.records.items_are in omega arith)

    plain-pass : plain_arcs rows kind (row d r).uses ≡ each_use own kind (row d r).uses
    unfolding own
    plain-pass = plain-is rows kind own (row d r).uses (λ j l w. rw (no-trigger (get_or (row d r).uses j no_use).item (low j l), h.records.rows_are))

    no_copies : runs (λ k. copies k (weight (row d r).uses k)) (item_total d) ≡ []
    unfolding copies
    no_copies = runs_none _ (item_total d) (λ k l. rw (no-trigger k l))

  items-written : runs (λ k. arc kind (3 * row_count d + k) (amount k)) (item_total d) ≡ each_use own kind (row d r).uses
  unfolding own
  items-written = items-sum ∙ by-item kind weight without with own (λ k. decide (is_trigger d k) (λ t. rw t) (λ t. rw t (arc-none kind (3 * row_count d + k) refl))) (item_total d) (row d r).uses 0 fine

  copies-written : runs (λ k. copies k (weight (row d r).uses k)) (item_total d) ≡ each_use copies kind (row d r).uses
  unfolding copies
  copies-written = by-item kind weight without with copies (λ k. decide (is_trigger d k) (λ t. rw t (equal-none kind (3 * row_count d + first k) (number k))) (λ t. rw t)) (item_total d) (row d r).uses 0 fine

  pub uses-are : count_arcs d kind amount ≡ use_arcs table rows kind r (row d r).uses
  unfolding count_arcs use_arcs trigger_arcs
  uses-are = by-counts d (λ c. arc kind (3 * row_count d + c) (amount c)) ∙ decide (eqb (some_trigger_in table) 0)
      (λ e. let z = eqb-true (some_trigger_in table) 0 e in rw e (ap₂ ◌++◌ items-written (copies-sum ∙ no_copies z) ∙ (append-nil (each_use own kind (row d r).uses) ∙ sym (plain-pass z))))
      (λ e. rw e (ap₂ ◌++◌ (items-written ∙ sym own-pass) (copies-sum ∙ (copies-written ∙ sym copies-pass))))

module _ (d : Diagram) (rows items : ℕ) (table file : List ℕ) (h : Holds d rows items table) (u : HoldsUses file d table) (copied : HoldsCopies d table) (ranked : HoldsRanks d table)
    (held : Held d) (r : ℕ) (l : r < row_count d) (f : kind d r ≡ function) where
  -- the counts that a use of a trigger changes
  run-cells : (giving : Bool) (j : ℕ) → j < length (row d r).uses → let k = (get_or (row d r).uses j no_use).item in is_trigger d k ≡ true
      → (run_first table giving r j k ≡ first_of d k + cond giving 0 (length (copies_of d k r))) × (run_length table giving k ≡ cond giving (receivers_of d k) 1)
  unfolding run_first run_length
  run-cells giving j b t =
      let k = (get_or (row d r).uses j no_use).item in
      let m = item-low (row d r).uses (item_total d) 0 j (uses-fine d held r f) b in
      let e = h.records.triggers k (let i = h.records.items_are in omega arith) in
      rw (e, t, copied.firsts k m t, copied.receivers k m t, ranked.ranks r j l b t) (refl, refl)

  pub takes-are : count_arcs d take_arc (takes d r) ≡ use_arcs table rows take_arc r (uses_in table file r)
  unfolding use_weight takes copy_at
  takes-are = uses-are d rows items table h r take_arc take_of (takes d r) (λ k. copy_at d k r) (λ k. 1) (λ k. refl) (λ x xs k. refl)
      (λ k m. rw (item-shared d k m))
      (λ k m t. taken d r k m t f l ∙ sym (equal-one take_arc (3 * row_count d + copy_at d k r) (take_of (row d r).uses k)))
      (run-cells false) (uses-fine d held r f)
      ∙ ap (use_arcs table rows take_arc r) (sym (u.uses r l))

  pub gives-are : count_arcs d give_arc (gives d r) ≡ use_arcs table rows give_arc r (uses_in table file r)
  unfolding use_weight gives
  gives-are = uses-are d rows items table h r give_arc give_of (gives d r) (first_of d) (receivers_of d) (λ k. refl) (λ x xs k. refl)
      (λ k m. rw (item-shared d k m))
      (λ k m t. given d r k m t)
      (λ j b t. let c = run-cells true j b t in (c.0 ∙ add-zero _, c.1)) (uses-fine d held r f)
      ∙ ap (use_arcs table rows give_arc r) (sym (u.uses r l))
