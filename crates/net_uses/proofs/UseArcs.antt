-- The arcs of a FUNCTION's uses. Item numbers rise, so in each pass they stand in the order of the file; the uses are the bytes of a part, walked
-- use by use.
use Rattle.std.proofs.Common.{Bool, false, length-append, ℕ, zero, suc, ◌+◌, ◌-◌, ◌*◌, ◌≤◌, ◌<◌, zero-le, ◌≡◌, refl, sym, ap₂, ◌∙◌, true, not, cond, List, [], ◌∷◌, ◌++◌, append-nil, arith, add-zero, length, get_or, drop, length-drop, length-take-le, leb, ltb, eqb, leb-true, ltb-true, eqb-true, ne_eqb, eq-eqb}
use Rattle.std.proofs.lemmas.List.{get_or_append_left}
use Rattle.std.proofs.Math.Seq.{drop-append_seam}
use Rattle.effbd.specs.Records.{word}
use Rattle.effbd.specs.Diagrams.{Use, uses_fine}
use Rattle.effbd.specs.Nets.{take_arc, give_arc}
use Rattle.ranges.specs.Tests.{decide, and_left, and_right}
use Rattle.diagram_table.specs.Cells.{some_trigger_in, uses_start_in, uses_number_in, uses_bytes, uses_of, uses_in}
use Rattle.diagram_table.specs.Held.{no_use}
use Rattle.diagram_table.proofs.UsesWalked.{uses-next, uses-over}
use Rattle.net_records.specs.Writing.{Records, runs}
use Rattle.net_records.specs.Records.{arc}
use Rattle.net_records.proofs.Runs.{runs_same, runs_none, runs-first}
use Rattle.net_clears.proofs.Weights.{arc-none}
use Rattle.net_uses.specs.FunctionTransitions.{weight_at, use_weight, equal_arcs, copy_arcs, use_arc, pass_arcs, plain_arcs, arcs_of, use_arcs, function_of, function_records}

-- the first of uses whose item numbers rise from `from` on and stay below M
pub record Rising (M from : ℕ) (u : Use) (us : List Use) : Type 0 where
  pub low : from ≤ u.item
  pub high : u.item < M
  pub rest : uses_fine M (suc u.item) us ≡ true

pub rising : (M from : ℕ) (u : Use) (us : List Use) → uses_fine M from (u ∷ us) ≡ true → Rising M from u us
unfolding uses_fine
rising M from u us h =
    let a = and_right (leb from u.item) _ h in let b = and_right (ltb u.item M) _ a in record {
      low = leb-true from u.item (and_left (leb from u.item) _ h);
      high = ltb-true u.item M (and_left (ltb u.item M) _ a);
      rest = and_right (not (eqb (u.take + u.give) 0)) _ b;
    }

-- no more uses than items
pub uses-few : (us : List Use) (M from : ℕ) → uses_fine M from us ≡ true → length us ≤ M - from
uses-few [] M from h = zero-le
uses-few (u ∷ us) M from h = let f = rising M from u us h in let i = uses-few us M (suc u.item) f.rest in omega arith

-- what uses write, `at k w` for one of item k that weighs w
unfoldable pub each_use : (at : ℕ → ℕ → Records) (kind : ℕ) → List Use → Records
each_use at kind [] = []
each_use at kind (u ∷ us) = at u.item (use_weight kind u) ++ each_use at kind us

-- `weight` is what uses weigh at an item in arcs of a kind; what weighs nothing writes nothing
module _ (kind : ℕ) (weight : List Use → ℕ → ℕ) (without : (k : ℕ) → weight [] k ≡ 0)
    (with : (u : Use) (us : List Use) (k : ℕ) → weight (u ∷ us) k ≡ cond (eqb u.item k) (use_weight kind u) (weight us k))
    (at : ℕ → ℕ → Records) (nothing : (k : ℕ) → at k 0 ≡ []) (M : ℕ) where
  below : (us : List Use) (from k : ℕ) → uses_fine M from us ≡ true → k < from → weight us k ≡ 0
  below [] from k h l = without k
  below (u ∷ us) from k h l = let f = rising M from u us h in let a : from ≤ u.item = f.low in
      with u us k ∙ rw (ne_eqb u.item k (omega arith)) (below us (suc u.item) k f.rest (omega arith))

  -- what is written item by item is what the uses write, in their order
  pub by-item : (us : List Use) (from : ℕ) → uses_fine M from us ≡ true → runs (λ k. at k (weight us k)) M ≡ each_use at kind us
  unfolding each_use
  by-item [] from h = runs_none _ M (λ k l. rw (without k) (nothing k))
  by-item (u ∷ us) from h = runs_same _ (λ k. own k ++ at k (weight us k)) M (λ k l. split k)
      ∙ (runs-first own (λ k. at k (weight us k)) u.item M f.high (λ k n. rw (ne_eqb u.item k (λ e. n (sym e))) (nothing k))
      (λ k l. rw (below us (suc u.item) k f.rest (omega arith)) (nothing k))
      ∙ rw (eq-eqb u.item u.item refl, by-item us (suc u.item) f.rest))
    where
      f : Rising M from u us
      f = rising M from u us h

      own : ℕ → Records
      own k = at k (cond (eqb u.item k) (use_weight kind u) 0)

      split : (k : ℕ) → at k (weight (u ∷ us) k) ≡ own k ++ at k (weight us k)
      split k = rw (with u us k) (decide (eqb u.item k)
          (λ e. let z = eqb-true u.item k e in rw (e, below us (suc u.item) k f.rest (omega arith), nothing k, append-nil))
          (λ e. rw (e, nothing k)))

-- a pass over uses writes `at`, where each use of it does
module _ (table : List ℕ) (rows kind row pass : ℕ) (at : ℕ → ℕ → Records) where
  pub pass-is : (us : List Use) (j : ℕ) → ((i : ℕ) → i < length us → (w : ℕ) → use_arc table rows kind row pass (j + i) (get_or us i no_use).item w ≡ at (get_or us i no_use).item w)
      → pass_arcs table rows kind row pass j us ≡ each_use at kind us
  unfolding pass_arcs each_use
  pass-is [] j h = refl
  pass-is (u ∷ us) j h = ap₂ ◌++◌ (rw add-zero at (h 0 (omega arith) (use_weight kind u)))
      (pass-is us (j + 1) (λ i l w. let e : j + 1 + i ≡ j + suc i = omega arith in rw e (h (suc i) (omega arith) w)))

-- the arcs of plain uses write `at`, where each use does
module _ (rows kind : ℕ) (at : ℕ → ℕ → Records) where
  pub plain-is : (us : List Use) → ((i : ℕ) → i < length us → (w : ℕ) → arc kind (3 * rows + (get_or us i no_use).item) w ≡ at (get_or us i no_use).item w)
      → plain_arcs rows kind us ≡ each_use at kind us
  unfolding plain_arcs each_use
  plain-is [] h = refl
  plain-is (u ∷ us) h = ap₂ ◌++◌ (h 0 (omega arith) (use_weight kind u)) (plain-is us (λ i l w. h (suc i) (omega arith) w))

-- arcs that weigh nothing are none
pub equal-none : (kind first n : ℕ) → equal_arcs kind first n 0 ≡ []
unfolding equal_arcs
equal-none kind first n = runs_none _ n (λ i l. arc-none kind (first + i) refl)

pub copies-none : (table : List ℕ) (rows kind row j k : ℕ) {weight : ℕ} → weight ≡ 0 → [] ≡ copy_arcs table rows kind row j k weight
unfolding copy_arcs
copies-none table rows kind row j k e = rw (e, equal-none kind _ _)

-- an arc to one place
pub equal-one : (kind first weight : ℕ) → equal_arcs kind first 1 weight ≡ arc kind first weight
unfolding equal_arcs runs
equal-one kind first weight = rw add-zero

-- the item of a use is one of the items
pub item-low : (us : List Use) (M from i : ℕ) → uses_fine M from us ≡ true → i < length us → (get_or us i no_use).item < M
item-low [] M from i h l = absurd (omega arith)
item-low (u ∷ us) M from zero h l = (rising M from u us h).high
item-low (u ∷ us) M from (suc i) h l = item-low us M (suc u.item) i (rising M from u us h).rest (omega arith)

weight-read : (kind : ℕ) (bytes : List ℕ) → use_weight kind (record { item = word bytes 0; take = word bytes 2; give = word bytes 4 }) ≡ word bytes (weight_at kind)
unfolding use_weight weight_at
weight-read kind bytes = decide (eqb kind take_arc) (λ e. rw e) (λ e. rw e)

-- a use in front: it is written, the rest is left
get_front : (part more : List ℕ) (i : ℕ) → i < length part → get_or (part ++ more) i 0 ≡ get_or part i 0
get_front part more i l = get_or_append_left part more 0 i l

uses-front : (part more : List ℕ) → length part ≡ 6 → uses_of (part ++ more) ≡ record { item = word part 0; take = word part 2; give = word part 4 } ∷ uses_of more
uses-front part more e =
    let l : 6 ≤ length (part ++ more) = omega (arith, e, length-append part more) in
    uses-next (part ++ more) l ∙ rw (
      get_front part more 0 (omega (arith, e)),
      get_front part more 1 (omega (arith, e)),
      get_front part more 2 (omega (arith, e)),
      get_front part more 3 (omega (arith, e)),
      get_front part more 4 (omega (arith, e)),
      get_front part more 5 (omega (arith, e)),
      ← e,
      drop-append_seam part more,
    ) refl

pub use-turn : (table : List ℕ) (rows kind row pass j : ℕ) (rest part more : List ℕ) (item field weight : ℕ) → rest ≡ part ++ more → length part ≡ 6 → item ≡ word part 0
    → field ≡ weight_at kind → weight ≡ word part field
    → pass_arcs table rows kind row pass j (uses_of rest) ≡ use_arc table rows kind row pass j item weight ++ pass_arcs table rows kind row pass (j + 1) (uses_of more)
unfolding pass_arcs
use-turn table rows kind row pass j rest part more item field weight d l e f g = rw (d, uses-front part more l, weight-read kind part, e, g, f)

pub uses-ended : (table : List ℕ) (rows kind row pass j : ℕ) (rest : List ℕ) → length rest < 6 → pass_arcs table rows kind row pass j (uses_of rest) ≡ []
unfolding pass_arcs
uses-ended table rows kind row pass j rest l = rw (uses-over rest l)

-- the same of plain uses
pub plain_turn : (rows kind : ℕ) (rest part more : List ℕ) (item field weight : ℕ) → rest ≡ part ++ more → length part ≡ 6 → item ≡ word part 0 → field ≡ weight_at kind → weight ≡ word part field
    → plain_arcs rows kind (uses_of rest) ≡ arc kind (3 * rows + item) weight ++ plain_arcs rows kind (uses_of more)
unfolding plain_arcs
plain_turn rows kind rest part more item field weight d l e f g = rw (d, uses-front part more l, weight-read kind part, e, g, f)

pub plain-ended : (rows kind : ℕ) (rest : List ℕ) → length rest < 6 → plain_arcs rows kind (uses_of rest) ≡ []
unfolding plain_arcs
plain-ended rows kind rest l = rw (uses-over rest l)

-- their number is a word of the table
pub uses-short : (table file : List ℕ) (r : ℕ) → uses_number_in table r < 65536 → length (uses_bytes table file r) < 393216
unfolding uses_bytes
uses-short table file r l = decide (leb (uses_start_in table r + 6 * uses_number_in table r) (length file))
    (λ e. let m = leb-true (uses_start_in table r + 6 * uses_number_in table r) (length file) e in
    let n : 6 * uses_number_in table r ≤ length (drop (uses_start_in table r) file) = omega (arith, length-drop (uses_start_in table r) file) in
    rw (e, length-take-le (6 * uses_number_in table r) (drop (uses_start_in table r) file) n) (omega arith))
    (λ e. rw e (omega arith))

-- the records of a FUNCTION, its uses having been found
module _ (table file : List ℕ) (rows row : ℕ) {uses : List ℕ} (e : uses ≡ uses_bytes table file row) where
  pub arcs-are : (kind : ℕ) (triggers : Bool) → eqb (some_trigger_in table) 0 ≡ not triggers → arcs_of triggers table rows kind row (uses_of uses) ≡ use_arcs table rows kind row (uses_in table file row)
  unfolding arcs_of use_arcs
  arcs-are kind true z = rw (e, z)
  arcs-are kind false z = rw (e, z)

  pub function-is : (triggers : Bool) → eqb (some_trigger_in table) 0 ≡ not triggers
      → function_of table row (arcs_of triggers table rows take_arc row (uses_of uses)) (arcs_of triggers table rows give_arc row (uses_of uses)) ≡ function_records table file rows row
  unfolding function_records
  function-is triggers z = rw (arcs-are take_arc triggers z, arcs-are give_arc triggers z)
