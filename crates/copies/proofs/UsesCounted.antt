-- The uses of a row, counted: one receiver more of each trigger that they take, and the rank of each use.
use Prim.Native.Nat.{ℕ, zero, suc, ◌+◌, ◌≤◌, ◌<◌}
use mathlib.Core.Path.{◌≡◌, refl, sym, ◌∙◌, ap}
use mathlib.Core.Logic.{◌≢◌}
use mathlib.Core.Bool.{Bool, true, false, cond, not, and-false}
use mathlib.Core.List.{List, [], ◌∷◌}
use native.Mathlib.Omega.{arith}
use lib.ListN.{length, get_or, set, length-set}
use lib.Seq.{get_or-set_same, get_or-set_other}
use lib.Dec.{eqb}
use borrow.Author.Tests.{eqb-true, eqb-false}
use Rattle.effbd.specs.Diagrams.{Use, uses_fine, most_items}
use Rattle.effbd.specs.Counts.{take_of}
use Rattle.effbd.specs.Moves.{most_word}
use Rattle.ranges.specs.Tests.{decide}
use Rattle.diagram_table.specs.Cells.{item_cell, receivers_cell, first_copy_cell, cell_total, counted_total, trigger_in, receivers_in}
use Rattle.diagram_table.specs.Held.{no_use}
use Rattle.words.specs.Sums.{added}
use Rattle.words.proofs.PlainSums.{whole_sum}
use Rattle.copies.specs.Counting.{receives_in, use_counted, uses_counted}
use Rattle.diagram_table.proofs.RisingUses.{Rises, rises, take_below, item-rises}

receives-none : (t : List ℕ) (k : ℕ) → receives_in t k 0 ≡ false
unfolding receives_in
receives-none t k = and-false (not (eqb (trigger_in t k) 0))

-- a table whose trigger cells are another's
receives-same : (t next : List ℕ) (k much : ℕ) → trigger_in next k ≡ trigger_in t k → receives_in next k much ≡ receives_in t k much
unfolding receives_in
receives-same t next k much e = rw e

-- after one use of item k, whether it counts one receiver more
record UseDone (at k : ℕ) (more : Bool) (t next : List ℕ) : Type 0 where
  long : length next ≡ length t
  below : (i : ℕ) → i < cell_total → get_or next i 0 ≡ get_or t i 0
  above : (i : ℕ) → first_copy_cell 0 ≤ i → i ≢ at → get_or next i 0 ≡ get_or t i 0
  others : (q : ℕ) → q < most_items → q ≢ k → receivers_in next q ≡ receivers_in t q
  own : receivers_in next k ≡ receivers_in t k + cond more 1 0
  rank : at < length t → get_or next at 0 ≡ receivers_in t k

module _ (at k : ℕ) (t : List ℕ) (far : counted_total ≤ at) (long : counted_total ≤ length t) (low : k < most_items) (small : receivers_in t k < most_word) where
  abbrev ranked : List ℕ
  ranked = set t at (receivers_in t k)

  rank-put : UseDone at k false t ranked
  rank-put = record {
    long = length-set t at _;
    below = λ i l. get_or-set_other t at i _ 0 (λ e. absurd (omega arith));
    above = λ i l n. get_or-set_other t at i _ 0 n;
    others = λ q l n. get_or-set_other t at (receivers_cell q) _ 0 (λ e. absurd (omega arith));
    own = get_or-set_other t at (receivers_cell k) _ 0 (λ e. absurd (omega arith)) ∙ (let y : receivers_in t k ≡ receivers_in t k + 0 = omega arith in y);
    rank = λ l. get_or-set_same t at _ 0 l;
  }

  one_more : UseDone at k true t (set ranked (receivers_cell k) (added (receivers_in t k) 1))
  one_more = let w = rank-put in record {
    long = length-set ranked (receivers_cell k) _ ∙ w.long;
    below = λ i l. get_or-set_other ranked (receivers_cell k) i _ 0 (λ e. absurd (omega arith)) ∙ w.below i l;
    above = λ i l n. get_or-set_other ranked (receivers_cell k) i _ 0 (λ e. absurd (omega arith)) ∙ w.above i l n;
    others = λ q l n. get_or-set_other ranked (receivers_cell k) (receivers_cell q) _ 0 (λ e. n (omega arith)) ∙ w.others q l n;
    own = get_or-set_same ranked (receivers_cell k) _ 0 (omega (arith, w.long)) ∙ whole_sum (receivers_in t k) 1 (omega arith);
    rank = λ l. get_or-set_other ranked (receivers_cell k) at _ 0 (λ e. absurd (omega arith)) ∙ w.rank l;
  }

  use-by : (more : Bool) → UseDone at k more t (cond more (set ranked (receivers_cell k) (added (receivers_in t k) 1)) ranked)
  use-by true = one_more
  use-by false = rank-put

  use-counted : (much : ℕ) → UseDone at k (receives_in t k much) t (use_counted at k much t)
  unfolding use_counted
  use-counted much = use-by (receives_in t k much)

-- after uses of rising items
pub record UsesDone (M at : ℕ) (us : List Use) (t next : List ℕ) : Type 0 where
  pub long : length next ≡ length t
  pub below : (i : ℕ) → i < cell_total → get_or next i 0 ≡ get_or t i 0
  pub above : (i : ℕ) → first_copy_cell 0 ≤ i → i < at → get_or next i 0 ≡ get_or t i 0
  pub receivers : (k : ℕ) → k < M → receivers_in next k ≡ receivers_in t k + cond (receives_in t k (take_of us k)) 1 0
  pub ranks : (j : ℕ) → j < length us → at + j < length t → get_or next (at + j) 0 ≡ receivers_in t (get_or us j no_use).item

module _ (M : ℕ) (few : M ≤ most_items) where
  -- one use, and the uses behind it
  uses-more : (from at : ℕ) (u : Use) (us : List Use) (t s next : List ℕ) → Rises M from u us → counted_total ≤ at
      → UseDone at u.item (receives_in t u.item u.take) t s → UsesDone M (at + 1) us s next → UsesDone M at (u ∷ us) t next
  uses-more from at u us t s next r far o w = record {
    long = w.long ∙ o.long;
    below = λ i l. w.below i l ∙ o.below i l;
    above = λ i l n. w.above i l (omega arith) ∙ o.above i l (λ z. absurd (omega arith));
    receivers = λ k l. w.receivers k l ∙ (ap (λ b. receivers_in s k + cond b 1 0) (receives-same t s k (take_of us k) (o.below (item_cell 1 k) (omega arith))) ∙ each k l);
    ranks = ranks;
  }
    where
      each : (k : ℕ) → k < M → receivers_in s k + cond (receives_in t k (take_of us k)) 1 0 ≡ receivers_in t k + cond (receives_in t k (take_of (u ∷ us) k)) 1 0
      each k l = decide (eqb u.item k)
          (λ z. let y = eqb-true u.item k z in
          rw (z, take_below M (suc u.item) us r.rest k (omega arith), receives-none t k, ← y) (let v = o.own in omega arith))
          (λ z. let y = eqb-false u.item k z in rw (z, o.others k (omega arith) (λ q. y (sym q))))

      ranks : (j : ℕ) → j < length (u ∷ us) → at + j < length t → get_or next (at + j) 0 ≡ receivers_in t (get_or (u ∷ us) j no_use).item
      ranks zero l n = w.above (at + 0) (omega arith) (omega arith) ∙ (let y : at + 0 ≡ at = omega arith in ap (λ i. get_or s i 0) y ∙ o.rank (omega arith))
      ranks (suc j) l n =
          let x = item-rises M (suc u.item) us r.rest j (omega arith) in
          let lo = x.0 in let hi = x.1 in
          let y : at + suc j ≡ at + 1 + j = omega arith in
          ap (λ i. get_or next i 0) y ∙ (w.ranks j (omega arith) (omega (arith, o.long)) ∙ o.others (get_or us j no_use).item (omega arith) (λ z. absurd (omega arith)))

  pub uses-counted : (from at : ℕ) (us : List Use) (t : List ℕ) → uses_fine M from us ≡ true → counted_total ≤ at → counted_total ≤ length t
      → ((k : ℕ) → from ≤ k → k < M → receivers_in t k < most_word) → UsesDone M at us t (uses_counted at us t)
  unfolding uses_counted
  uses-counted from at [] t e far long small = record {
    long = refl;
    below = λ i l. refl;
    above = λ i l n. refl;
    receivers = λ k l. rw (receives-none t k) (let y : receivers_in t k ≡ receivers_in t k + 0 = omega arith in y);
    ranks = λ j l n. absurd (omega arith);
  }
  uses-counted from at (u ∷ us) t e far long small =
      let r = rises M from u us e in
      let lo = r.low in let hi = r.inside in
      let s = use_counted at u.item u.take t in
      let o = use-counted at u.item t far long (omega arith) (small u.item lo hi) u.take in
      uses-more from at u us t s (uses_counted (at + 1) us s) r far o
      (uses-counted (suc u.item) (at + 1) us s r.rest (omega arith) (omega (arith, o.long))
      (λ k a b. omega (arith, o.others k (omega arith) (λ z. absurd (omega arith)), small k (omega arith) b)))
