-- The fresh state with its copies: every store is of the count's own initial value, and each copy is in the run of its trigger.
use Prim.Native.Nat.{ℕ, zero, suc, ◌+◌, ◌-◌, ◌*◌, ◌≤◌, ◌<◌}
use mathlib.Core.Path.{◌≡◌, sym, ◌∙◌, ap, subst}
use mathlib.Core.Bool.{true, false, cond}
use mathlib.Core.List.{List}
use native.Mathlib.Omega.{arith}
use lib.ListN.{length, get_or, take, length-take, get_or-eq_default}
use lib.Seq.{ext_get_or, get_or-take}
use lib.Dec.{ltb}
use borrow.Author.Tests.{ltb-true, ltb-false, le-ltb}
use Rattle.effbd.specs.Diagrams.{Diagram, row_count, item_total, item, is_trigger}
use Rattle.effbd.specs.Counts.{copy, copies, copies_of, count_total, tally, initial_count}
use Rattle.effbd.specs.Layout.{places, place_of}
use Rattle.effbd.specs.States.{state_words, fresh_words}
use Rattle.effbd.specs.Nets.{most_places}
use Rattle.ranges.specs.Tests.{decide}
use Rattle.ranges.specs.RangeLaws.{length-tab, get_d-tab}
use Rattle.words.specs.Stores.{copied}
use Rattle.agreement.specs.AcceptedFiles.{Held}
use Rattle.agreement.specs.Sources.{counts-are, plain-copies, no_copies, item_in, item-shared, copies-run}
use Rattle.diagram_table.specs.Cells.{trigger_in, count_in, run_first, run_length}
use Rattle.diagram_table.specs.Held.{Holds, HoldsCopies, FreshFront, FreshOf}
use Rattle.fresh_copies.specs.Runs.{run_put, runs_put, fresh_put, FreshMade}
use Rattle.copies.specs.Promised.{zeros}
use Rattle.fresh_copies.proofs.Fills.{run_long, run-other, run-own}
use Rattle.copies.proofs.CopiesNumbered.{copies-next, copies-few}
use Rattle.copies.proofs.Fronts.{copied-long, copied_at}

module _ (d : Diagram) where
  fresh-long : length (fresh_words d) ≡ places d
  unfolding fresh_words state_words
  fresh-long = length-tab (places d) _

  fresh-count : (c : ℕ) → c < count_total d → get_or (fresh_words d) (3 * row_count d + c) 0 ≡ initial_count d c
  unfolding fresh_words state_words place_of
  fresh-count c l = get_d-tab (places d) _ (3 * row_count d + c) 0 (omega arith)
      ∙ (let z : 3 * row_count d + c - 3 * row_count d ≡ c = omega arith in rw (le-ltb (3 * row_count d + c) (3 * row_count d) (omega arith), z))

  -- word i is that of the fresh state
  abbrev right : List ℕ → ℕ → Type 0
  right l i = get_or l i 0 ≡ get_or (fresh_words d) i 0

  all_right : (l : List ℕ) → places d ≤ length l → ((i : ℕ) → i < places d → right l i) → ((i : ℕ) → places d ≤ i → get_or l i 0 ≡ 0) → FreshOf d l
  all_right l long each behind = record {
    words = ext_get_or 0 (take (places d) l) (fresh_words d) (size ∙ sym fresh-long) (λ i a. let s = size in get_or-take (places d) l i 0 (omega arith) ∙ each i (omega arith));
    behind = behind;
  }
    where
      size : length (take (places d) l) ≡ places d
      size = simp length-take (omega arith)

  -- THEOREM: where there are no triggers, the words of the rows and the items are all
  pub plain-fresh : ((k : ℕ) → k < item_total d → is_trigger d k ≡ false) → (plain : List ℕ) → FreshFront d plain
      → ((i : ℕ) → 3 * row_count d + item_total d ≤ i → get_or plain i 0 ≡ 0) → FreshOf d plain
  plain-fresh none plain f behind = let e = no_copies d none in all_right plain (omega (arith, f.long)) (λ i a. f.words i (omega arith)) (λ i a. behind i (omega arith))

  -- a run that is stored where each word of it is right
  module _ (from many value : ℕ) (l : List ℕ) (inside : (j : ℕ) → j < many → from + j < places d) (is : (j : ℕ) → j < many → get_or (fresh_words d) (from + j) 0 ≡ value)
      (room : places d ≤ length l) where
    run_in : (i : ℕ) → from ≤ i → i < from + many → right (run_put from many value l) i
    run_in i a b =
        let z : from + (i - from) ≡ i = omega arith in
        subst (right (run_put from many value l)) z
        (run-own from many value l (i - from) (omega arith) (let y = inside (i - from) (omega arith) in omega arith) ∙ sym (is (i - from) (omega arith)))

    run-keeps : (i : ℕ) → right l i → right (run_put from many value l) i
    run-keeps i e = decide (ltb i from)
        (λ x. let a = ltb-true i from x in run-other from many value l i (λ j y z. absurd (omega arith)) ∙ e)
        (λ x. let a = ltb-false i from x in decide (ltb i (from + many))
        (λ y. run_in i a (ltb-true i (from + many) y))
        (λ y. let b = ltb-false i (from + many) y in run-other from many value l i (λ j y z. absurd (omega arith)) ∙ e))

    run-behind : (i : ℕ) → places d ≤ i → get_or (run_put from many value l) i 0 ≡ get_or l i 0
    run-behind i a = run-other from many value l i (λ j y z. let b = inside j y in absurd (omega arith))

  -- words that are right as far as the copies of the items below n
  record Said (n : ℕ) (l : List ℕ) : Type 0 where
    long : length l ≡ most_places
    each : (i : ℕ) → i < 3 * row_count d + item_total d + length (copies d n) → right l i
    behind : (i : ℕ) → places d ≤ i → get_or l i 0 ≡ 0

  initial-copy : (c k q : ℕ) → tally d c ≡ copy k q → initial_count d c ≡ (item d k).initial
  unfolding initial_count
  initial-copy c k q e = rw e

  initial-item : (k : ℕ) → k < item_total d → is_trigger d k ≡ false → initial_count d k ≡ (item d k).initial
  unfolding initial_count
  initial-item k l e = rw (item-shared d k l, e)

  module _ (h : Held d) (rows items : ℕ) (table : List ℕ) (b : Holds d rows items table) (c : HoldsCopies d table) where
    room : places d ≤ most_places
    room = let a = counts-are d in let e = copies-few d h in let x = h.rows in let y = h.items in omega arith

    put : (k : ℕ) (l : List ℕ) → List ℕ
    put k l = run_put (3 * row_count d + run_first table true 0 0 k) (run_length table true k) (count_in table k) l

    count-is : (k : ℕ) → k < item_total d → count_in table k ≡ (item d k).initial
    count-is k l = b.records.counts k (let e = b.records.items_are in omega arith)

    trigger-is : (k : ℕ) → k < item_total d → trigger_in table k ≡ cond (is_trigger d k) 1 0
    trigger-is k l = b.records.triggers k (let e = b.records.items_are in omega arith)

    -- the run of a plain item is its own count
    said_plain : (k : ℕ) (l : List ℕ) → k < item_total d → is_trigger d k ≡ false → Said k l → Said (suc k) (put k l)
    unfolding put run_first run_length
    said_plain k l a e w = rw (trigger-is k a, e) (record {
      long = run_long from 1 value l ∙ w.long;
      each = λ i z. run-keeps from 1 value l inside is far i (w.each i (omega (arith, copies-next d k, ap length (plain-copies d k (row_count d) e))));
      behind = λ i z. run-behind from 1 value l inside is far i z ∙ w.behind i z;
    })
      where
        from : ℕ
        from = 3 * row_count d + k

        value : ℕ
        value = count_in table k

        far : places d ≤ length l
        far = let x = room in omega (arith, w.long)

        inside : (j : ℕ) → j < 1 → from + j < places d
        inside j m = omega (arith, item_in d k a)

        is : (j : ℕ) → j < 1 → get_or (fresh_words d) (from + j) 0 ≡ value
        is j m = let z : from + j ≡ from = omega arith in ap (λ x. get_or (fresh_words d) x 0) z ∙ (fresh-count k (item_in d k a) ∙ (initial-item k a e ∙ sym (count-is k a)))

    -- that of a trigger its copies
    said-trigger : (k : ℕ) (l : List ℕ) → k < item_total d → is_trigger d k ≡ true → Said k l → Said (suc k) (put k l)
    unfolding put run_first run_length
    said-trigger k l a e w = rw (trigger-is k a, e, c.firsts k a e, c.receivers k a e) (record {
      long = run_long from many value l ∙ w.long;
      each = λ i z. decide (ltb i from)
          (λ y. run-keeps from many value l inside is far i (w.each i (let x = ltb-true i from y in omega arith)))
          (λ y. run_in from many value l inside is far i (ltb-false i from y) (omega (arith, copies-next d k)));
      behind = λ i z. run-behind from many value l inside is far i z ∙ w.behind i z;
    })
      where
        from : ℕ
        from = 3 * row_count d + (item_total d + length (copies d k) + 0)

        many : ℕ
        many = length (copies_of d k (row_count d))

        value : ℕ
        value = count_in table k

        far : places d ≤ length l
        far = let x = room in omega (arith, w.long)

        inside : (j : ℕ) → j < many → from + j < places d
        inside j m = omega (arith, (copies-run d k j a m).there)

        is : (j : ℕ) → j < many → get_or (fresh_words d) (from + j) 0 ≡ value
        is j m =
            let u = copies-run d k j a m in
            let z : from + j ≡ 3 * row_count d + (item_total d + length (copies d k) + j) = omega arith in
            ap (λ x. get_or (fresh_words d) x 0) z
            ∙ (fresh-count (item_total d + length (copies d k) + j) u.there ∙ (initial-copy (item_total d + length (copies d k) + j) k u.row u.is ∙ sym (count-is k a)))

    runs-said : (n : ℕ) (l : List ℕ) → n ≤ item_total d → Said 0 l → Said n (runs_put (row_count d) n table l)
    unfolding runs_put put
    runs-said zero l a w = w
    runs-said (suc k) l a w = let x = runs-said k l (omega arith) w in decide (is_trigger d k) (λ e. said-trigger k _ a e x) (λ e. said_plain k _ a e x)

    -- the words of the rows and the items, in front of zeros
    module _ (plain : List ℕ) (f : FreshFront d plain) where
      abbrev front : List ℕ
      front = take (3 * row_count d + item_total d) plain

      size : length front ≡ 3 * row_count d + item_total d
      size = let x = f.long in simp length-take (omega arith)

      begun : Said 0 (copied front (zeros most_places))
      unfolding copies
      begun = let s = size in let x = room in let y = counts-are d in record {
        long = copied-long front most_places (omega arith);
        each = λ i z. copied_at front most_places (omega arith) i ∙ (get_or-take (3 * row_count d + item_total d) plain i 0 (omega arith) ∙ f.words i (omega arith));
        behind = λ i z. copied_at front most_places (omega arith) i ∙ get_or-eq_default front 0 {n = i} (omega arith);
      }

      fresh-is : FreshOf d (fresh_put rows items plain table (zeros most_places))
      unfolding fresh_put
      fresh-is = rw (b.records.rows_are, b.records.items_are) (
          let w = runs-said (item_total d) (copied front (zeros most_places)) (omega arith) begun in let x = room in let y = counts-are d in
          all_right _ (omega (arith, w.long)) (λ i z. w.each i (omega arith)) w.behind)

pub fresh-made : (rows items : ℕ) (plain table none state : List ℕ) → none ≡ zeros most_places → state ≡ fresh_put rows items plain table none → FreshMade rows items plain table state
fresh-made rows items plain table none state z e = record {
  is = is;
  of = λ d h b c f. subst (FreshOf d) (sym is) (fresh-is d h rows items table b c plain f);
}
  where
    is : state ≡ fresh_put rows items plain table (zeros most_places)
    is = e ∙ ap (fresh_put rows items plain table) z
