-- The run of a use: of its item's counts exactly those that the row takes from, or gives to. What the uses are stopped by and what they change is
-- so what document 01 says of all counts.
use Prim.Native.Nat.{ℕ, zero, suc, ◌+◌, ◌-◌, ◌≤◌, ◌<◌}
use Rattle.std.specs.Prelude.{◌≡◌, ◌≢◌, Bool, ◌&&◌, ◌||◌, leb, ltb}
use Rattle.std.proofs.Math.Path.{refl, sym, ap, subst}
use Rattle.std.proofs.Common.{◌∙◌}
use Rattle.std.proofs.Math.Bool.{true, false, not, cond}
use mathlib.Core.List.{List, [], ◌∷◌}
use Rattle.std.proofs.Math.Nat.{add-zero}
use native.Mathlib.Omega.{arith}
use Rattle.std.proofs.Math.ListN.{length, get_or}
use Rattle.std.proofs.Math.Dec.{eqb}
use borrow.Author.Tests.{ltb-true, ltb-false, lt-ltb, le-ltb, leb-true, le-leb, eqb-true, eqb-false}
use Rattle.effbd.specs.Ranges.{all_below, only}
use Rattle.effbd.specs.Diagrams.{Diagram, Use, function, is_trigger, item_total, kind, row, row_count, uses_fine}
use Rattle.effbd.specs.Counts.{copies, copies_of, count_total, gives, give_of, item_of, take_of, takes, tally}
use Rattle.effbd.specs.States.{State, set_counts}
use Rattle.effbd.specs.Moves.{lowest_item}
use Rattle.ranges.specs.Tests.{decide, clash, not-not, or_right}
use Rattle.ranges.specs.RangeLaws.{only-refl, all-elim, all-fail, all-find, all-intro, all-ext, least-ext}
use Rattle.agreement.specs.Sources.{copies-run, copy_at, gives-copy, gives-item, gives_to, item_in, item-shared, known, source, source_of, takes-from}
use Rattle.diagram_table.specs.Cells.{run_first, run_length}
use Rattle.diagram_table.specs.Held.{HoldsCopies, HoldsRanks, Tabulated, no_use}
use Rattle.diagram_table.proofs.RisingUses.{Rises, rises, item-rises}
use Rattle.diagram_moves.specs.Decisions.{amount_of, blocked_item, changed, count_allows, count_place, exceeds, run_blocked, use_blocked}
use Rattle.diagram_moves.specs.Changes.{count_turn, counts_changed, fold, use_changed}
use Rattle.diagram_moves.specs.Stores.{Reads, like, set-count}
use Rattle.diagram_moves.specs.UseAmounts.{EachUse, amount-below, amount-give, amount-of, amount-take, amount_in, each_map, each-use, first-stop, least-all}

-- the counts from number `first` on, n of them
unfoldable pub in_run : (first n c : ℕ) → Bool
in_run first n c = leb first c && ltb c (first + n)

run_in : (first n c : ℕ) → in_run first n c ≡ true → (i : ℕ) × (i < n) × (c ≡ first + i)
unfolding in_run
run_in first n c e = decide (leb first c)
    (λ y. let a = leb-true first c y in let b = ltb-true c (first + n) (rw y at e) in (c - first, omega arith, omega arith))
    (λ y. clash e (rw y))

run_out : (first n c : ℕ) → in_run first n c ≡ false → first ≤ c → c < first + n → ⊥
unfolding in_run
run_out first n c e a b = clash (rw (le-leb first c a, lt-ltb c (first + n) b)) e

run_more : (first n c : ℕ) → c ≢ first + n → in_run first n c ≡ in_run first (suc n) c
unfolding in_run
run_more first n c ne = ap (λ (x : Bool). leb first c && x) (decide (ltb c (first + n))
    (λ y. let z = ltb-true c (first + n) y in y ∙ sym (lt-ltb c (first + suc n) (omega arith)))
    (λ y. let z = ltb-false c (first + n) y in y ∙ sym (le-ltb c (first + suc n) (omega arith))))

run-last : (first n : ℕ) → (in_run first n (first + n) ≡ false) × (in_run first (suc n) (first + n) ≡ true)
unfolding in_run
run-last first n = (rw (le-leb first (first + n) (omega arith), le-ltb (first + n) (first + n) (omega arith)), rw (le-leb first (first + n) (omega arith), lt-ltb (first + n) (first + suc n) (omega arith)))

run_none : (first c : ℕ) → in_run first 0 c ≡ false
unfolding in_run
run_none first c = decide (leb first c) (λ y. let z = leb-true first c y in rw (y, add-zero first) (le-ltb c first z)) (λ y. rw y)

-- each count of a run is changed, and no other
module _ (d : Diagram) (giving : Bool) (first a : ℕ) (l : List ℕ) (s : State) (h : Reads d l s) where
  pub run-read : (n : ℕ) → ((i : ℕ) → i < n → first + i < count_total d)
      → Reads d (fold n (count_turn giving (row_count d) first a) l) (set_counts (λ c. cond (in_run first n c) (changed giving (s.count c) a) (s.count c)) s)
  unfolding count_turn
  run-read zero there = like d h (record { activity = λ q c. refl; turns = λ q c. refl; clock = λ q c. refl; count = λ c b. rw (run_none first c) })
  run-read (suc n) there =
      let m = fold n (count_turn giving (row_count d) first a) l in
      let k = run-read n (λ i b. there i (omega arith)) in
      let b = there n (omega arith) in
      let v : get_or m (count_place (row_count d) (first + n)) 0 ≡ s.count (first + n) = k.count (first + n) b ∙ rw (run-last first n).0 in
      rw v (like d (set-count d (changed giving (s.count (first + n)) a) m (set_counts (λ c. cond (in_run first n c) (changed giving (s.count c) a) (s.count c)) s) (first + n) b k)
      (record {
        activity = λ q c. refl;
        turns = λ q c. refl;
        clock = λ q c. refl;
        count = λ c x. decide (eqb c (first + n))
            (λ y. let z = eqb-true c (first + n) y in rw (y, z, (run-last first n).1))
            (λ y. rw (y, run_more first n c (eqb-false c (first + n) y)));
      }))

-- what count c is after a take or a give of a, where one is due
abbrev pub altered : (giving : Bool) (count a : ℕ) → ℕ
altered giving x a = cond (eqb a 0) x (changed giving x a)

module _ (d : Diagram) (r : ℕ) where
  -- what row r takes from count c, or gives to it
  abbrev pub amount_at : (giving : Bool) → ℕ → ℕ
  amount_at giving c = cond giving (gives d r c) (takes d r c)

  -- a run of n counts from number `first` on: a is due at each, and no other count of item k has anything due
  pub record RunOf (giving : Bool) (k first n a : ℕ) : Type 0 where
    pub there : (i : ℕ) → i < n → first + i < count_total d
    pub item : (i : ℕ) → i < n → item_of (tally d (first + i)) ≡ k
    pub much : (i : ℕ) → i < n → amount_at giving (first + i) ≡ a
    pub from : (c : ℕ) → c < count_total d → item_of (tally d c) ≡ k → amount_at giving c ≢ 0 → first ≤ c
    pub to : (c : ℕ) → c < count_total d → item_of (tally d c) ≡ k → amount_at giving c ≢ 0 → c < first + n

  -- an amount that is due is that of its item
  pub due : (giving : Bool) (c : ℕ) → c < count_total d → amount_at giving c ≢ 0 → amount_at giving c ≡ amount_in giving (row d r).uses (item_of (tally d c))
  due true c b n = (gives_to d r c b n).much ∙ sym (amount-give (row d r).uses (item_of (tally d c)))
  due false c b n = (takes-from d r c b n).much ∙ sym (amount-take (row d r).uses (item_of (tally d c)))

  pub not-due : (giving : Bool) (c : ℕ) → c < count_total d → amount_in giving (row d r).uses (item_of (tally d c)) ≡ 0 → amount_at giving c ≡ 0
  not-due giving c b e = decide (eqb (amount_at giving c) 0) (λ y. eqb-true (amount_at giving c) 0 y) (λ y. due giving c b (eqb-false (amount_at giving c) 0 y) ∙ e)

  module _ (table : List ℕ) where
    -- use j of row r: its amount is its item's, and its run is the one that the table says
    pub record UseRun (giving : Bool) (j : ℕ) (u : Use) : Type 0 where
      pub amount : amount_in giving (row d r).uses u.item ≡ amount_of giving u
      pub run : amount_of giving u ≢ 0 → RunOf giving u.item (run_first table giving r j u.item) (run_length table giving u.item) (amount_of giving u)

    -- what is due at count c by some of the uses
    abbrev due_by : (giving : Bool) → List Use → ℕ → ℕ
    due_by giving us c = cond (eqb (amount_in giving us (item_of (tally d c))) 0) 0 (amount_at giving c)

    abbrev hit : (giving : Bool) (j : ℕ) → Use → ℕ → Bool
    hit giving j u c = not (eqb (amount_of giving u) 0) && in_run (run_first table giving r j u.item) (run_length table giving u.item) c

    use-read : (giving : Bool) (j : ℕ) (u : Use) (l : List ℕ) (s : State) → UseRun giving j u → Reads d l s
        → Reads d (use_changed table giving (row_count d) r j u.item (amount_of giving u) l) (set_counts (λ c. cond (hit giving j u c) (changed giving (s.count c) (amount_of giving u)) (s.count c)) s)
    unfolding use_changed
    use-read giving j u l s w h = decide (eqb (amount_of giving u) 0)
        (λ y. rw y (like d h (record { activity = λ q c. refl; turns = λ q c. refl; clock = λ q c. refl; count = λ c b. refl })))
        (λ y. rw y (run-read d giving (run_first table giving r j u.item) (amount_of giving u) l s h (run_length table giving u.item) (w.run (eqb-false (amount_of giving u) 0 y)).there))

    -- one use: of its own item's counts those of its run, of another item's none
    use-due : (giving : Bool) (M from j : ℕ) (u : Use) (us : List Use) → Rises M from u us → UseRun giving j u → (x c : ℕ) → c < count_total d
        → altered giving (cond (hit giving j u c) (changed giving x (amount_of giving u)) x) (due_by giving us c) ≡ altered giving x (due_by giving (u ∷ us) c)
    unfolding amount_in
    use-due giving M from j u us w v x c b = decide (eqb u.item (item_of (tally d c)))
        (λ y. let k : u.item ≡ item_of (tally d c) = eqb-true u.item (item_of (tally d c)) y in
        rw (y, amount-below giving M (suc u.item) us w.rest (item_of (tally d c)) (omega arith)) (decide (eqb (amount_of giving u) 0)
        (λ z. rw z)
        (λ z. let run = v.run (eqb-false (amount_of giving u) 0 z) in rw z (decide (in_run (run_first table giving r j u.item) (run_length table giving u.item) c)
        (λ t. let i = run_in (run_first table giving r j u.item) (run_length table giving u.item) c t in
        rw (t, i.2, run.much i.0 i.1, z))
        (λ t. let n : amount_at giving c ≡ 0 = decide (eqb (amount_at giving c) 0) (λ q. eqb-true (amount_at giving c) 0 q)
        (λ q. let ne = eqb-false (amount_at giving c) 0 q in absurd (run_out (run_first table giving r j u.item) (run_length table giving u.item) c t (run.from c b (sym k) ne) (run.to c b (sym k) ne))) in
        rw (t, n))))))
        (λ y. rw (y, missed y))
      where
        missed : eqb u.item (item_of (tally d c)) ≡ false → hit giving j u c ≡ false
        missed y = decide (eqb (amount_of giving u) 0) (λ z. rw z) (λ z. rw z (decide (in_run (run_first table giving r j u.item) (run_length table giving u.item) c)
            (λ t. let i = run_in (run_first table giving r j u.item) (run_length table giving u.item) c t in
            absurd (eqb-false u.item (item_of (tally d c)) y (sym (ap (λ (x : ℕ). item_of (tally d x)) i.2 ∙ (v.run (eqb-false (amount_of giving u) 0 z)).item i.0 i.1))))
            (λ t. t)))

    counts-upto : (giving : Bool) (M : ℕ) (us : List Use) (j from : ℕ) (l : List ℕ) (s : State) → uses_fine M from us ≡ true → EachUse (UseRun giving) j us → Reads d l s
        → Reads d (counts_changed table giving (row_count d) r j us l) (set_counts (λ c. altered giving (s.count c) (due_by giving us c)) s)
    unfolding counts_changed amount_in
    counts-upto giving M [] j from l s e w h = h
    counts-upto giving M (u ∷ us) j from l s e w h =
        like d (counts-upto giving M us (j + 1) (suc u.item) (use_changed table giving (row_count d) r j u.item (amount_of giving u) l) _ (rises M from u us e).rest w.1 (use-read giving j u l s w.0 h))
        (record { activity = λ q c. refl; turns = λ q c. refl; clock = λ q c. refl; count = λ c b. use-due giving M from j u us (rises M from u us e) w.0 (s.count c) c b })

    -- the uses of the row change each count by what is due there
    pub counts-read : (giving : Bool) (M : ℕ) (l : List ℕ) (s : State) → uses_fine M 0 (row d r).uses ≡ true → EachUse (UseRun giving) 0 (row d r).uses → Reads d l s
        → Reads d (counts_changed table giving (row_count d) r 0 (row d r).uses l) (set_counts (λ c. altered giving (s.count c) (amount_at giving c)) s)
    counts-read giving M l s e w h = like d (counts-upto giving M (row d r).uses 0 0 l s e w h)
        (record {
          activity = λ q c. refl;
          turns = λ q c. refl;
          clock = λ q c. refl;
          count = λ c b. decide (eqb (amount_in giving (row d r).uses (item_of (tally d c))) 0)
              (λ y. rw (y, not-due giving c b (eqb-true (amount_in giving (row d r).uses (item_of (tally d c))) 0 y)))
              (λ y. rw y);
        })

    -- a use is stopped exactly if some count of its item is
    module _ (giving : Bool) (l : List ℕ) (s : State) (h : Reads d l s) (quiet : (c : ℕ) → c < count_total d → exceeds giving (s.count c) 0 ≡ false) where
      abbrev pub count_fits : ℕ → Bool
      count_fits c = not (exceeds giving (s.count c) (amount_at giving c))

      abbrev fits_of : (k c : ℕ) → Bool
      fits_of k c = not (only k (item_of (tally d c))) || count_fits c

      abbrev pub item_stopped : ℕ → Bool
      item_stopped k = not (all_below (count_total d) (fits_of k))

      pub unstopped : (k : ℕ) → amount_in giving (row d r).uses k ≡ 0 → item_stopped k ≡ false
      unstopped k e = ap not (all-intro (count_total d) (fits_of k) (λ c b. decide (only k (item_of (tally d c)))
          (λ y. let z : item_of (tally d c) ≡ k = eqb-true (item_of (tally d c)) k y in
          rw (y, not-due giving c b (ap (amount_in giving (row d r).uses) z ∙ e), quiet c b))
          (λ y. rw y)))

      module _ (k first n a : ℕ) (run : RunOf giving k first n a) where
        allows : (i : ℕ) → i < n → count_allows giving (row_count d) first a l i ≡ count_fits (first + i)
        unfolding count_allows
        allows i b = rw (h.count (first + i) (run.there i b), run.much i b)

        run-stopped : run_blocked giving (row_count d) first a n l ≡ item_stopped k
        unfolding run_blocked
        run-stopped = ap not (decide (all_below n (count_allows giving (row_count d) first a l))
            (λ y. y ∙ sym (all-intro (count_total d) (fits_of k) (λ c b. decide (only k (item_of (tally d c)))
            (λ z. rw z (fits y c b (eqb-true (item_of (tally d c)) k z)))
            (λ z. rw z))))
            (λ y. let w = all-find n (count_allows giving (row_count d) first a l) y in
            y ∙ sym (all-fail (count_total d) (fits_of k) (first + w.0) (run.there w.0 w.1) (rw (run.item w.0 w.1, only-refl k) (sym (allows w.0 w.1) ∙ w.2)))))
          where
            fits : all_below n (count_allows giving (row_count d) first a l) ≡ true → (c : ℕ) → c < count_total d → item_of (tally d c) ≡ k → count_fits c ≡ true
            fits y c b z = decide (eqb (amount_at giving c) 0)
                (λ q. rw (eqb-true (amount_at giving c) 0 q, quiet c b))
                (λ q. let ne = eqb-false (amount_at giving c) 0 q in let lo = run.from c b z ne in let hi = run.to c b z ne in
                let e : first + (c - first) ≡ c = omega arith in
                ap count_fits (sym e) ∙ (sym (allows (c - first) (omega arith)) ∙ all-elim n (count_allows giving (row_count d) first a l) y (c - first) (omega arith)))

      use-stopped : (j : ℕ) (u : Use) → UseRun giving j u → use_blocked table giving (row_count d) l r j u.item (amount_of giving u) ≡ item_stopped u.item
      unfolding use_blocked
      use-stopped j u w = decide (eqb (amount_of giving u) 0)
          (λ y. rw y (sym (unstopped u.item (w.amount ∙ eqb-true (amount_of giving u) 0 y))))
          (λ y. rw y (run-stopped u.item _ _ _ (w.run (eqb-false (amount_of giving u) 0 y))))

      -- the item that is named is the lowest with a count that does not fit
      pub blocked-is : uses_fine (item_total d) 0 (row d r).uses ≡ true → EachUse (UseRun giving) 0 (row d r).uses
          → blocked_item table giving (row_count d) (item_total d) l r 0 (row d r).uses ≡ lowest_item d count_fits
      unfolding lowest_item
      blocked-is e w = first-stop table giving (row_count d) (item_total d) l r item_stopped (row d r).uses 0 0 e
          (each_map (UseRun giving) _ 0 (row d r).uses use-stopped w) (λ k b z. unstopped k z)

module _ (d : Diagram) (table : List ℕ) (held : Tabulated d (row_count d) (item_total d) table) (own : HoldsCopies d table) (ranks : HoldsRanks d table)
    (r : ℕ) (r-in : r < row_count d) (f : kind d r ≡ function) where
  -- the counts that the table says for a use of item k: of an item its own, of a trigger the row's own copy or all of them
  take-first : (j : ℕ) → j < length (row d r).uses → (k : ℕ) → (get_or (row d r).uses j no_use).item ≡ k → k < item_total d → run_first table false r j k ≡ source d r k
  unfolding run_first copy_at
  take-first j b k i m = decide (is_trigger d k)
      (λ y. rw (held.triggers k m, y, own.firsts k m y)
      (ap (λ (x : ℕ). item_total d + length (copies d k) + x) (ranks.ranks r j r-in b (rw i y) ∙ ap (λ (x : ℕ). length (copies_of d x r)) i)))
      (λ y. rw (held.triggers k m, y))

  take-run : (j : ℕ) → j < length (row d r).uses → (k : ℕ) → (get_or (row d r).uses j no_use).item ≡ k → k < item_total d → take_of (row d r).uses k ≢ 0
      → RunOf d r false k (run_first table false r j k) (run_length table false k) (take_of (row d r).uses k)
  unfolding run_length
  take-run j b k i m n =
      let w = source_of d r k f r-in m n in
      rw (take-first j b k i m) (record {
        there = λ x l. subst (λ c. c < count_total d) (only_one x l) w.there;
        item = λ x l. subst (λ c. item_of (tally d c) ≡ k) (only_one x l) w.item;
        much = λ x l. subst (λ c. takes d r c ≡ take_of (row d r).uses k) (only_one x l) w.much;
        from = λ c l e ne. let z = (takes-from d r c l ne).from ∙ ap (source d r) e in omega arith;
        to = λ c l e ne. let z = (takes-from d r c l ne).from ∙ ap (source d r) e in omega arith;
      })
    where
      only_one : (x : ℕ) → x < 1 → source d r k ≡ source d r k + x
      only_one x l = omega arith

  give-run : (j k : ℕ) → k < item_total d → RunOf d r true k (run_first table true r j k) (run_length table true k) (give_of (row d r).uses k)
  unfolding run_first run_length
  give-run j k m = decide (is_trigger d k)
      (λ y. rw (held.triggers k m, y, own.firsts k m y, own.receivers k m y, add-zero (item_total d + length (copies d k))) (record {
        there = λ i l. (copies-run d k i m l).there;
        item = λ i l. ap item_of (copies-run d k i m l).is;
        much = λ i l. gives-copy d r _ k (copies-run d k i m l).row (copies-run d k i m l).is;
        from = λ c l e ne. subst (λ x. item_total d + length (copies d x) ≤ c) e ((gives_to d r c l ne).from (rw e y));
        to = λ c l e ne. subst (λ x. c < item_total d + length (copies d x) + length (copies_of d x (row_count d))) e ((gives_to d r c l ne).to (rw e y));
      }))
      (λ y. rw (held.triggers k m, y) (record {
        there = λ i l. subst (λ c. c < count_total d) (itself i l) (item_in d k m);
        item = λ i l. subst (λ c. item_of (tally d c) ≡ k) (itself i l) (ap item_of (item-shared d k m));
        much = λ i l. subst (λ c. gives d r c ≡ give_of (row d r).uses k) (itself i l) (gives-item d r k m y);
        from = λ c l e ne. let z = (gives_to d r c l ne).plain (rw e y) in omega (arith, e);
        to = λ c l e ne. let z = (gives_to d r c l ne).plain (rw e y) in omega (arith, e);
      }))
    where
      itself : (i : ℕ) → i < 1 → k ≡ k + i
      itself i l = omega arith

  -- THEOREM: the table's runs are the counts that the row takes from and gives to
  pub use-runs : (giving : Bool) → uses_fine (item_total d) 0 (row d r).uses ≡ true → EachUse (UseRun d r table giving) 0 (row d r).uses
  use-runs giving e = each-use (UseRun d r table giving) 0 (row d r).uses (λ j b. let z : j ≡ 0 + j = omega arith in subst (λ x. UseRun d r table giving x (get_or (row d r).uses j no_use)) z (at giving j b))
    where
      at : (giving : Bool) (j : ℕ) → j < length (row d r).uses → UseRun d r table giving j (get_or (row d r).uses j no_use)
      at true j b =
          let k = (get_or (row d r).uses j no_use).item in
          let a : give_of (row d r).uses k ≡ (get_or (row d r).uses j no_use).give = sym (amount-give (row d r).uses k) ∙ amount-of true (item_total d) 0 (row d r).uses e j b in
          record {
            amount = amount-of true (item_total d) 0 (row d r).uses e j b;
            run = λ n. subst (λ x. RunOf d r true k (run_first table true r j k) (run_length table true k) x) a (give-run j k (item-rises (item_total d) 0 (row d r).uses e j b).1);
          }
      at false j b =
          let k = (get_or (row d r).uses j no_use).item in
          let a : take_of (row d r).uses k ≡ (get_or (row d r).uses j no_use).take = sym (amount-take (row d r).uses k) ∙ amount-of false (item_total d) 0 (row d r).uses e j b in
          record {
            amount = amount-of false (item_total d) 0 (row d r).uses e j b;
            run = λ n. subst (λ x. RunOf d r false k (run_first table false r j k) (run_length table false k) x) a (take-run j b k refl (item-rises (item_total d) 0 (row d r).uses e j b).1 (λ z. n (sym a ∙ z)));
          }

-- some item has a count that does not pass exactly if some count does not
pub lowest-all : (d : Diagram) (passes : ℕ → Bool) → ltb (lowest_item d passes) (item_total d) ≡ not (all_below (count_total d) passes)
unfolding lowest_item
lowest-all d passes = least-all (item_total d) _ (λ k. all_below (count_total d) (λ c. not (only k (item_of (tally d c))) || passes c)) (λ k b. sym (not-not _))
    ∙ ap not (decide (all_below (count_total d) passes)
    (λ y. all-intro (item_total d) _ (λ k b. all-intro (count_total d) _ (λ c x. or_right (not (only k (item_of (tally d c)))) (all-elim (count_total d) passes y c x))) ∙ sym y)
    (λ y. let w = all-find (count_total d) passes y in
    all-fail (item_total d) _ (item_of (tally d w.0)) (known d w.0 w.1) (all-fail (count_total d) _ w.0 w.1 (rw (only-refl (item_of (tally d w.0))) w.2)) ∙ sym y))

pub lowest-same : (d : Diagram) (f g : ℕ → Bool) → ((c : ℕ) → c < count_total d → f c ≡ g c) → lowest_item d f ≡ lowest_item d g
unfolding lowest_item
lowest-same d f g h = least-ext (item_total d) _ _ (λ k b. ap not (all-ext (count_total d) _ _ (λ c x. ap (λ (y : Bool). not (only k (item_of (tally d c))) || y) (h c x))))
