-- The check of a state, waits, and a whole move over the table and the state's words are the diagram's.
use Prim.Native.Nat.{ℕ, suc, ◌+◌, ◌-◌, ◌≤◌, ◌<◌}
use Rattle.std.specs.Prelude.{◌≡◌, Bool, cond, ◌&&◌, ◌||◌, List, length, set, leb}
use Rattle.std.proofs.Math.Path.{refl, sym, ap}
use Rattle.std.proofs.Common.{◌∙◌}
use Rattle.std.proofs.Math.Bool.{true, false, not}
use Rattle.std.proofs.Math.Numerals.{add-one}
use native.Mathlib.Omega.{arith}
use Rattle.std.proofs.Math.Dec.{ltb, eqb, leb-suc-suc}
use borrow.Author.Tests.{ltb-true, ltb-false, eqb-true, eq-eqb, not-true}
use Rattle.effbd.specs.Ranges.{all_below, only}
use Rattle.effbd.specs.Answers.{accepted, refused}
use Rattle.effbd.specs.Diagrams.{Diagram, Kind, function, and_open, branch, and_close, or_open, or_close, it_open, it_close, lp_open, lp_close, loop_exit, end, box_open, box_close, box_exit, number_of, same_kind, row, row_count, item_total, is_trigger, kind, is_kind}
use Rattle.effbd.specs.Counts.{Tally, copy, count_total, item_of, shared, tally}
use Rattle.effbd.specs.Frames.{role, is_opening}
use Rattle.effbd.specs.Nesting.{owner, close, branch_of, loop, in_loop, is_close, box, scenario, first_outlet, outlet}
use Rattle.effbd.specs.Layout.{places}
use Rattle.effbd.specs.States.{State, turns_at, state_of, entered_as, entered_row, ends_killer, activate, enter, branch_entries, make_idle, clear_rows, set_turns, activity_fine, row_passes, count_passes, state_passes}
use Rattle.effbd.specs.Moves.{most_word, move_of, pass_ticks, enough, all_done, if_ready, step_as, step, holds_as, wait, move, words_outcome, move_words, checked_move}
use Rattle.diagram_table.specs.Held.{Holds, HoldsCopies, HoldsRanks, HoldsUses}
use Rattle.diagram_table.proofs.HeldCells.{owner-in}
use Rattle.ranges.specs.Tests.{decide, clash, and_left, and_right, or_split, or_left, or_right, or-false-right}
use Rattle.ranges.specs.RangeLaws.{all-intro, all-elim, all-ext, all-fail, all-find, least-found}
use Rattle.agreement.specs.Basics.{kind-in, kind-past, not-kind, same-eq}
use Rattle.agreement.specs.Structure.{opens, Laws}
use Rattle.agreement.specs.NestingLaws.{laws}
use Rattle.agreement.proofs.TokenSteps.{branch-kind, branch-owner}
use Rattle.agreement.specs.AcceptedFiles.{Held}
use Rattle.agreement.specs.Sources.{item_in, item-shared, known, numbers}
use Rattle.agreement.specs.Sources.{number_of as tally_number}
use Rattle.diagram_table.specs.Cells.{counts_in, kind_in, owner_in, branch_in, close_in, some_trigger_in}
use Rattle.words.specs.Sums.{added}
use Rattle.words.proofs.PlainSums.{whole_sum}
use Rattle.diagram_moves.specs.Decisions.{activity_allowed, turns_allowed, clock_allowed, row_allowed, count_allowed, shared_allowed, state_allowed, and_done, ready_verdict, branch_verdict, close_verdict, row_verdict, function_holds, row_holds, row_free, wait_verdict, move_verdict}
use Rattle.diagram_moves.specs.Changes.{fold, row_set, tick_turn, token_passed, branches_set, branches_entered, it_open_change, loop_exit_change, box_exit_change, entered, row_change, move_change, outcome_of, table_move, checked_table_move}
use Rattle.diagram_moves.specs.Stores.{Reads, like, reads-words, words-read, set-turns}
use Rattle.diagram_moves.proofs.RowStores.{tick-fold}
use Rattle.agreement.proofs.Reach.{next-in, close-in, opened-by, and-closed}
use Rattle.diagram_moves.proofs.TokenMoves.{number_is, idle-reads, enter-by, enter-reads, pass-reads, ready-is, all-done-is, set-branches, open-branches, leave-reads}
use Rattle.diagram_moves.proofs.FunctionMoves.{Small, SmallCounts, small-counts, enough-is, function-is}

or_nil : (e : Bool) → e ≡ e || false
or_nil true = refl
or_nil false = refl

cond-and : (b h : Bool) → cond b h false ≡ b && h
cond-and true h = refl
cond-and false h = refl

yes-no : (b : Bool) → cond b true false ≡ b
yes-no true = refl
yes-no false = refl

cond-or : (b h : Bool) → cond b true h ≡ b || h
cond-or true h = refl
cond-or false h = refl

holds-shape : (a : ℕ) (e h : Bool) → cond (eqb a 1) e (cond (eqb a 2) h false) ≡ (eqb a 1 && e) || (eqb a 2 && h)
holds-shape a e h = decide (eqb a 1) (λ y. let z : a ≡ 1 = eqb-true a 1 y in rw z (or_nil e)) (λ y. rw y (cond-and (eqb a 2) h))

-- only a FUNCTION runs
runs-only : (d : Diagram) (k : Kind) (of_and : Bool) → activity_fine d k of_and 2 ≡ true → k ≡ function
runs-only d function of_and h = refl
runs-only d and_open of_and h = clash h refl
runs-only d branch true h = clash h refl
runs-only d branch false h = clash h refl
runs-only d and_close of_and h = clash h refl
runs-only d or_open of_and h = clash h refl
runs-only d or_close of_and h = clash h refl
runs-only d it_open of_and h = clash h refl
runs-only d it_close of_and h = clash h refl
runs-only d lp_open of_and h = clash h refl
runs-only d lp_close of_and h = clash h refl
runs-only d loop_exit of_and h = clash h refl
runs-only d end of_and h = clash h refl
runs-only d box_open of_and h = clash h refl
runs-only d box_close of_and h = clash h refl
runs-only d box_exit of_and h = clash h refl

-- only a BRANCH of an AND is done
done-only : (d : Diagram) (k : Kind) (of_and : Bool) → activity_fine d k of_and 3 ≡ true → (k ≡ branch) × (of_and ≡ true)
done-only d function of_and h = clash h refl
done-only d and_open of_and h = clash h refl
done-only d branch true h = (refl, refl)
done-only d branch false h = clash h refl
done-only d and_close of_and h = clash h refl
done-only d or_open of_and h = clash h refl
done-only d or_close of_and h = clash h refl
done-only d it_open of_and h = clash h refl
done-only d it_close of_and h = clash h refl
done-only d lp_open of_and h = clash h refl
done-only d lp_close of_and h = clash h refl
done-only d loop_exit of_and h = clash h refl
done-only d end of_and h = clash h refl
done-only d box_open of_and h = clash h refl
done-only d box_close of_and h = clash h refl
done-only d box_exit of_and h = clash h refl

-- where all BRANCH rows of o are done, each is
done_at : (d : Diagram) (o : ℕ) (s : State) (b : ℕ) → branch_of d o b ≡ true → b < row_count d → all_done d o s ≡ true → eqb (s.activity b) 3 ≡ true
done_at d o s b y c f = ap (λ (x : Bool). not x || eqb (s.activity b) 3) (sym y) ∙ all-elim (row_count d) (λ b. not (branch_of d o b) || eqb (s.activity b) 3) f b c

-- no outlet's BRANCH stands before the first one's
first-low : (d : Diagram) (o b : ℕ) → b < row_count d → branch_of d o b ≡ true → first_outlet d o ≤ b
unfolding first_outlet
first-low d o b c y = (least-found (row_count d) (branch_of d o) b c y).1

activity-shape : (d : Diagram) (k : Kind) (of_and : Bool) (a : ℕ)
    → cond (eqb (number_of k) 16) (leb a 2) (cond (eqb (number_of k) 18) (cond (eqb a 0) true (cond of_and (eqb a 3) false)) (cond (eqb (number_of k) 19) (eqb a 0) (leb a 1))) ≡ activity_fine d k of_and a
activity-shape d function of_and a = refl
activity-shape d and_open of_and a = refl
activity-shape d branch true a = cond-or (eqb a 0) (eqb a 3)
activity-shape d branch false a = yes-no (eqb a 0)
activity-shape d and_close of_and a = refl
activity-shape d or_open of_and a = refl
activity-shape d or_close of_and a = refl
activity-shape d it_open of_and a = refl
activity-shape d it_close of_and a = refl
activity-shape d lp_open of_and a = refl
activity-shape d lp_close of_and a = refl
activity-shape d loop_exit of_and a = refl
activity-shape d end of_and a = refl
activity-shape d box_open of_and a = refl
activity-shape d box_close of_and a = refl
activity-shape d box_exit of_and a = refl

module _ (d : Diagram) (table : List ℕ) (h : Holds d (row_count d) (item_total d) table) (l : List ℕ) (s : State) (e : Reads d l s) where
  -- what a clock may be, where the activity passes: an EXIT, whose second cell is no β, never runs
  clock-allowed : (q : ℕ) → q < row_count d → (a n : ℕ) → activity_fine d (kind d q) (is_kind d and_open (owner d q)) a ≡ true
      → clock_allowed table q a n ≡ cond (eqb a 2) (leb n (row d q).second) (eqb n 0)
  unfolding clock_allowed
  clock-allowed q b a n f = decide (eqb a 2)
      (λ y. let z : a ≡ 2 = eqb-true a 2 y in let k = runs-only d (kind d q) (is_kind d and_open (owner d q)) (rw z at f) in rw (h.records.seconds q b (rw k)))
      (λ y. rw y)

  row-allowed : (q : ℕ) → q < row_count d → row_allowed table l q ≡ row_passes d s q
  unfolding row_allowed activity_allowed turns_allowed
  row-allowed q b = rw (
    e.activity q b,
    e.turns q b,
    e.clock q b,
    h.owners q b,
    h.records.kinds q b,
    h.records.kinds (owner d q) (owner-in d (row_count d) (item_total d) table h q b),
    h.records.firsts q b,
    activity-shape d (kind d q) (is_kind d and_open (owner d q)) (s.activity q),
  ) (decide (activity_fine d (kind d q) (is_kind d and_open (owner d q)) (s.activity q)) (λ y. rw (y, clock-allowed q b (s.activity q) (s.clock q) y)) (λ y. rw y))

  -- a trigger's shared count is 0; any other count passes
  shared-allowed : (k : ℕ) → k < item_total d → count_allowed table (row_count d) l k ≡ count_passes d (shared k) (s.count k)
  unfolding count_allowed
  shared-allowed k b = rw (h.records.triggers k b, e.count k (item_in d k b)) (decide (is_trigger d k) (λ y. rw y) (λ y. rw y))

  counts : ℕ → Bool
  counts c = count_passes d (tally d c) (s.count c)

  plain_passes : (t : Tally) (n : ℕ) → is_trigger d (item_of t) ≡ false → count_passes d t n ≡ true
  plain_passes (shared k) n y = rw y
  plain_passes (copy k q) n y = refl

  count-passes : (c : ℕ) (t : Tally) → tally_number d t ≡ c → item_of t < item_total d → all_below (item_total d) (count_allowed table (row_count d) l) ≡ true → count_passes d t (s.count c) ≡ true
  count-passes c (shared k) n b y = rw (← n) (sym (shared-allowed k b) ∙ all-elim (item_total d) (count_allowed table (row_count d) l) y k b)
  count-passes c (copy k q) n b y = refl

  counts-allowed : shared_allowed table (row_count d) (item_total d) l ≡ all_below (count_total d) counts
  unfolding shared_allowed counts
  counts-allowed = decide (eqb (some_trigger_in table) 0)
      (λ y. rw y (sym (all-intro (count_total d) counts (λ c b. plain_passes (tally d c) (s.count c) (h.records.no_trigger (eqb-true (some_trigger_in table) 0 y) (item_of (tally d c)) (known d c b))))))
      (λ y. rw y (decide (all_below (item_total d) (count_allowed table (row_count d) l))
      (λ z. z ∙ sym (all-intro (count_total d) counts (λ c b. count-passes c (tally d c) (numbers d c b) (known d c b) z)))
      (λ z. let w = all-find (item_total d) (count_allowed table (row_count d) l) z in
      z ∙ sym (all-fail (count_total d) counts w.0 (item_in d w.0 w.1) (rw (item-shared d w.0 w.1) (sym (shared-allowed w.0 w.1) ∙ w.2))))))

  pub passes-is : (all_below (row_count d) (row_allowed table l) && shared_allowed table (row_count d) (item_total d) l) ≡ state_passes d s
  unfolding counts
  passes-is = rw (all-ext (row_count d) (row_allowed table l) (row_passes d s) row-allowed, counts-allowed)

module _ (d : Diagram) (H : Held d) (table : List ℕ) (h : Holds d (row_count d) (item_total d) table) (own : HoldsCopies d table) (ranks : HoldsRanks d table)
    (file : List ℕ) (u : HoldsUses file d table) (l : List ℕ) (s : State) (e : Reads d l s) where
  -- an AND close is the close of its owner
  closing : (r : ℕ) → kind d r ≡ and_close → is_close d r ≡ true
  closing r k = rw k

  module _ (n : ℕ) where
    holds : ℕ → Bool
    holds q = row_holds table (row_count d) (item_total d) file l n q

    -- what holds a wait at a row, but for an AND close that could step
    plainly : Kind → ℕ → Bool
    plainly k q = cond (same_kind k and_close) (eqb (s.activity q) 1) (holds_as d k q n s)

    row-holds-as : (k : Kind) (q : ℕ) → q < row_count d → kind d q ≡ k → eqb (s.activity q) 3 ≡ false → holds q ≡ plainly k q
    unfolding holds plainly row_holds function_holds
    row-holds-as function q b k z = rw (number_is d H.acc table h q function b k, e.activity q b, e.clock q b, h.records.seconds q b (rw k), enough-is d H table h own ranks file u l s e q b k)
        (holds-shape (s.activity q) (enough d q s) (ltb (row d q).second (s.clock q + n)))
    row-holds-as and_open q b k z = rw (number_is d H.acc table h q and_open b k, e.activity q b, z) (yes-no (eqb (s.activity q) 1))
    row-holds-as branch q b k z = rw (number_is d H.acc table h q branch b k, e.activity q b, z) (yes-no (eqb (s.activity q) 1))
    row-holds-as and_close q b k z = rw (number_is d H.acc table h q and_close b k, e.activity q b, z) (yes-no (eqb (s.activity q) 1))
    row-holds-as or_open q b k z = rw (number_is d H.acc table h q or_open b k, e.activity q b, z) (yes-no (eqb (s.activity q) 1))
    row-holds-as or_close q b k z = rw (number_is d H.acc table h q or_close b k, e.activity q b, z) (yes-no (eqb (s.activity q) 1))
    row-holds-as it_open q b k z = rw (number_is d H.acc table h q it_open b k, e.activity q b, z) (yes-no (eqb (s.activity q) 1))
    row-holds-as it_close q b k z = rw (number_is d H.acc table h q it_close b k, e.activity q b, z) (yes-no (eqb (s.activity q) 1))
    row-holds-as lp_open q b k z = rw (number_is d H.acc table h q lp_open b k, e.activity q b, z) (yes-no (eqb (s.activity q) 1))
    row-holds-as lp_close q b k z = rw (number_is d H.acc table h q lp_close b k, e.activity q b, z) (yes-no (eqb (s.activity q) 1))
    row-holds-as loop_exit q b k z = rw (number_is d H.acc table h q loop_exit b k, e.activity q b, z) (yes-no (eqb (s.activity q) 1))
    row-holds-as end q b k z = rw (number_is d H.acc table h q end b k)
    row-holds-as box_open q b k z = rw (number_is d H.acc table h q box_open b k, e.activity q b, z) (yes-no (eqb (s.activity q) 1))
    row-holds-as box_close q b k z = rw (number_is d H.acc table h q box_close b k, e.activity q b, z) (yes-no (eqb (s.activity q) 1))
    row-holds-as box_exit q b k z = rw (number_is d H.acc table h q box_exit b k, e.activity q b, z) (yes-no (eqb (s.activity q) 1))

    -- a BRANCH row of an AND that is done
    row-holds-done : (q : ℕ) → q < row_count d → kind d q ≡ branch → kind d (owner d q) ≡ and_open → s.activity q ≡ 3
        → holds q ≡ (eqb (owner d q + 1) q && all_done d (owner d q) s)
    unfolding holds row_holds and_done
    row-holds-done q b k o a =
        let own : owner d q < row_count d = owner-in d (row_count d) (item_total d) table h q b in
        let opening : opens d (owner d q) ≡ true = rw o in
        let shut = (laws d H.acc).shut (owner d q) opening in
        let last = close-in d H.acc (owner d q) opening in
        rw (
          number_is d H.acc table h q branch b k,
          e.activity q b,
          a,
          h.owners q b,
          h.closes (owner d q) own,
          all-done-is d H.acc table h (owner d q) o l s e (close d (owner d q)) shut.0 shut.1 (omega arith),
        )

    unheld : Bool
    unheld = all_below (row_count d) (λ q. not (holds_as d (kind d q) q n s))

    free : Bool
    free = all_below (row_count d) (row_free table (row_count d) (item_total d) file l n)

    -- a row that holds, where none does
    not_free : {C : Type 0} → free ≡ true → (q : ℕ) → q < row_count d → holds q ≡ true → C
    unfolding free row_free holds
    not_free f q b y = clash y (not-true (row_holds table (row_count d) (item_total d) file l n q) (all-elim (row_count d) (row_free table (row_count d) (item_total d) file l n) f q b))

    not-unheld : {C : Type 0} → unheld ≡ true → (q : ℕ) → q < row_count d → (k : Kind) → kind d q ≡ k → holds_as d k q n s ≡ true → C
    unfolding unheld
    not-unheld f q b k i y = clash (ap (λ (j : Kind). holds_as d j q n s) i ∙ y) (not-true (holds_as d (kind d q) q n s) (all-elim (row_count d) (λ q. not (holds_as d (kind d q) q n s)) f q b))

    module _ (passes : state_passes d s ≡ true) where
      fine : (q : ℕ) → q < row_count d → activity_fine d (kind d q) (is_kind d and_open (owner d q)) (s.activity q) ≡ true
      fine q b = and_left _ _ (all-elim (row_count d) (row_passes d s) (and_left (all_below (row_count d) (row_passes d s)) _ passes) q b)

      -- a done row is a BRANCH of an AND
      done-branch : (q : ℕ) → q < row_count d → s.activity q ≡ 3 → (kind d q ≡ branch) × (kind d (owner d q) ≡ and_open)
      done-branch q b a = let z = done-only d (kind d q) (is_kind d and_open (owner d q)) (rw (← a) (fine q b)) in (z.0, same-eq (kind d (owner d q)) and_open z.1)

      -- an AND close that could step is seen at the first BRANCH row
      close-seen : (q : ℕ) → q < row_count d → kind d q ≡ and_close → all_done d (owner d q) s ≡ true → free ≡ false
      close-seen q b k y =
          let law = laws d H.acc in
          let o = owner d q in
          let and : kind d o ≡ and_open = law.mine q k in
          let first : branch_of d o (suc o) ≡ true = law.first o and in
          let is_branch : kind d (suc o) ≡ branch = branch-kind d o (suc o) first in
          let own : owner d (suc o) ≡ o = branch-owner d o (suc o) first in
          let c : suc o < row_count d = next-in d H.acc o (not-kind d o and end refl) in
          let a : s.activity (suc o) ≡ 3 = eqb-true (s.activity (suc o)) 3 (done_at d o s (suc o) first c y) in
          decide free (λ f. not_free f (suc o) c (row-holds-done (suc o) c is_branch (rw own and) a ∙ rw (own, add-one o, eq-eqb (suc o) (suc o) refl) y)) (λ f. f)

      -- where no row of the table holds, none of the diagram does
      seen : {C : Type 0} → free ≡ true → (q : ℕ) → q < row_count d → (k : Kind) → kind d q ≡ k → holds_as d k q n s ≡ true → C
      unfolding plainly
      seen f q b k i y = decide (eqb (s.activity q) 3)
          (λ z. let a = eqb-true (s.activity q) 3 z in
          clash (ap (λ (j : Kind). holds_as d j q n s) (sym (done-branch q b a).0 ∙ i) ∙ y) (ap (λ (x : ℕ). eqb x 1) a))
          (λ z. decide (same_kind k and_close)
          (λ w. let j : k ≡ and_close = same-eq k and_close w in
          or_split (eqb (s.activity q) 1) (all_done d (owner d q) s) (ap (λ (j : Kind). holds_as d j q n s) (sym j) ∙ y)
          (λ v. not_free f q b (row-holds-as k q b i z ∙ rw w v)) (λ t v. clash f (close-seen q b (i ∙ j) v)))
          (λ w. not_free f q b (row-holds-as k q b i z ∙ rw w y)))

      all-unheld : free ≡ true → unheld ≡ true
      unfolding unheld
      all-unheld f = all-intro (row_count d) (λ q. not (holds_as d (kind d q) q n s))
          (λ q b. decide (holds_as d (kind d q) q n s) (λ y. seen f q b (kind d q) refl y) (λ y. rw y))

      -- and the other way round
      plain-told : {C : Type 0} → unheld ≡ true → (q : ℕ) → q < row_count d → (k : Kind) → kind d q ≡ k → plainly k q ≡ true → C
      unfolding plainly
      plain-told g q b k i y = decide (same_kind k and_close)
          (λ w. not-unheld g q b and_close (i ∙ same-eq k and_close w) (or_left (all_done d (owner d q) s) (rw w at y)))
          (λ w. not-unheld g q b k i (rw w at y))

      told : {C : Type 0} → unheld ≡ true → (q : ℕ) → q < row_count d → holds q ≡ true → C
      told g q b y = decide (eqb (s.activity q) 3)
          (λ z. let a = eqb-true (s.activity q) 3 z in
          let i = done-branch q b a in
          let opening : opens d (owner d q) ≡ true = rw i.1 in
          let shut = (laws d H.acc).shut (owner d q) opening in
          let last = close-in d H.acc (owner d q) opening in
          let all = and_right (eqb (owner d q + 1) q) (all_done d (owner d q) s) (sym (row-holds-done q b i.0 i.1 a) ∙ y) in
          not-unheld g (close d (owner d q)) (omega arith) and_close (and-closed d H.acc (owner d q) i.1) (or_right (eqb (s.activity (close d (owner d q))) 1) (rw shut.1 all)))
          (λ z. plain-told g q b (kind d q) refl (sym (row-holds-as (kind d q) q b refl z) ∙ y))

      all-free : unheld ≡ true → free ≡ true
      unfolding free row_free holds
      all-free g = all-intro (row_count d) (row_free table (row_count d) (item_total d) file l n) (λ q b. decide (holds q) (λ y. told g q b y) (λ y. ap not y))

      free-is : free ≡ unheld
      free-is = decide free (λ f. f ∙ sym (all-unheld f)) (λ f. decide unheld (λ g. clash (all-free g) f) (λ g. f ∙ sym g))

      -- no clock of a wait that is not held passes 16 bits
      in-time : unheld ≡ true → (q : ℕ) → q < row_count d → s.activity q ≡ 2 → s.clock q + n ≤ most_word
      unfolding unheld
      in-time f q b a =
          let k : kind d q ≡ function = runs-only d (kind d q) (is_kind d and_open (owner d q)) (rw (← a) (fine q b)) in
          let g : holds_as d function q n s ≡ false = ap (λ (j : Kind). holds_as d j q n s) (sym k) ∙ not-true (holds_as d (kind d q) q n s) (all-elim (row_count d) (λ q. not (holds_as d (kind d q) q n s)) f q b) in
          let i : (eqb (s.activity q) 2 && ltb (row d q).second (s.clock q + n)) ≡ false = or-false-right (eqb (s.activity q) 1 && enough d q s) _ g in
          let j : ltb (row d q).second (s.clock q + n) ≡ false = ap (λ (x : Bool). x && ltb (row d q).second (s.clock q + n)) (sym (eq-eqb (s.activity q) 2 a)) ∙ i in
          let z = ltb-false (row d q).second (s.clock q + n) j in omega (arith, (H.each q).second)

      ticked : unheld ≡ true → Reads d (fold (row_count d) (tick_turn n) l) (pass_ticks n s)
      unfolding tick_turn
      ticked f = like d (tick-fold d (λ x. added x n) l s e (tick_turn n) (λ b m c. refl))
          (record {
            activity = λ q c. refl;
            turns = λ q c. refl;
            count = λ k c. refl;
            clock = λ q c. decide (eqb (s.activity q) 2) (λ y. rw y (whole_sum (s.clock q) n (in-time f q c (eqb-true (s.activity q) 2 y)))) (λ y. rw y);
          })

      pub wait-is : outcome_of (wait_verdict table (row_count d) (item_total d) file l n) (fold (row_count d) (tick_turn n) l) ≡ words_outcome d (wait d n s)
      unfolding wait_verdict words_outcome unheld free
      wait-is = rw free-is (decide (eqb n 0) (λ y. rw y) (λ y. rw y (decide unheld
          (λ z. rw z (ap accepted (reads-words d (fold (row_count d) (tick_turn n) l) (pass_ticks n s) (ticked z)))) (λ z. rw z))))

  -- a step of row r, by its kind
  module _ (small : SmallCounts s) (r : ℕ) (b : r < row_count d) where
    law : Laws d
    law = laws d H.acc

    number : (k : Kind) → kind d r ≡ k → kind_in table r ≡ number_of k
    number k f = number_is d H.acc table h r k b f

    next : (k : Kind) → kind d r ≡ k → same_kind k end ≡ false → suc r < row_count d
    next k f n = next-in d H.acc r (not-kind d r f end n)

    -- an open row opens a construct, whose close is not the last row
    opening : (q : ℕ) (k : Kind) → kind d q ≡ k → is_opening (role k) ≡ true → opens d q ≡ true
    opening q k f o = ap (λ (j : Kind). is_opening (role j)) f ∙ o

    past : (q : ℕ) → opens d q ≡ true → suc (close d q) < row_count d
    past q o = close-in d H.acc q o

    -- LP open, OR close, open and close of a box: the token goes on to the next row
    on : (k : Kind) → kind d r ≡ k → same_kind k end ≡ false → outcome_of (ready_verdict l r r) (token_passed table r (r + 1) l) ≡ words_outcome d (if_ready d r r s (enter d (suc r) (make_idle (only r) s)))
    on k f n = rw (add-one r) (ready-is d H.acc table h l _ s (enter d (suc r) (make_idle (only r) s)) r r b e
        (pass-reads d H.acc table h l s r (suc r) b (next k f n) e))

    -- IT close, LP close: "their open becomes ready", which is entering it: it ends no branch
    back : (k : Kind) → kind d (owner d r) ≡ k → entered_as d k (is_kind d and_open (owner d (owner d r))) (owner d r) ≡ owner d r → (same_kind k branch || same_kind k and_close) ≡ false
        → outcome_of (ready_verdict l r r) (token_passed table r (owner_in table r) l) ≡ words_outcome d (if_ready d r r s (activate d (only (owner d r)) (make_idle (only r) s)))
    back k f same n = rw (h.owners r b) (ready-is d H.acc table h l _ s (enter d (owner d r) (make_idle (only r) s)) r r b e
        (pass-reads d H.acc table h l s r (owner d r) b (owner-in d (row_count d) (item_total d) table h r b) e)
        ∙ ap (λ (t : State). words_outcome d (if_ready d r r s t)) (enter-by d (owner d r) (make_idle (only r) s) quiet ∙ ap (λ (q : ℕ). activate d (only q) (make_idle (only r) s)) itself))
      where
        itself : entered_row d (owner d r) ≡ owner d r
        itself = unfold entered_row in ap (λ (j : Kind). entered_as d j (is_kind d and_open (owner d (owner d r))) (owner d r)) f ∙ same

        quiet : ends_killer d (owner d r) ≡ false
        quiet = unfold ends_killer in rw (f, n)

    and-open-is : kind d r ≡ and_open → outcome_of (ready_verdict l r r) (branches_entered table (branch_in table (close_in table r)) (row_set r 0 l)) ≡ words_outcome d (step_as d and_open r s)
    and-open-is f =
        rw (h.closes r b) (ready-is d H.acc table h l _ s (activate d (branch_entries d r) (make_idle (only r) s)) r r b e
        (open-branches d H.acc table h r f (row_set r 0 l) (make_idle (only r) s) (idle-reads d H.acc table h l s r b e)))

    branch-step-is : kind d r ≡ branch → outcome_of (branch_verdict table l r) (token_passed table (owner_in table r) (r + 1) l) ≡ words_outcome d (step_as d branch r s)
    unfolding branch_verdict words_outcome
    branch-step-is f = let o = owner-in d (row_count d) (item_total d) table h r b in
        rw (h.owners r b, h.records.kinds (owner d r) o, add-one r) (decide (is_kind d or_open (owner d r))
        (λ y. rw y (ready-is d H.acc table h l _ s (enter d (suc r) (make_idle (only (owner d r)) s)) (owner d r) r o e
        (pass-reads d H.acc table h l s (owner d r) (suc r) o (next branch f refl) e)))
        (λ y. rw y))

    and-close-is : kind d r ≡ and_close → outcome_of (close_verdict table l r) (entered table (r + 1) (branches_set table 0 (branch_in table r) l)) ≡ words_outcome d (step_as d and_close r s)
    unfolding close_verdict words_outcome
    and-close-is f = rw (all-done-is d H.acc table h (owner d r) (law.mine r f) l s e r (closing r f) refl b, add-one r) (decide (all_done d (owner d r) s)
        (λ y. rw y (ap accepted (reads-words d _ (enter d (suc r) (make_idle (branch_of d (owner d r)) s))
        (enter-reads d H.acc table h _ (make_idle (branch_of d (owner d r)) s) (suc r) (next and_close f refl)
        (set-branches d H.acc table h (owner d r) (law.mine r f) r (closing r f) refl b 0 l s e)))))
        (λ y. rw y))

    it-open-is : kind d r ≡ it_open → outcome_of (ready_verdict l r r) (it_open_change table r l) ≡ words_outcome d (step_as d it_open r s)
    unfolding it_open_change
    it-open-is f = let p = past r (opening r it_open f refl) in
        rw (e.turns r b, h.records.firsts r b, h.closes r b, add-one r, add-one (close d r), add-one (s.turns r)) (decide (ltb (s.turns r) (row d r).first)
        (λ y. rw y (turned (suc (s.turns r)) (suc r) (next it_open f refl)))
        (λ y. rw y (turned 0 (suc (close d r)) p)))
      where
        turned : (n q : ℕ) → q < row_count d → outcome_of (ready_verdict l r r) (token_passed table r q (set l (turns_at r) n)) ≡ words_outcome d (if_ready d r r s (enter d q (set_turns r n (make_idle (only r) s))))
        turned n q c = ready-is d H.acc table h l _ s (enter d q (set_turns r n (make_idle (only r) s))) r r b e
            (pass-reads d H.acc table h (set l (turns_at r) n) (set_turns r n s) r q b c (set-turns d n l s r b e))

    loop-exit-is : kind d r ≡ loop_exit → outcome_of (ready_verdict l r r) (loop_exit_change table r l) ≡ words_outcome d (step_as d loop_exit r s)
    unfolding loop_exit_change
    loop-exit-is f =
        let k = (law.looped r f).0 in let p = past (loop d r) (opening (loop d r) lp_open k refl) in
        let i = kind-in d (loop d r) (not-kind d (loop d r) k end refl) in
        rw (h.loops r b (rw f), h.closes (loop d r) i, add-one (close d (loop d r)))
        (ready-is d H.acc table h l _ s (enter d (suc (close d (loop d r))) (clear_rows (in_loop d r) s)) r r b e
        (leave-reads d H.acc table h l s (loop d r) (close d (loop d r)) (suc (close d (loop d r))) (in_loop d r)
        (λ x. rw (leb-suc-suc x (close d (loop d r)))) (omega arith) p e))

    box-exit-is : kind d r ≡ box_exit → outcome_of (ready_verdict l r r) (box_exit_change table r l) ≡ words_outcome d (step_as d box_exit r s)
    unfolding box_exit_change
    box-exit-is f =
        let o = (law.led r f).1 in
        let is_branch = branch-kind d (box d r) (outlet d r) o in
        let i = kind-in d (outlet d r) (not-kind d (outlet d r) is_branch end refl) in
        let late : r < first_outlet d (box d r) = ltb-true r (first_outlet d (box d r)) (and_right (leb (box d r) r) _ (law.boxed r f)) in
        let low = first-low d (box d r) (outlet d r) i o in
        let whole : suc (first_outlet d (box d r) - 1) ≡ first_outlet d (box d r) = omega arith in
        let inside = next-in d H.acc (outlet d r) (not-kind d (outlet d r) is_branch end refl) in
        rw (h.outlets r b (rw f), h.scenario_lasts r b (rw f), h.owners (outlet d r) i, branch-owner d (box d r) (outlet d r) o, ← add-one (outlet d r))
        (ready-is d H.acc table h l _ s (enter d (outlet d r + 1) (clear_rows (scenario d (box d r)) s)) r r b e
        (leave-reads d H.acc table h l s (box d r) (first_outlet d (box d r) - 1) (outlet d r + 1) (scenario d (box d r))
        (λ x. rw whole) (omega arith) (omega arith) e))

    row_as : (k : Kind) → kind d r ≡ k → outcome_of (row_verdict table (row_count d) (item_total d) file l r) (row_change table (row_count d) file r l) ≡ words_outcome d (step_as d k r s)
    unfolding row_verdict row_change words_outcome
    row_as function f = rw (number function f) (function-is d H table h own ranks file u l s e r b f small (next function f refl))
    row_as and_open f = rw (number and_open f) (and-open-is f)
    row_as branch f = rw (number branch f) (branch-step-is f)
    row_as and_close f = rw (number and_close f) (and-close-is f)
    row_as or_open f = rw (number or_open f)
    row_as or_close f = rw (number or_close f) (on or_close f refl)
    row_as it_open f = rw (number it_open f) (it-open-is f)
    row_as it_close f = rw (number it_close f) (back it_open (opened-by d H.acc it_close it_open r f refl refl) refl refl)
    row_as lp_open f = rw (number lp_open f) (on lp_open f refl)
    row_as lp_close f = rw (number lp_close f) (back lp_open (opened-by d H.acc lp_close lp_open r f refl refl) refl refl)
    row_as loop_exit f = rw (number loop_exit f) (loop-exit-is f)
    row_as end f = rw (number end f)
    row_as box_open f = rw (number box_open f) (on box_open f refl)
    row_as box_close f = rw (number box_close f) (on box_close f refl)
    row_as box_exit f = rw (number box_exit f) (box-exit-is f)

  -- a number that no row has
  beyond : (x : ℕ) → row_count d ≤ x → refused 22 x ≡ words_outcome d (step d x s)
  unfolding words_outcome
  beyond x c = ap (λ (k : Kind). words_outcome d (step_as d k x s)) (sym (kind-past d x c))

  code_is : SmallCounts s → state_passes d s ≡ true → (code x : ℕ)
      → table_move table (row_count d) (item_total d) file l code x ≡ words_outcome d (move d (move_of code x) s)
  unfolding table_move move_verdict move_change move_of words_outcome
  code_is small p code x = decide (eqb code 1)
      (λ y. rw y (decide (ltb x (row_count d))
      (λ z. rw z (row_as small x (ltb-true x (row_count d) z) (kind d x) refl))
      (λ z. rw z (beyond x (ltb-false x (row_count d) z)))))
      (λ y. rw y (decide (eqb code 2) (λ z. rw z (wait-is x p)) (λ z. rw z)))

module _ (d : Diagram) (rows items : ℕ) (table l : List ℕ) (h : Holds d rows items table) where
  -- the table's own numbers of rows and items are the diagram's
  same_numbers : {A : Type 0} (F : ℕ → ℕ → A) (o : A) → (Holds d (row_count d) (item_total d) table → F (row_count d) (item_total d) ≡ o) → F rows items ≡ o
  same_numbers F o f = rw (h.records.rows_are, h.records.items_are) (f (rw (h.records.rows_are, h.records.items_are) at h))

  -- THEOREM: the check over the table, of a state with as many counts as the diagram has, is the check of the state, 20
  pub allowed-is : (counts : ℕ) → counts ≡ count_total d → state_allowed table rows items counts l ≡ (eqb (length l) (places d) && state_passes d (state_of d l))
  unfolding state_allowed
  allowed-is counts c = same_numbers (λ n m. state_allowed table n m counts l) (eqb (length l) (places d) && state_passes d (state_of d l)) (λ g. rw c (decide (eqb (length l) (places d))
      (λ y. rw (y, passes-is d table g l (state_of d l) (words-read d l (eqb-true (length l) (places d) y))))
      (λ y. rw y)))

module _ (file : List ℕ) (d : Diagram) (rows items : ℕ) (table l : List ℕ) (H : Held d) (h : Holds d rows items table) (own : HoldsCopies d table) (ranks : HoldsRanks d table)
    (u : HoldsUses file d table) (small : Small l) (code x : ℕ) where
  -- THEOREM: on a state that passes 20 the verdict and the stores are the move of the diagram that the table holds
  pub made-is : length l ≡ places d → state_passes d (state_of d l) ≡ true → table_move table rows items file l code x ≡ move_words d (move_of code x) l
  unfolding move_words
  made-is long passes = same_numbers d rows items table l h (λ n m. table_move table n m file l code x) (words_outcome d (move d (move_of code x) (state_of d l)))
      (λ g. code_is d H table g own ranks file u l (state_of d l) (words-read d l long) (small-counts d l small) passes code x)

  -- THEOREM: with the check of the state they are its checked move
  pub move-is : checked_table_move table rows items file l code x ≡ checked_move d (move_of code x) l
  unfolding checked_table_move checked_move
  move-is = rw (allowed-is d rows items table l h (counts_in table items) (ap (counts_in table) h.records.items_are ∙ own.total)) (decide (eqb (length l) (places d))
      (λ y. rw y (decide (state_passes d (state_of d l)) (λ z. rw z (made-is (eqb-true (length l) (places d) y) z)) (λ z. rw z)))
      (λ y. rw y))
