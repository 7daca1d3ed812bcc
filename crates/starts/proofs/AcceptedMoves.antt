-- What an accepted move over the table says of a FUNCTION row's activity: a wait leaves it, and a step of the row after which it runs found it
-- ready.
use Prim.Native.Nat.{ℕ, zero, suc, ◌+◌, ◌*◌, ◌≤◌}
use mathlib.Core.Path.{◌≡◌, refl, sym, ◌∙◌, ap}
use mathlib.Core.Logic.{◌≢◌}
use mathlib.Core.Bool.{Bool, true, false, cond}
use mathlib.Core.List.{List}
use native.Mathlib.Omega.{arith}
use lib.ListN.{length, get_or, set, length-set, get_or-eq_default}
use lib.Seq.{get_or-set_same, get_or-set_other}
use lib.Dec.{leb, ltb, eqb}
use borrow.Author.Tests.{eqb-true, eqb-false, ltb-true, ltb-false}
use Rattle.effbd.specs.Answers.{Outcome, accepted, refused}
use Rattle.effbd.specs.States.{activity_at, clock_at}
use Rattle.effbd.specs.Starts.{activity}
use Rattle.ranges.specs.Tests.{decide}
use Rattle.agreement.specs.ByteLaws.{never}
use Rattle.diagram_table.specs.Cells.{kind_in, owner_in, branch_in, close_in, kills_in, entered_in, uses_in}
use Rattle.words.specs.Sums.{added}
use Rattle.diagram_moves.specs.Decisions.{function_verdict, row_verdict, move_verdict}
use Rattle.diagram_moves.specs.Changes.{fold, starting_at, row_set, clear_word, words_cleared, counts_changed, tick_turn, branches_back, branches_set, rows_killed, entered, token_passed, function_change, row_change, move_change, outcome_of, table_move}

written : (o : Outcome ℕ) (l next : List ℕ) → outcome_of o l ≡ accepted next → l ≡ next
written (accepted v) l next e = cc
written (refused n v) l next e = never e

not-refused : {C : Type 0} (o : Outcome ℕ) (l next : List ℕ) (n v : ℕ) → outcome_of o l ≡ accepted next → o ≡ refused n v → C
not-refused o l next n v e f = never (sym (ap (λ (x : Outcome ℕ). outcome_of x l) f) ∙ e)

-- a tick changes no activity
tick-other : (n q r : ℕ) (l : List ℕ) → activity (tick_turn n q l) r ≡ activity l r
unfolding tick_turn
tick-other n q r l = decide (eqb (get_or l (activity_at q) 0) 2)
    (λ y. rw y (get_or-set_other l (clock_at q) (activity_at r) (added (get_or l (clock_at q) 0) n) 0 (λ z. absurd (omega arith)))) (λ y. rw y)

ticks-other : (k n r : ℕ) (l : List ℕ) → activity (fold k (tick_turn n) l) r ≡ activity l r
ticks-other zero n r l = refl
ticks-other (suc k) n r l = tick-other n k r (fold k (tick_turn n) l) ∙ ticks-other k n r l

module _ (r : ℕ) where
  -- row r does not run
  abbrev Rests : List ℕ → Type 0
  Rests l = activity l r ≢ 2

  past_end : (l : List ℕ) → length l ≤ activity_at r → Rests l
  past_end l b e = let z : get_or l (activity_at r) 0 ≡ 0 = get_or-eq_default l 0 {n = activity_at r} b in absurd (omega arith)

  set-rests : (l : List ℕ) (i v : ℕ) → v ≢ 2 → Rests l → Rests (set l i v)
  set-rests l i v n h = decide (eqb (activity_at r) i)
      (λ y. let e : activity_at r ≡ i = eqb-true (activity_at r) i y in decide (ltb i (length l))
      (λ z w. n (sym (ap (λ (k : ℕ). get_or (set l i v) k 0) e ∙ get_or-set_same l i v 0 (ltb-true i (length l) z)) ∙ w))
      (λ z. past_end (set l i v) (let q = ltb-false i (length l) z in let p = length-set l i v in omega arith)))
      (λ y w. h (sym (get_or-set_other l i (activity_at r) v 0 (eqb-false (activity_at r) i y)) ∙ w))

  clear-rests : (l : List ℕ) → Rests (set l (activity_at r) 0)
  clear-rests l = decide (ltb (activity_at r) (length l))
      (λ z w. absurd (let e : get_or (set l (activity_at r) 0) (activity_at r) 0 ≡ 0 = get_or-set_same l (activity_at r) 0 0 (ltb-true (activity_at r) (length l) z) in omega arith))
      (λ z. past_end (set l (activity_at r) 0) (let q = ltb-false (activity_at r) (length l) z in let p = length-set l (activity_at r) 0 in omega arith))

  row-rests : (q v : ℕ) (l : List ℕ) → v ≢ 2 → Rests l → Rests (row_set q v l)
  unfolding row_set
  row-rests q v l n h = set-rests (set l (activity_at q) v) (clock_at q) 0 (λ z. absurd (omega arith)) (set-rests l (activity_at q) v n h)

  fold-rests : (f : ℕ → List ℕ → List ℕ) → ((q : ℕ) (l : List ℕ) → Rests l → Rests (f q l)) → (n : ℕ) (l : List ℕ) → Rests l → Rests (fold n f l)
  fold-rests f turn zero l h = h
  fold-rests f turn (suc n) l h = turn n (fold n f l) (fold-rests f turn n l h)

  -- a row that is entered is ready, one that is killed idle, a BRANCH done: none runs
  three-or : (b : Bool) (v : ℕ) → v ≢ 2 → ◌≢◌ {A = ℕ} (cond b 3 v) 2
  three-or true v n z = absurd (omega arith)
  three-or false v n z = n z

  clear-turn-rests : (a q : ℕ) (l : List ℕ) → Rests l → Rests (starting_at a clear_word q l)
  unfolding starting_at clear_word
  clear-turn-rests a q l h = decide (leb a q) (λ y. rw y (set-rests l q 0 (λ z. absurd (omega arith)) h)) (λ y. rw y h)

  back-rests : (table : List ℕ) (n b : ℕ) (l : List ℕ) → Rests l → Rests (branches_back table (λ q. row_set q 3) n b l)
  unfolding branches_back
  back-rests table zero b l h = h
  back-rests table (suc n) b l h =
      let w : Rests (row_set b 3 l) = row-rests b 3 l (λ z. absurd (omega arith)) h in
      decide (ltb (branch_in table b) b) (λ y. rw y (unfold branches_back in back-rests table n (branch_in table b) (row_set b 3 l) w)) (λ y. rw y w)

  kill-rests : (table : List ℕ) (o : ℕ) (l : List ℕ) → Rests l → Rests (rows_killed table o l)
  unfolding rows_killed branches_set words_cleared
  kill-rests table o l h = let c : ℕ = close_in table o in
      back-rests table (branch_in table c + 1) (branch_in table c) _ (fold-rests (starting_at (3 * (o + 1)) clear_word) (clear-turn-rests (3 * (o + 1))) (3 * c) l h)

  entered-rests : (table : List ℕ) (q : ℕ) (l : List ℕ) → Rests l → Rests (entered table q l)
  unfolding entered
  entered-rests table q l h =
      let e = entered_in table q in decide (kills_in table e)
      (λ y. rw y (kill-rests table (owner_in table q) l h))
      (λ y. rw y (row-rests e (cond (eqb (kind_in table e) 18) 3 1) l (three-or (eqb (kind_in table e) 18) 1 (λ z. absurd (omega arith))) h))

  -- a token passed on from row r
  passed-rests : (table : List ℕ) (to : ℕ) (l : List ℕ) → Rests (token_passed table r to l)
  unfolding token_passed row_set
  passed-rests table to l = entered-rests table to (row_set r 0 l) (set-rests (set l (activity_at r) 0) (clock_at r) 0 (λ z. absurd (omega arith)) (clear-rests l))

module _ (table : List ℕ) (rows items : ℕ) (file words next : List ℕ) where
  -- the code is 1 or 2
  pub code_one : (code argument : ℕ) → table_move table rows items file words code argument ≡ accepted next → eqb code 2 ≡ false → code ≡ 1
  unfolding table_move move_verdict
  code_one code argument e n = decide (eqb code 1) (λ y. eqb-true code 1 y) (λ y. not-refused (move_verdict table rows items file words code argument) _ next 21 0 e (rw (y, n)))

  -- THEOREM: a wait leaves the activity
  pub wait-leaves : (argument r : ℕ) → table_move table rows items file words 2 argument ≡ accepted next → activity next r ≡ activity words r
  unfolding table_move move_change
  wait-leaves argument r e = ap (λ (l : List ℕ). activity l r) (sym (written (move_verdict table rows items file words 2 argument) (fold rows (tick_turn argument) words) next e)) ∙ ticks-other rows argument r words

  -- THEOREM: a step of a FUNCTION row after which it runs found it ready
  pub found-ready : (r : ℕ) → kind_in table r ≡ 16 → table_move table rows items file words 1 r ≡ accepted next → activity next r ≡ 2 → activity words r ≡ 1
  unfolding table_move move_verdict row_verdict function_verdict move_change row_change function_change
  found-ready r k e a = decide (eqb (activity words r) 1) (λ y. eqb-true (activity words r) 1 y)
      (λ y. let change : move_change table rows file 1 r words ≡ token_passed table r (r + 1) (counts_changed table true rows r 0 (uses_in table file r) words) = rw (k, y) in
      absurd (passed-rests r table (r + 1) (counts_changed table true rows r 0 (uses_in table file r) words)
      (ap (λ (l : List ℕ). activity l r) (sym change ∙ written (move_verdict table rows items file words 1 r) (move_change table rows file 1 r words) next e) ∙ a)))
