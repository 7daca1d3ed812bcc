-- Loops of stores over rows: the state that they leave.
use Prim.Native.Nat.{ℕ, zero, suc, ◌+◌, ◌*◌, ◌≤◌, ◌<◌}
use Rattle.std.specs.Prelude.{◌≡◌, ◌≢◌, Bool, true, false, ◌&&◌, List, length, set, leb, ltb, eqb}
use Rattle.std.proofs.Math.Path.{refl}
use Rattle.std.proofs.Common.{sym, ◌∙◌, ap, arith, add-one, length-set, get_or-set_same, get_or-set_other, ltb-true, ltb-false, lt-ltb, le-ltb, eqb-true, le-leb, leb-true, leb-false}
use Rattle.std.proofs.Math.Bool.{cond, and-false}
use Rattle.std.proofs.Math.ListN.{get_or, get_or-eq_default}
use Rattle.std.proofs.lemmas.Bool.{eqb-false, lt-leb}
use Rattle.effbd.specs.Ranges.{all_below, only}
use Rattle.effbd.specs.Diagrams.{Diagram, row_count}
use Rattle.effbd.specs.States.{State, activity_at, turns_at, clock_at, count_at, clear_rows}
use Rattle.ranges.specs.Tests.{decide, and_intro}
use Rattle.ranges.specs.RangeLaws.{only-refl, all-elim, all-intro}
use Rattle.diagram_moves.specs.Changes.{fold, starting_at, clear_word, words_cleared}
use Rattle.diagram_moves.specs.Stores.{Reads, like, set-clock}

-- one turn more of a loop of stores, and its end
pub fold_more : (f : ℕ → List ℕ → List ℕ) (i : ℕ) (l m n : List ℕ) → m ≡ fold i f l → n ≡ f i m → n ≡ fold (i + 1) f l
fold_more f i l m n e h = rw add-one (h ∙ ap (f i) e)

pub fold_end : (f : ℕ → List ℕ → List ℕ) (i n : ℕ) (l m : List ℕ) → m ≡ fold i f l → i ≤ n → n ≤ i → m ≡ fold n f l
fold_end f i n l m e a b = let z : i ≡ n = omega arith in e ∙ ap (λ (x : ℕ). fold x f l) z

-- a loop of tests
pub all_more : (f : ℕ → Bool) (i : ℕ) → all_below i f ≡ true → f i ≡ true → all_below (i + 1) f ≡ true
all_more f i e h = rw add-one (and_intro h e)

pub all-less : (f : ℕ → Bool) (i n : ℕ) → all_below i f ≡ true → n ≤ i → true ≡ all_below n f
all-less f i n e b = sym (all-intro n f (λ j c. all-elim i f e j (omega arith)))

both : (b : Bool) (v x : ℕ) → cond (b && true) v x ≡ cond (true && b) v x
both true v x = refl
both false v x = refl

neither : (b : Bool) (v x : ℕ) → cond (b && false) v x ≡ x
neither true v x = refl
neither false v x = refl

-- one turn more: cell n changes where S has it
grow : (S : ℕ → Bool) (n q v x : ℕ) → cond (S n && only n q) v (cond (ltb q n && S q) v x) ≡ cond (ltb q (suc n) && S q) v x
grow S n q v x = decide (only n q)
    (λ e. let z : q ≡ n = eqb-true q n e in rw (z, only-refl n, lt-ltb n (suc n) (omega arith), le-ltb n n (omega arith)) (both (S n) v x))
    (λ e. let z = eqb-false q n e in rw (e, neither (S n) v (cond (ltb q n && S q) v x), same z))
  where
    same : q ≢ n → ltb q n ≡ ltb q (suc n)
    same z = decide (ltb q n) (λ e. let h = ltb-true q n e in e ∙ sym (lt-ltb q (suc n) (omega arith)))
        (λ e. let h = ltb-false q n e in e ∙ sym (le-ltb q (suc n) (omega arith)))

none : (S : ℕ → Bool) (q v x : ℕ) → x ≡ cond (ltb q 0 && S q) v x
none S q v x = rw (le-ltb q 0 (omega arith))

every : (S : ℕ → Bool) (n q v x : ℕ) → (S q ≡ true → q < n) → cond (ltb q n && S q) v x ≡ cond (S q) v x
every S n q v x b = decide (S q) (λ e. rw (e, lt-ltb q n (b e))) (λ e. rw (e, and-false (ltb q n)))

-- words that are cleared, read back
clear-turn : (a n i : ℕ) (m : List ℕ) → get_or (starting_at a clear_word n m) i 0 ≡ cond (leb a n && only n i) 0 (get_or m i 0)
unfolding starting_at clear_word
clear-turn a n i m = decide (leb a n)
    (λ e. rw e (decide (only n i) (λ z. rw (z, eqb-true i n z) zero-there) (λ z. rw z (get_or-set_other m n i 0 0 (eqb-false i n z)))))
    (λ e. rw e)
  where
    zero-there : get_or (set m n 0) n 0 ≡ 0
    zero-there = decide (ltb n (length m)) (λ l. get_or-set_same m n 0 0 (ltb-true n (length m) l))
        (λ l. get_or-eq_default (set m n 0) 0 {n = n} (rw (length-set m n 0) (ltb-false n (length m) l)))

pub cleared_at : (a b i : ℕ) (l : List ℕ) → get_or (words_cleared a b l) i 0 ≡ cond (ltb i b && leb a i) 0 (get_or l i 0)
unfolding words_cleared
cleared_at a zero i l = none (leb a) i 0 (get_or l i 0)
cleared_at a (suc n) i l = clear-turn a n i (fold n (starting_at a clear_word) l)
    ∙ (ap (λ (x : ℕ). cond (leb a n && only n i) 0 x) (unfold words_cleared in cleared_at a n i l) ∙ grow (leb a) n i 0 (get_or l i 0))

pub cleared-long : (a b : ℕ) (l : List ℕ) → length (words_cleared a b l) ≡ length l
unfolding words_cleared starting_at clear_word
cleared-long a zero l = refl
cleared-long a (suc n) l = decide (leb a n)
    (λ e. rw e (length-set (fold n (starting_at a clear_word) l) n 0 ∙ (unfold words_cleared in cleared-long a n l)))
    (λ e. rw e (unfold words_cleared in cleared-long a n l))

-- a word of a row stands among those of the rows from a to below b exactly if the row does
row_word : (a b q p : ℕ) → 3 * q ≤ p → p < 3 * q + 3 → (ltb p (3 * b) && leb (3 * a) p) ≡ (ltb q b && leb a q)
row_word a b q p l m = rw (high, low)
  where
    high : ltb p (3 * b) ≡ ltb q b
    high = decide (ltb q b) (λ e. let z = ltb-true q b e in rw e (lt-ltb p (3 * b) (omega arith))) (λ e. let z = ltb-false q b e in rw e (le-ltb p (3 * b) (omega arith)))

    low : leb (3 * a) p ≡ leb a q
    low = decide (leb a q) (λ e. let z = leb-true a q e in rw e (le-leb (3 * a) p (omega arith))) (λ e. let z = leb-false a q e in rw e (lt-leb (3 * a) p (omega arith)))

pub cleared-reads : (d : Diagram) (l : List ℕ) (s : State) (a b : ℕ) → b ≤ row_count d → Reads d l s → Reads d (words_cleared (3 * a) (3 * b) l) (clear_rows (λ q. ltb q b && leb a q) s)
cleared-reads d l s a b i h = record {
  sized = cleared-long (3 * a) (3 * b) l ∙ h.sized;
  activity = λ q c. at q (activity_at q) (omega arith) (omega arith) (s.activity q) (h.activity q c);
  turns = λ q c. at q (turns_at q) (omega arith) (omega arith) (s.turns q) (h.turns q c);
  clock = λ q c. at q (clock_at q) (omega arith) (omega arith) (s.clock q) (h.clock q c);
  count = λ k c. cleared_at (3 * a) (3 * b) (count_at d k) l ∙ rw (le-ltb (count_at d k) (3 * b) (omega arith)) (h.count k c);
}
  where
    at : (q p : ℕ) → 3 * q ≤ p → p < 3 * q + 3 → (x : ℕ) → get_or l p 0 ≡ x → get_or (words_cleared (3 * a) (3 * b) l) p 0 ≡ cond (ltb q b && leb a q) 0 x
    at q p l' m x e = cleared_at (3 * a) (3 * b) p l ∙ rw (row_word a b q p l' m, e)

-- every running clock becomes F of itself
module _ (d : Diagram) (F : ℕ → ℕ) (l : List ℕ) (s : State) (h : Reads d l s)
    (g : ℕ → List ℕ → List ℕ) (turn : (b : ℕ) (m : List ℕ) → b < row_count d → g b m ≡ cond (eqb (get_or m (activity_at b) 0) 2) (set m (clock_at b) (F (get_or m (clock_at b) 0))) m) where
  runs : ℕ → Bool
  runs q = eqb (s.activity q) 2

  timed : (ℕ → ℕ) → State
  timed c = record { activity = s.activity; turns = s.turns; clock = c; count = s.count }

  far : ℕ → ℕ → ℕ
  far n q = cond (ltb q n && runs q) (F (s.clock q)) (s.clock q)

  tick-upto : (n : ℕ) → n ≤ row_count d → Reads d (fold n g l) (timed (far n))
  unfolding timed far runs
  tick-upto zero b = like d h (record { activity = λ q c. refl; turns = λ q c. refl; clock = λ q c. none runs q (F (s.clock q)) (s.clock q); count = λ k c. refl })
  tick-upto (suc n) b =
      let k : Reads d (fold n g l) (timed (far n)) = tick-upto n (omega arith) in
      let v : get_or (fold n g l) (activity_at n) 0 ≡ s.activity n = k.activity n (omega arith) in
      let w : get_or (fold n g l) (clock_at n) 0 ≡ s.clock n = k.clock n (omega arith) ∙ rw (le-ltb n n (omega arith)) in
      rw (turn n (fold n g l) (omega arith), v, w) (like d {s = timed (λ q. cond (runs n && only n q) (F (s.clock q)) (far n q))} (turned k)
      (record { activity = λ q c. refl; turns = λ q c. refl; clock = λ q c. grow runs n q (F (s.clock q)) (s.clock q); count = λ k c. refl }))
    where
      value : (q x : ℕ) → cond (only n q) (F (s.clock n)) x ≡ cond (only n q) (F (s.clock q)) x
      value q x = decide (only n q) (λ e. rw (eqb-true q n e)) (λ e. rw e)

      turned : Reads d (fold n g l) (timed (far n)) → Reads d (cond (runs n) (set (fold n g l) (clock_at n) (F (s.clock n))) (fold n g l)) (timed (λ q. cond (runs n && only n q) (F (s.clock q)) (far n q)))
      turned k = decide (runs n)
          (λ e. rw e (like d (set-clock d (F (s.clock n)) (fold n g l) (timed (far n)) n (omega arith) k)
          (record { activity = λ q c. refl; turns = λ q c. refl; clock = λ q c. value q (far n q); count = λ k c. refl })))
          (λ e. rw e k)

  pub tick-fold : Reads d (fold (row_count d) g l) (record { activity = s.activity; turns = s.turns; clock = λ q. cond (eqb (s.activity q) 2) (F (s.clock q)) (s.clock q); count = s.count })
  unfolding timed far runs
  tick-fold = like d (tick-upto (row_count d) (omega arith))
      (record { activity = λ q c. refl; turns = λ q c. refl; clock = λ q c. every runs (row_count d) q (F (s.clock q)) (s.clock q) (λ e. c); count = λ k c. refl })
