-- Words that read as a state: which stores make which state.
use Prim.Native.Nat.{ℕ, ◌*◌, ◌%◌, ◌<◌}
use Rattle.std.specs.Prelude.{◌≡◌, refl, ◌≢◌, Bool, true, false, cond, length, ltb, eqb}
use Rattle.std.proofs.Math.Path.{sym, ap}
use Rattle.std.proofs.Common.{◌∙◌, arith, get_or-set_same}
use mathlib.Core.List.{List}
use Rattle.std.proofs.Math.ListN.{get_or, set, length-set}
use Rattle.std.proofs.Math.Seq.{get_or-set_other, ext_get_or}
use borrow.Author.Tests.{ltb-false, lt-ltb, eqb-true, eqb-false}
use Rattle.effbd.specs.Ranges.{only}
use Rattle.effbd.specs.Diagrams.{Diagram, row_count}
use Rattle.effbd.specs.Counts.{count_total}
use Rattle.effbd.specs.Layout.{Place, P, Q, R, Count, by_place, place_of, places}
use Rattle.effbd.specs.States.{State, activity_at, turns_at, clock_at, count_at, state_words, state_of, set_turns}
use Rattle.ranges.specs.Tests.{decide}
use Rattle.ranges.specs.RangeLaws.{get_d-tab, length-tab}
use Rattle.agreement.specs.Tokens.{Real}
use Rattle.agreement.proofs.Numbering.{place-real}
use Rattle.diagram_moves.specs.Changes.{row_set}

-- one store, read back: j is the place stored to, or not, by the test t
read_set : (l : List ℕ) (i j v x : ℕ) (t : Bool) → i < length l → (t ≡ true → j ≡ i) → (t ≡ false → j ≢ i) → get_or l j 0 ≡ x → get_or (set l i v) j 0 ≡ cond t v x
read_set l i j v x true b y n e = rw (y refl) (get_or-set_same l i v 0 b)
read_set l i j v x false b y n e = get_or-set_other l i j v 0 (n refl) ∙ e

module _ (d : Diagram) where
  -- the words read as the state wherever they reach
  pub record Reads (l : List ℕ) (s : State) : Type 0 where
    pub sized : length l ≡ places d
    pub activity : (q : ℕ) → q < row_count d → get_or l (activity_at q) 0 ≡ s.activity q
    pub turns : (q : ℕ) → q < row_count d → get_or l (turns_at q) 0 ≡ s.turns q
    pub clock : (q : ℕ) → q < row_count d → get_or l (clock_at q) 0 ≡ s.clock q
    pub count : (k : ℕ) → k < count_total d → get_or l (count_at d k) 0 ≡ s.count k

  number_at : Place → ℕ
  number_at (P r) = activity_at r
  number_at (Q r) = turns_at r
  number_at (R r) = clock_at r
  number_at (Count k) = count_at d k

  number-back : (p : ℕ) → number_at (place_of d p) ≡ p
  unfolding place_of number_at
  number-back p = decide (ltb p (3 * row_count d))
      (λ e. rw e (decide (eqb (p % 3) 0) (λ f. let z = eqb-true (p % 3) 0 f in rw f (omega arith))
      (λ f. let y = eqb-false (p % 3) 0 f in rw f (decide (eqb (p % 3) 1) (λ g. let z = eqb-true (p % 3) 1 g in rw g (omega arith)) (λ g. let z = eqb-false (p % 3) 1 g in rw g (omega arith))))))
      (λ e. let l = ltb-false p (3 * row_count d) e in rw e (omega arith))

  pub reads-words : (l : List ℕ) (s : State) → Reads l s → l ≡ state_words d s
  unfolding state_words number_at
  reads-words l s h = ext_get_or 0 l (state_words d s) (h.sized ∙ sym (length-tab (places d) cell))
      (λ p b. let bp : p < places d = rw h.sized at b in
      ap (λ (i : ℕ). get_or l i 0) (sym (number-back p)) ∙ (at (place_of d p) (place-real d p bp) ∙ sym (get_d-tab (places d) cell p 0 bp)))
    where
      cell : ℕ → ℕ
      cell p = by_place s.activity s.turns s.clock s.count (place_of d p)

      at : (x : Place) → Real d x → get_or l (number_at x) 0 ≡ by_place s.activity s.turns s.clock s.count x
      at (P r) b = h.activity r b
      at (Q r) b = h.turns r b
      at (R r) b = h.clock r b
      at (Count k) b = h.count k b

  pub words-read : (l : List ℕ) → length l ≡ places d → Reads l (state_of d l)
  unfolding state_of
  words-read l e = record {
    sized = e;
    activity = λ q b. rw (lt-ltb q (row_count d) b);
    turns = λ q b. rw (lt-ltb q (row_count d) b);
    clock = λ q b. rw (lt-ltb q (row_count d) b);
    count = λ k b. rw (lt-ltb k (count_total d) b);
  }

  -- two states that agree wherever words reach
  pub record Like (s t : State) : Type 0 where
    pub activity : (q : ℕ) → q < row_count d → s.activity q ≡ t.activity q
    pub turns : (q : ℕ) → q < row_count d → s.turns q ≡ t.turns q
    pub clock : (q : ℕ) → q < row_count d → s.clock q ≡ t.clock q
    pub count : (k : ℕ) → k < count_total d → s.count k ≡ t.count k

  pub like : {l : List ℕ} {s t : State} → Reads l s → Like s t → Reads l t
  like h e = record {
    sized = h.sized;
    activity = λ q b. h.activity q b ∙ e.activity q b;
    turns = λ q b. h.turns q b ∙ e.turns q b;
    clock = λ q b. h.clock q b ∙ e.clock q b;
    count = λ k b. h.count k b ∙ e.count k b;
  }

  -- activity A and clock 0 for row r; A is a function, since entering says its value by the row
  pub set-row : (A : ℕ → ℕ) (l : List ℕ) (s : State) (r : ℕ) → r < row_count d → Reads l s
      → Reads (row_set r (A r) l) (record { activity = λ q. cond (only r q) (A q) (s.activity q); turns = s.turns; clock = λ q. cond (only r q) 0 (s.clock q); count = s.count })
  unfolding row_set
  set-row A l s r b h = record {
    sized = length-set m (clock_at r) 0 ∙ (length-set l (activity_at r) (A r) ∙ h.sized);
    activity = λ q c. get_or-set_other m (clock_at r) (activity_at q) 0 0 (omega arith)
        ∙ (read_set l (activity_at r) (activity_at q) (A r) (s.activity q) (only r q) (omega (arith, h.sized)) (λ e. let z = eqb-true q r e in omega arith) (λ e. let z = eqb-false q r e in omega arith) (h.activity q c)
        ∙ value q (s.activity q));
    turns = λ q c. get_or-set_other m (clock_at r) (turns_at q) 0 0 (omega arith) ∙ (get_or-set_other l (activity_at r) (turns_at q) (A r) 0 (omega arith) ∙ h.turns q c);
    clock = λ q c. read_set m (clock_at r) (clock_at q) 0 (s.clock q) (only r q) (rw (length-set l (activity_at r) (A r)) (omega (arith, h.sized))) (λ e. let z = eqb-true q r e in omega arith) (λ e. let z = eqb-false q r e in omega arith)
        (get_or-set_other l (activity_at r) (clock_at q) (A r) 0 (omega arith) ∙ h.clock q c);
    count = λ k c. get_or-set_other m (clock_at r) (count_at d k) 0 0 (omega arith) ∙ (get_or-set_other l (activity_at r) (count_at d k) (A r) 0 (omega arith) ∙ h.count k c);
  }
    where
      m : List ℕ
      m = set l (activity_at r) (A r)

      value : (q x : ℕ) → cond (only r q) (A r) x ≡ cond (only r q) (A q) x
      value q x = decide (only r q) (λ e. rw (eqb-true q r e)) (λ e. rw e)

  pub set-turns : (n : ℕ) (l : List ℕ) (s : State) (r : ℕ) → r < row_count d → Reads l s → Reads (set l (turns_at r) n) (set_turns r n s)
  set-turns n l s r b h = record {
    sized = length-set l (turns_at r) n ∙ h.sized;
    activity = λ q c. get_or-set_other l (turns_at r) (activity_at q) n 0 (omega arith) ∙ h.activity q c;
    turns = λ q c. read_set l (turns_at r) (turns_at q) n (s.turns q) (only r q) (omega (arith, h.sized)) (λ e. let z = eqb-true q r e in omega arith) (λ e. let z = eqb-false q r e in omega arith) (h.turns q c);
    clock = λ q c. get_or-set_other l (turns_at r) (clock_at q) n 0 (omega arith) ∙ h.clock q c;
    count = λ k c. get_or-set_other l (turns_at r) (count_at d k) n 0 (omega arith) ∙ h.count k c;
  }

  pub set-clock : (v : ℕ) (l : List ℕ) (s : State) (r : ℕ) → r < row_count d → Reads l s
      → Reads (set l (clock_at r) v) (record { activity = s.activity; turns = s.turns; clock = λ q. cond (only r q) v (s.clock q); count = s.count })
  set-clock v l s r b h = record {
    sized = length-set l (clock_at r) v ∙ h.sized;
    activity = λ q c. get_or-set_other l (clock_at r) (activity_at q) v 0 (omega arith) ∙ h.activity q c;
    turns = λ q c. get_or-set_other l (clock_at r) (turns_at q) v 0 (omega arith) ∙ h.turns q c;
    clock = λ q c. read_set l (clock_at r) (clock_at q) v (s.clock q) (only r q) (omega (arith, h.sized)) (λ e. let z = eqb-true q r e in omega arith) (λ e. let z = eqb-false q r e in omega arith) (h.clock q c);
    count = λ k c. get_or-set_other l (clock_at r) (count_at d k) v 0 (omega arith) ∙ h.count k c;
  }

  pub set-count : (n : ℕ) (l : List ℕ) (s : State) (k : ℕ) → k < count_total d → Reads l s
      → Reads (set l (count_at d k) n) (record { activity = s.activity; turns = s.turns; clock = s.clock; count = λ j. cond (only k j) n (s.count j) })
  set-count n l s k b h = record {
    sized = length-set l (count_at d k) n ∙ h.sized;
    activity = λ q c. get_or-set_other l (count_at d k) (activity_at q) n 0 (omega arith) ∙ h.activity q c;
    turns = λ q c. get_or-set_other l (count_at d k) (turns_at q) n 0 (omega arith) ∙ h.turns q c;
    clock = λ q c. get_or-set_other l (count_at d k) (clock_at q) n 0 (omega arith) ∙ h.clock q c;
    count = λ j c. read_set l (count_at d k) (count_at d j) n (s.count j) (only k j) (omega (arith, h.sized)) (λ e. let z = eqb-true j k e in omega arith) (λ e. let z = eqb-false j k e in omega arith) (h.count j c);
  }
