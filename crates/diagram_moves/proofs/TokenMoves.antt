-- The table and the stores of a token's moves are the diagram's: entering, killing, passing on, opening and closing branches, leaving a loop or a scenario.
use Prim.Native.Nat.{ℕ, zero, suc, ◌+◌, ◌*◌, ◌≤◌, ◌<◌}
use Rattle.std.specs.Prelude.{◌≡◌, Bool, ◌&&◌, ◌||◌, List, ltb}
use Rattle.std.proofs.Math.Path.{refl, sym, ap}
use Rattle.std.proofs.Common.{◌∙◌, arith}
use Rattle.std.proofs.Math.Bool.{true, false, not, cond, and_comm}
use Rattle.std.proofs.Math.Numerals.{add-one}
use Rattle.std.proofs.Math.Dec.{leb, eqb}
use borrow.Author.Tests.{ltb-true, ltb-false, leb-true, leb-false, le-leb, lt-leb, eqb-true, eqb-false, ne_eqb}
use Rattle.effbd.specs.Ranges.{all_below, only, between}
use Rattle.effbd.specs.Answers.{accepted}
use Rattle.effbd.specs.Diagrams.{Diagram, Kind, and_open, branch, end, number_of, row_count, item_total, kind, is_kind}
use Rattle.effbd.specs.Nesting.{owner, branch_ended, close, is_close, branch_of}
use Rattle.effbd.specs.States.{State, entered_row, ends_killer, killed, activate, enter, branch_entries, make_idle, clear_rows}
use Rattle.effbd.specs.States.{entered as active}
use Rattle.effbd.specs.Moves.{all_done, if_ready, words_outcome}
use Rattle.diagram_table.specs.Held.{Holds}
use Rattle.diagram_table.proofs.HeldCells.{entered-cell, kills-cell}
use Rattle.ranges.specs.Tests.{decide}
use Rattle.ranges.specs.RangeLaws.{all-intro, all-elim, all-fail, all-find}
use Rattle.agreement.specs.Basics.{eq-same, not-kind, kind-in}
use Rattle.agreement.specs.Nested.{well_nested}
use Rattle.agreement.specs.NestingLaws.{laws}
use Rattle.agreement.proofs.TokenSteps.{branch-kind}
use Rattle.diagram_table.specs.Cells.{kind_in, branch_in}
use Rattle.diagram_moves.specs.Decisions.{done_back, branches_done, ready_verdict}
use Rattle.diagram_moves.specs.Changes.{row_set, words_cleared, rows_cleared, branches_back, branches_set, rows_killed, entered, token_passed, branches_entered, rows_left, outcome_of}
use Rattle.diagram_moves.specs.Stores.{Reads, like, reads-words, set-row}
use Rattle.diagram_moves.proofs.RowStores.{cleared-reads}
use Rattle.agreement.proofs.Reach.{next-in, close-in, entered-in, ends-killer, behind-branch, last-branch, next-branch, last-own, next-own}

-- what all numbers from n on pass, all below n decide
all-cut : (n N : ℕ) (f : ℕ → Bool) → n ≤ N → ((i : ℕ) → n ≤ i → i < N → f i ≡ true) → all_below n f ≡ all_below N f
all-cut n N f b h = decide (all_below n f)
    (λ e. e ∙ sym (all-intro N f (λ i c. decide (ltb i n) (λ y. all-elim n f e i (ltb-true i n y)) (λ y. h i (ltb-false i n y) c))))
    (λ e. let w = all-find n f e in let x = w.1 in e ∙ sym (all-fail N f w.0 (omega arith) w.2))

-- entering q by whether it ends a branch that kills
abbrev pub enter_by : (d : Diagram) (q : ℕ) → State → Bool → State
enter_by d q s x = activate d (λ t. cond x (branch_of d (owner d q) t) (only (entered_row d q) t)) (clear_rows (λ t. x && between (owner d q) (close d (owner d q)) t) s)

pub enter-by : (d : Diagram) (q : ℕ) (s : State) {x : Bool} → ends_killer d q ≡ x → enter d q s ≡ enter_by d q s x
unfolding active killed
enter-by d q s y = ap (enter_by d q s) y

module _ (d : Diagram) (acc : well_nested d ≡ true) (table : List ℕ) (h : Holds d (row_count d) (item_total d) table) where
  pub number_is : (q : ℕ) (k : Kind) → q < row_count d → kind d q ≡ k → kind_in table q ≡ number_of k
  number_is q k b e = h.records.kinds q b ∙ ap number_of e

  pub idle-reads : (l : List ℕ) (s : State) (r : ℕ) → r < row_count d → Reads d l s → Reads d (row_set r 0 l) (make_idle (only r) s)
  idle-reads l s r b e = set-row d (λ q. 0) l s r b e

  activate-reads : (l : List ℕ) (s : State) (r : ℕ) → r < row_count d → Reads d l s → Reads d (row_set r (cond (eqb (kind_in table r) 18) 3 1) l) (activate d (only r) s)
  activate-reads l s r b e = rw (h.records.kinds r b) (set-row d (λ q. cond (is_kind d branch q) 3 1) l s r b e)

  -- the BRANCH rows of an AND, from the last one back
  module _ (o : ℕ) (k : kind d o ≡ and_open) where
    -- those up to b
    upto : ℕ → ℕ → Bool
    upto b q = branch_of d o q && leb q b

    upto-first : (b : ℕ) → branch_of d o b ≡ true → b ≤ branch_ended d b → (q v x : ℕ) → cond (only b q) v x ≡ cond (upto b q) v x
    unfolding upto
    upto-first b h m q v x = decide (only b q)
        (λ e. rw (e, eqb-true q b e, h, le-leb b b (omega arith)))
        (λ e. let ne = eqb-false q b e in rw e (decide (branch_of d o q)
        (λ y. decide (leb q b)
        (λ z. let w = leb-true q b z in let u = (next-branch d acc o q b y h (omega arith)).1 in absurd (omega arith))
        (λ z. rw (y, z)))
        (λ y. rw y)))

    upto_next : (b : ℕ) → branch_of d o b ≡ true → branch_ended d b < b → (q v x : ℕ) → cond (upto (branch_ended d b) q) v (cond (only b q) v x) ≡ cond (upto b q) v x
    unfolding upto
    upto_next b h m q v x = decide (only b q)
        (λ e. rw (e, eqb-true q b e, h, le-leb b b (omega arith), lt-leb b (branch_ended d b) m))
        (λ e. let ne = eqb-false q b e in rw e (decide (branch_of d o q)
        (λ y. rw y (decide (leb q b)
        (λ z. let w = leb-true q b z in let u = (next-branch d acc o q b y h (omega arith)).0 in rw (z, le-leb q (branch_ended d b) u))
        (λ z. let w = leb-false q b z in rw (z, lt-leb q (branch_ended d b) (omega arith)))))
        (λ y. rw y)))

    reset : (a b : ℕ) → State → State
    reset a b s = record { activity = λ q. cond (upto b q) a (s.activity q); turns = s.turns; clock = λ q. cond (upto b q) 0 (s.clock q); count = s.count }

    set_back : (a n b : ℕ) (l : List ℕ) (s : State) → b < n → branch_of d o b ≡ true → Reads d l s → Reads d (branches_back table (λ q. row_set q a) n b l) (reset a b s)
    unfolding branches_back reset
    set_back a zero b l s m y e = absurd (omega arith)
    set_back a (suc n) b l s m y e =
        let i = kind-in d b (not-kind d b (branch-kind d o b y) end refl) in
        let w = set-row d (λ q. a) l s b i e in
        rw (h.branches b i) (decide (ltb (branch_ended d b) b)
        (λ z. let c = ltb-true (branch_ended d b) b z in
        rw z (like d (unfold branches_back reset in set_back a n (branch_ended d b) (row_set b a l) _ (omega arith) (next-own d acc o b k y) w)
        (record { activity = λ q j. upto_next b y c q a (s.activity q); turns = λ q j. refl; clock = λ q j. upto_next b y c q 0 (s.clock q); count = λ q j. refl })))
        (λ z. let c = ltb-false (branch_ended d b) b z in
        rw z (like d w
        (record { activity = λ q j. upto-first b y c q a (s.activity q); turns = λ q j. refl; clock = λ q j. upto-first b y c q 0 (s.clock q); count = λ q j. refl }))))

    -- of a close c of it: the branch that c ends is the last one
    module _ (c : ℕ) (shut : is_close d c ≡ true) (own : owner d c ≡ o) (c-in : c < row_count d) where
      all-upto : (q : ℕ) → upto (branch_ended d c) q ≡ branch_of d o q
      unfolding upto
      all-upto q = decide (branch_of d o q) (λ y. rw (y, le-leb q (branch_ended d c) (last-branch d acc o q c y shut own))) (λ y. rw y)

      pub set-branches : (a : ℕ) (l : List ℕ) (s : State) → Reads d l s
          → Reads d (branches_set table a (branch_in table c) l) (record { activity = λ q. cond (branch_of d o q) a (s.activity q); turns = s.turns; clock = λ q. cond (branch_of d o q) 0 (s.clock q); count = s.count })
      unfolding branches_set reset
      set-branches a l s e = rw (h.branches c c-in) (like d (set_back a (branch_ended d c + 1) (branch_ended d c) l s (omega arith) (last-own d acc o c k shut own) e)
          (record {
            activity = λ q i. ap (λ (x : Bool). cond x a (s.activity q)) (all-upto q);
            turns = λ q i. refl;
            clock = λ q i. ap (λ (x : Bool). cond x 0 (s.clock q)) (all-upto q);
            count = λ j i. refl;
          }))

    -- its rows are cleared, then its BRANCH rows are done
    kill-reads : (l : List ℕ) (s : State) → Reads d l s → Reads d (rows_killed table o l) (activate d (branch_of d o) (clear_rows (between o (close d o)) s))
    unfolding rows_killed
    kill-reads l s e =
        let c = close-in d acc o (rw k) in
        rw (h.closes o (kind-in d o (not-kind d o k end refl)), add-one o)
        (like d (set-branches (close d o) shut.0 shut.1 (omega arith) 3 (words_cleared (3 * suc o) (3 * close d o) l) _ (cleared-reads d l s (suc o) (close d o) (omega arith) e))
        (record {
          activity = λ q i. decide (branch_of d o q) (λ y. rw (y, eq-same (kind d q) branch (branch-kind d o q y))) (λ y. rw y (ap (λ (x : Bool). cond x 0 (s.activity q)) (inside q)));
          turns = λ q i. ap (λ (x : Bool). cond x 0 (s.turns q)) (inside q);
          clock = λ q i. decide (branch_of d o q) (λ y. rw y) (λ y. rw y (ap (λ (x : Bool). cond x 0 (s.clock q)) (inside q)));
          count = λ j i. refl;
        }))
      where
        shut : (is_close d (close d o) ≡ true) × (owner d (close d o) ≡ o)
        shut = (laws d acc).shut o (rw k)

        inside : (q : ℕ) → (ltb q (close d o) && leb (suc o) q) ≡ between o (close d o) q
        inside q = and_comm (ltb q (close d o)) (ltb o q)

  pub enter-reads : (l : List ℕ) (s : State) (q : ℕ) → q < row_count d → Reads d l s → Reads d (entered table q l) (enter d q s)
  unfolding entered
  enter-reads l s q b e =
      let i = entered-in d acc q b in
      rw (entered-cell d (row_count d) (item_total d) table h q b, kills-cell d (row_count d) (item_total d) table h (entered_row d q) i, ends-killer d acc q, h.owners q b) (decide (ends_killer d q)
      (λ y. rw (enter-by d q s y, y) (kill-reads (owner d q) ((laws d acc).killer q y).0 l s e))
      (λ y. rw (enter-by d q s y, y) (activate-reads l s (entered_row d q) i e)))

  pub pass-reads : (l : List ℕ) (s : State) (o q : ℕ) → o < row_count d → q < row_count d → Reads d l s → Reads d (token_passed table o q l) (enter d q (make_idle (only o) s))
  unfolding token_passed
  pass-reads l s o q b c e = enter-reads (row_set o 0 l) (make_idle (only o) s) q c (idle-reads l s o b e)

  -- a step that stands if row o is ready
  pub ready-is : (l m : List ℕ) (s t : State) (o r : ℕ) → o < row_count d → Reads d l s → Reads d m t → outcome_of (ready_verdict l o r) m ≡ words_outcome d (if_ready d o r s t)
  unfolding ready_verdict words_outcome
  ready-is l m s t o r b e f = rw (e.activity o b) (decide (eqb (s.activity o) 1) (λ y. rw y (ap accepted (reads-words d m t f))) (λ y. rw y))

  no-branch : (o b : ℕ) → (branch_of d o b ≡ true → ⊥) → branch_of d o b ≡ false
  no-branch o b n = decide (branch_of d o b) (λ y. absurd (n y)) (λ y. y)

  -- the BRANCH rows of an AND are done
  module _ (o : ℕ) (k : kind d o ≡ and_open) (l : List ℕ) (s : State) (f : Reads d l s) where
    done : ℕ → Bool
    done b = not (branch_of d o b) || eqb (s.activity b) 3

    not-asked : (b : ℕ) → (branch_of d o b ≡ true → ⊥) → done b ≡ true
    unfolding done
    not-asked b n = rw (no-branch o b n)

    done-back : (n b : ℕ) → b < n → branch_of d o b ≡ true → done_back table l n b ≡ all_below (suc b) done
    unfolding done_back done
    done-back zero b m y = absurd (omega arith)
    done-back (suc n) b m y =
        let i = kind-in d b (not-kind d b (branch-kind d o b y) end refl) in
        rw (f.activity b i, y, h.branches b i) (ap (λ (x : Bool). eqb (s.activity b) 3 && x) (decide (ltb (branch_ended d b) b)
        (λ z. let c = ltb-true (branch_ended d b) b z in
        rw z ((unfold done_back done in done-back n (branch_ended d b) (omega arith) (next-own d acc o b k y))
        ∙ all-cut (suc (branch_ended d b)) b done (omega arith) (λ q u v. not-asked q (λ w. let x = (next-branch d acc o q b w y v).0 in absurd (omega arith)))))
        (λ z. let c = ltb-false (branch_ended d b) b z in
        rw z (sym (all-intro b done (λ q v. not-asked q (λ w. let x = (next-branch d acc o q b w y v).1 in absurd (omega arith))))))))

    pub all-done-is : (c : ℕ) → is_close d c ≡ true → owner d c ≡ o → c < row_count d → branches_done table l (branch_in table c) ≡ all_done d o s
    unfolding branches_done done
    all-done-is c shut own b = let y = last-own d acc o c k shut own in
        let i = kind-in d (branch_ended d c) (not-kind d (branch_ended d c) (branch-kind d o (branch_ended d c) y) end refl) in
        rw (h.branches c b) (done-back (branch_ended d c + 1) (branch_ended d c) (omega arith) y
        ∙ all-cut (suc (branch_ended d c)) (row_count d) done i (λ q u v. not-asked q (λ w. let x = last-branch d acc o q c w shut own in absurd (omega arith))))

  -- all branches of an AND are entered: what those up to BRANCH row b enter
  module _ (o : ℕ) (k : kind d o ≡ and_open) where
    hit : ℕ → ℕ → Bool
    hit q b = branch_of d o b && only q (entered_row d (suc b))

    missed : ℕ → ℕ → Bool
    missed q b = not (hit q b)

    hits : ℕ → ℕ → Bool
    hits b q = not (all_below (suc b) (missed q))

    no_hit : (q b : ℕ) → branch_of d o b ≡ false → missed q b ≡ true
    unfolding missed hit
    no_hit q b y = rw y

    hits-first : (b : ℕ) → branch_of d o b ≡ true → b ≤ branch_ended d b → (q : ℕ) → hit q b ≡ hits b q
    unfolding hits missed
    hits-first b y m q = rw (all-intro b (missed q) (λ x c. no_hit q x (no-branch o x (λ z. let w = (next-branch d acc o x b z y c).1 in absurd (omega arith))))) (sym (both (hit q b)))
      where
        both : (x : Bool) → not (not x && true) ≡ x
        both true = refl
        both false = refl

    hits_next : (b : ℕ) → branch_of d o b ≡ true → branch_ended d b < b → (q v x : ℕ) → cond (hits (branch_ended d b) q) v (cond (hit q b) v x) ≡ cond (hits b q) v x
    unfolding hits missed
    hits_next b y m q v x = rw (all-cut (suc (branch_ended d b)) b (missed q) (omega arith) (λ i c j. no_hit q i (no-branch o i (λ z. let w = (next-branch d acc o i b z y j).0 in absurd (omega arith)))))
        (once (hit q b) (all_below b (missed q)) v x)
      where
        once : (g a : Bool) (v x : ℕ) → cond (not a) v (cond g v x) ≡ cond (not (not g && a)) v x
        once true true v x = refl
        once true false v x = refl
        once false true v x = refl
        once false false v x = refl

    enter-branch : (b : ℕ) (l : List ℕ) (u : State) → branch_of d o b ≡ true → Reads d l u → Reads d (entered table (b + 1) l) (activate d (λ q. hit q b) u)
    unfolding hit
    enter-branch b l u y f = let i = branch-kind d o b y in
        rw (add-one b) (like d (rw (enter-by d (suc b) u (behind-branch d acc b i)) at (enter-reads l u (suc b) (next-in d acc b (not-kind d b i end refl)) f))
        (record {
          activity = λ q c. rw y (ap (λ (x : Bool). cond x (cond (is_kind d branch q) 3 1) (u.activity q)) (only-sym q (entered_row d (suc b))));
          turns = λ q c. refl;
          clock = λ q c. rw y (ap (λ (x : Bool). cond x 0 (u.clock q)) (only-sym q (entered_row d (suc b))));
          count = λ j c. refl;
        }))
      where
        only-sym : (x y : ℕ) → only y x ≡ only x y
        only-sym x y = decide (only x y) (λ z. rw (eqb-true y x z)) (λ z. let w = eqb-false y x z in ne_eqb x y (λ v. w (sym v)) ∙ sym z)

    enter-back : (n b : ℕ) (l : List ℕ) (u : State) → b < n → branch_of d o b ≡ true → Reads d l u → Reads d (branches_back table (λ q. entered table (q + 1)) n b l) (activate d (hits b) u)
    unfolding branches_back
    enter-back zero b l u m y f = absurd (omega arith)
    enter-back (suc n) b l u m y f =
        let i = kind-in d b (not-kind d b (branch-kind d o b y) end refl) in
        let w = enter-branch b l u y f in
        rw (h.branches b i) (decide (ltb (branch_ended d b) b)
        (λ z. let c = ltb-true (branch_ended d b) b z in
        rw z (like d (unfold branches_back in enter-back n (branch_ended d b) (entered table (b + 1) l) _ (omega arith) (next-own d acc o b k y) w)
        (record { activity = λ q j. hits_next b y c q (cond (is_kind d branch q) 3 1) (u.activity q); turns = λ q j. refl; clock = λ q j. hits_next b y c q 0 (u.clock q); count = λ q j. refl })))
        (λ z. let c = ltb-false (branch_ended d b) b z in
        rw z (like d w
        (record {
          activity = λ q j. ap (λ (x : Bool). cond x (cond (is_kind d branch q) 3 1) (u.activity q)) (hits-first b y c q);
          turns = λ q j. refl;
          clock = λ q j. ap (λ (x : Bool). cond x 0 (u.clock q)) (hits-first b y c q);
          count = λ q j. refl;
        }))))

    pub open-branches : (l : List ℕ) (u : State) → Reads d l u → Reads d (branches_entered table (branch_in table (close d o)) l) (activate d (branch_entries d o) u)
    unfolding branches_entered
    open-branches l u f = let c = close-in d acc o (rw k) in
        rw (h.branches (close d o) (omega arith)) (like d (enter-back (last + 1) last l u (omega arith) (last-own d acc o (close d o) k shut.0 shut.1) f)
        (record {
          activity = λ q j. ap (λ (x : Bool). cond x (cond (is_kind d branch q) 3 1) (u.activity q)) (every q);
          turns = λ q j. refl;
          clock = λ q j. ap (λ (x : Bool). cond x 0 (u.clock q)) (every q);
          count = λ q j. refl;
        }))
      where
        last : ℕ
        last = branch_ended d (close d o)

        shut : (is_close d (close d o) ≡ true) × (owner d (close d o) ≡ o)
        shut = (laws d acc).shut o (rw k)

        low : suc last ≤ row_count d
        low = kind-in d last (not-kind d last (branch-kind d o last (last-own d acc o (close d o) k shut.0 shut.1)) end refl)

        every : (q : ℕ) → hits last q ≡ branch_entries d o q
        every q = unfold hits missed hit branch_entries in ap not (all-cut (suc last) (row_count d) (λ b. not (hit q b)) low
            (λ b c i. no_hit q b (no-branch o b (λ z. let w = last-branch d acc o b (close d o) z shut.0 shut.1 in absurd (omega arith)))))

  -- LE, EXIT: the rows from `a` to `e`, which are those of W, are cleared and row q is entered
  pub leave-reads : (l : List ℕ) (s : State) (a e q : ℕ) (W : ℕ → Bool) → ((x : ℕ) → W x ≡ (leb a x && ltb x (suc e))) → e < row_count d → q < row_count d
      → Reads d l s → Reads d (rows_left table a e q l) (enter d q (clear_rows W s))
  unfolding rows_left rows_cleared
  leave-reads l s a e q W same b c f = enter-reads _ (clear_rows W s) q c (rw (add-one e) (like d (cleared-reads d l s a (suc e) (omega arith) f)
      (record {
        activity = λ x i. ap (λ (y : Bool). cond y 0 (s.activity x)) (cleared x);
        turns = λ x i. ap (λ (y : Bool). cond y 0 (s.turns x)) (cleared x);
        clock = λ x i. ap (λ (y : Bool). cond y 0 (s.clock x)) (cleared x);
        count = λ k i. refl;
      })))
    where
      cleared : (x : ℕ) → (ltb x (suc e) && leb a x) ≡ W x
      cleared x = and_comm (ltb x (suc e)) (leb a x) ∙ sym (same x)
