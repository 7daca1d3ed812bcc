-- The nesting rules over the table's numbers are those of the diagram.
use Prim.Native.Nat.{ℕ, suc, ◌+◌, ◌≤◌, ◌<◌}
use mathlib.Core.Path.{◌≡◌, refl, sym, ◌∙◌, ap}
use mathlib.Core.Bool.{Bool, true, false, not, cond, ◌&&◌, ◌||◌, and-true, and-false, and_comm}
use mathlib.Core.List.{List, [], ◌∷◌}
use native.Mathlib.Omega.{arith}
use native.Mathlib.Numerals.{add-one}
use lib.ListN.{length}
use lib.Dec.{leb, ltb, eqb}
use borrow.Author.Tests.{ltb-true, ltb-false, eqb-true, eq-eqb, ne_eqb}
use Rattle.effbd.specs.Diagrams.{Kind, function, and_open, branch, and_close, or_open, or_close, it_open, it_close, lp_open, lp_close, loop_exit, end, box_open, box_close, box_exit, number_of, same_kind, Diagram, row_count, row, kind, is_kind, kills}
use Rattle.effbd.specs.Frames.{Frame, push, turn_to, pop, role, is_opening, is_closing, passing}
use Rattle.effbd.specs.Nesting.{stack, innermost_is, own_scenario, some_open, some_scenario, none_open, two_branches, follows, stands_as, nesting_broken, killer_empty, exit_misplaced, box_exit_misplaced, thirteenth_open, nesting_fault}
use Rattle.ranges.specs.Tests.{decide, clash, and_left, and_right}
use Rattle.agreement.specs.Basics.{kind-past}
use Rattle.nesting.specs.declared.Part.{Part}
use Rattle.nesting.specs.declared.Part.TheVariants.{Opens, Turns, Closes, Stays}
use Rattle.nesting.specs.declared.Open.{Open}
use Rattle.nesting.specs.Runs.{part_of, kind_in, first_in, top_in, is_and_or, is_branching, run_ends, exit_fits, box_exit_fits, closes_in, stay_fault, last_fault, killer_fault, branch_fault, open_fault, Kinds, Shows}

-- the fault of a row that is not the last and stands behind no AND open or OR open, by its part
abbrev pub fault_by : Part → (kind first next top : ℕ) (two looped boxed : Bool) (depth : ℕ) → ℕ
fault_by Opens k first next top two looped boxed depth = cond (leb 12 depth) 9 0
fault_by Turns k first next top two looped boxed depth = branch_fault first next top
fault_by Closes k first next top two looped boxed depth = cond (closes_in k top two) 0 7
fault_by Stays k first next top two looped boxed depth = stay_fault k next top looped boxed

-- the same of row q of the table, where `o` is open
abbrev pub fault_in : List ℕ → ℕ → ℕ → Open → Part → ℕ
fault_in table rows q o part = fault_by part (kind_in table rows q) (first_in table q) (kind_in table rows (q + 1)) (top_in table rows o) (leb 2 o.branches) o.looped o.boxed o.depth

-- what a row does, by its part
abbrev pub passing_by : Part → ℕ → List Frame → List Frame
passing_by Opens q fs = push q fs
passing_by Turns q fs = turn_to q fs
passing_by Closes q fs = pop fs
passing_by Stays q fs = fs

abbrev pub opening : Part → Bool
opening Opens = true
opening Turns = false
opening Closes = false
opening Stays = false

abbrev pub closing : Part → Bool
closing Opens = false
closing Turns = false
closing Closes = true
closing Stays = false

-- with nothing open no BRANCH and no close may stand
abbrev pub ending : Part → Bool
ending Opens = false
ending Turns = true
ending Closes = true
ending Stays = false

-- a kind, by its number
pub record Shape (k : Kind) : Type 0 where
  pub passes : (q : ℕ) (fs : List Frame) → passing (role k) q fs ≡ passing_by (part_of (number_of k)) q fs
  pub opens : is_opening (role k) ≡ opening (part_of (number_of k))
  pub closes : is_closing (role k) ≡ closing (part_of (number_of k))
  pub forks : is_and_or (number_of k) ≡ true → is_opening (role k) ≡ true
  pub nonzero : (eqb (number_of k) 0 ≡ false) × (eqb 0 (number_of k) ≡ false)
  pub bare : (d : Diagram) (q : ℕ) → (ending (part_of (number_of k)) && stands_as d k q []) ≡ false
  pub last : (d : Diagram) (q : ℕ) (fs : List Frame) → (same_kind k end && stands_as d k q fs) ≡ (same_kind k end && (none_open d fs && eqb (suc q) (row_count d)))

pub shape : (k : Kind) → Shape k
unfolding part_of is_and_or
shape function = record { passes = λ q fs. refl; opens = refl; closes = refl; forks = λ h. clash h refl; nonzero = (refl, refl); bare = λ d q. refl; last = λ d q fs. refl }
shape and_open = record { passes = λ q fs. refl; opens = refl; closes = refl; forks = λ h. refl; nonzero = (refl, refl); bare = λ d q. refl; last = λ d q fs. refl }
shape branch = record { passes = λ q fs. refl; opens = refl; closes = refl; forks = λ h. clash h refl; nonzero = (refl, refl); bare = λ d q. refl; last = λ d q fs. refl }
shape and_close = record { passes = λ q fs. refl; opens = refl; closes = refl; forks = λ h. clash h refl; nonzero = (refl, refl); bare = λ d q. refl; last = λ d q fs. refl }
shape or_open = record { passes = λ q fs. refl; opens = refl; closes = refl; forks = λ h. refl; nonzero = (refl, refl); bare = λ d q. refl; last = λ d q fs. refl }
shape or_close = record { passes = λ q fs. refl; opens = refl; closes = refl; forks = λ h. clash h refl; nonzero = (refl, refl); bare = λ d q. refl; last = λ d q fs. refl }
shape it_open = record { passes = λ q fs. refl; opens = refl; closes = refl; forks = λ h. refl; nonzero = (refl, refl); bare = λ d q. refl; last = λ d q fs. refl }
shape it_close = record { passes = λ q fs. refl; opens = refl; closes = refl; forks = λ h. clash h refl; nonzero = (refl, refl); bare = λ d q. refl; last = λ d q fs. refl }
shape lp_open = record { passes = λ q fs. refl; opens = refl; closes = refl; forks = λ h. refl; nonzero = (refl, refl); bare = λ d q. refl; last = λ d q fs. refl }
shape lp_close = record { passes = λ q fs. refl; opens = refl; closes = refl; forks = λ h. clash h refl; nonzero = (refl, refl); bare = λ d q. refl; last = λ d q fs. refl }
shape loop_exit = record { passes = λ q fs. refl; opens = refl; closes = refl; forks = λ h. clash h refl; nonzero = (refl, refl); bare = λ d q. refl; last = λ d q fs. refl }
shape end = record { passes = λ q fs. refl; opens = refl; closes = refl; forks = λ h. clash h refl; nonzero = (refl, refl); bare = λ d q. refl; last = λ d q fs. refl }
shape box_open = record { passes = λ q fs. refl; opens = refl; closes = refl; forks = λ h. refl; nonzero = (refl, refl); bare = λ d q. refl; last = λ d q fs. refl }
shape box_close = record { passes = λ q fs. refl; opens = refl; closes = refl; forks = λ h. clash h refl; nonzero = (refl, refl); bare = λ d q. refl; last = λ d q fs. refl }
shape box_exit = record { passes = λ q fs. refl; opens = refl; closes = refl; forks = λ h. clash h refl; nonzero = (refl, refl); bare = λ d q. refl; last = λ d q fs. refl }

module _ (d : Diagram) where
  pub stack-next : (q : ℕ) (part : Part) → part_of (number_of (kind d q)) ≡ part → stack d (q + 1) ≡ passing_by part q (stack d q)
  unfolding stack
  stack-next q part e = ap (stack d) (add-one q) ∙ ((shape (kind d q)).passes q (stack d q) ∙ ap (λ (p : Part). passing_by p q (stack d q)) e)

  -- the kind of the innermost open row, 0 where nothing is open
  top_number : List Frame → ℕ
  top_number [] = 0
  top_number (f ∷ fs) = number_of (kind d f.opened)

  top-is : (k : Kind) (fs : List Frame) → innermost_is d k fs ≡ eqb (top_number fs) (number_of k)
  unfolding top_number
  top-is k [] = sym (shape k).nonzero.1
  top-is k (f ∷ fs) = refl

  none_is : (fs : List Frame) → none_open d fs ≡ eqb (top_number fs) 0
  unfolding top_number
  none_is [] = refl
  none_is (f ∷ fs) = sym (shape (kind d f.opened)).nonzero.0

  -- behind a row that is no AND open or OR open any row may stand
  pub free-behind : (q : ℕ) → is_and_or (number_of (kind d q)) ≡ false → follows d (q + 1) ≡ true
  unfolding is_and_or
  free-behind q h = ap (follows d) (add-one q) ∙ rw h

  pub free-next : (q : ℕ) (part : Part) → part_of (number_of (kind d q)) ≡ part → opening part ≡ false → follows d (q + 1) ≡ true
  free-next q part e h = free-behind q (decide (is_and_or (number_of (kind d q))) (λ z. clash ((shape (kind d q)).forks z) ((shape (kind d q)).opens ∙ (ap opening e ∙ h))) (λ z. z))

  exit-is : (q : ℕ) → exit_misplaced d q ≡ (is_kind d loop_exit q && not (exit_fits (number_of (kind d (q + 1))) (top_number (stack d q)) (some_open d lp_open (own_scenario d (stack d q)))))
  unfolding exit_misplaced exit_fits is_and_or run_ends
  exit-is q = rw (add-one q, top-is and_open (stack d q), top-is or_open (stack d q), top-is box_open (stack d q))

  box-exit-is : (q : ℕ) → box_exit_misplaced d q ≡ (is_kind d box_exit q && not (box_exit_fits (number_of (kind d (q + 1))) (top_number (stack d q)) (some_scenario d (stack d q))))
  unfolding box_exit_misplaced box_exit_fits run_ends
  box-exit-is q = rw (add-one q, top-is and_open (stack d q), top-is or_open (stack d q), top-is box_open (stack d q), top-is it_open (stack d q), top-is lp_open (stack d q))

  swap : (b : Bool) (n : ℕ) → cond (not b) n 0 ≡ cond b 0 n
  swap true n = refl
  swap false n = refl

  -- 7 before 44; an AND is innermost, or an OR, or a box; the BRANCH kills; its branch is empty
  branch_same : (in_and in_or in_box kill empty : Bool)
      → ◌≡◌ {A = ℕ} (cond (not ((in_and || in_or || in_box) && (not kill || in_and))) 7 (cond (kill && empty) 44 0)) (cond kill (cond in_and (cond empty 44 0) 7) (cond (in_and || in_or || in_box) 0 7))
  branch_same true in_or in_box true empty = refl
  branch_same true in_or in_box false empty = refl
  branch_same false true in_box true empty = refl
  branch_same false true in_box false empty = refl
  branch_same false false true true empty = refl
  branch_same false false true false empty = refl
  branch_same false false false true empty = refl
  branch_same false false false false empty = refl

  inside-as : (k : Kind) (next q : ℕ) (fs : List Frame) → eqb (suc q) (row_count d) ≡ false
      → cond (not (stands_as d k q fs)) 7 (cond (same_kind k branch && (kills d q && (eqb next 18 || eqb next 19))) 44
      (cond (same_kind k loop_exit && not (exit_fits next (top_number fs) (some_open d lp_open (own_scenario d fs)))) 8
      (cond (same_kind k box_exit && not (box_exit_fits next (top_number fs) (some_scenario d fs))) 48
      (cond (opening (part_of (number_of k)) && leb 12 (length fs)) 9 0))))
      ≡ fault_by (part_of (number_of k)) (number_of k) (row d q).first next (top_number fs) (two_branches d fs) (some_open d lp_open (own_scenario d fs)) (some_scenario d fs) (length fs)
  unfolding part_of is_and_or is_branching closes_in stay_fault killer_fault branch_fault
  inside-as function next q fs l = refl
  inside-as and_open next q fs l = refl
  inside-as branch next q fs l = rw (top-is and_open fs, top-is or_open fs, top-is box_open fs)
      (branch_same (eqb (top_number fs) 17) (eqb (top_number fs) 20) (eqb (top_number fs) 29) (kills d q) (eqb next 18 || eqb next 19))
  inside-as and_close next q fs l = rw (top-is and_open fs) (swap (eqb (top_number fs) 17 && two_branches d fs) 7)
  inside-as or_open next q fs l = refl
  inside-as or_close next q fs l = rw (top-is or_open fs) (swap (eqb (top_number fs) 20 && two_branches d fs) 7)
  inside-as it_open next q fs l = refl
  inside-as it_close next q fs l = rw (top-is it_open fs) (swap (eqb (top_number fs) 22) 7)
  inside-as lp_open next q fs l = refl
  inside-as lp_close next q fs l = rw (top-is lp_open fs) (swap (eqb (top_number fs) 24) 7)
  inside-as loop_exit next q fs l = swap (exit_fits next (top_number fs) (some_open d lp_open (own_scenario d fs))) 8
  inside-as end next q fs l = rw (l, and-false (none_open d fs))
  inside-as box_open next q fs l = refl
  inside-as box_close next q fs l = rw (top-is box_open fs) (swap (eqb (top_number fs) 29 && two_branches d fs) 7)
  inside-as box_exit next q fs l = swap (box_exit_fits next (top_number fs) (some_scenario d fs)) 48

  last_as : (n : ℕ) (b e x z y : Bool) → ◌≡◌ {A = ℕ} (cond (not (eqb n 27 && b)) 7 (cond (eqb n 18 && e) 44 (cond (eqb n 26 && x) 8 (cond (eqb n 31 && z) 48 (cond (opening (part_of n) && y) 9 0))))) (cond (eqb n 27 && b) 0 7)
  unfolding part_of
  last_as n b e x z y = decide (eqb n 27) (λ w. rw (eqb-true n 27 w) (swap b 7)) (λ w. rw w)

  empty-is : (q : ℕ) → killer_empty d q ≡ (is_kind d branch q && (kills d q && (eqb (number_of (kind d (q + 1))) 18 || eqb (number_of (kind d (q + 1))) 19)))
  unfolding killer_empty
  empty-is q = rw (add-one q)

  module _ (q : ℕ) (f : follows d q ≡ true) where
    deep_is : thirteenth_open d q ≡ (opening (part_of (number_of (kind d q))) && leb 12 (length (stack d q)))
    unfolding thirteenth_open
    deep_is = rw (shape (kind d q)).opens

    -- the fault of a row that is not the last, by its part
    inside_is : eqb (suc q) (row_count d) ≡ false → nesting_fault d q
        ≡ fault_by (part_of (number_of (kind d q))) (number_of (kind d q)) (row d q).first (number_of (kind d (q + 1))) (top_number (stack d q)) (two_branches d (stack d q)) (some_open d lp_open (own_scenario d (stack d q))) (some_scenario d (stack d q)) (length (stack d q))
    unfolding nesting_fault nesting_broken
    inside_is l = rw (f, l, and-true (stands_as d (kind d q) q (stack d q)), empty-is q, exit-is q, box-exit-is q, deep_is) (inside-as (kind d q) (number_of (kind d (q + 1))) q (stack d q) l)

    -- the fault of the last row
    last-is : eqb (suc q) (row_count d) ≡ true → nesting_fault d q ≡ last_fault (number_of (kind d q)) (top_number (stack d q))
    unfolding nesting_fault nesting_broken last_fault
    last-is l =
        let s : (stands_as d (kind d q) q (stack d q) && is_kind d end q) ≡ (is_kind d end q && eqb (top_number (stack d q)) 0) =
        and_comm (stands_as d (kind d q) q (stack d q)) (is_kind d end q) ∙ ((shape (kind d q)).last d q (stack d q) ∙ rw (l, and-true (none_open d (stack d q)), none_is (stack d q))) in
        rw (f, l, s, empty-is q, exit-is q, box-exit-is q, deep_is)
        (last_as (number_of (kind d q)) (eqb (top_number (stack d q)) 0) (kills d q && (eqb (number_of (kind d (q + 1))) 18 || eqb (number_of (kind d (q + 1))) 19)) (not (exit_fits (number_of (kind d (q + 1))) (top_number (stack d q)) (some_open d lp_open (own_scenario d (stack d q))))) (not (box_exit_fits (number_of (kind d (q + 1))) (top_number (stack d q)) (some_scenario d (stack d q)))) (leb 12 (length (stack d q))))

  -- behind an AND open or OR open: a BRANCH that is not the last row stands there, all else does not
  module _ (q : ℕ) (h : is_and_or (number_of (kind d q)) ≡ true) where
    forked : follows d (q + 1) ≡ is_kind d branch (q + 1)
    unfolding is_and_or
    forked = ap (follows d) (add-one q) ∙ rw (h, add-one q)

    branched : part_of (number_of (kind d q)) ≡ Opens → is_kind d branch (q + 1) ≡ true → q + 1 + 1 < row_count d
        → nesting_fault d (q + 1) ≡ branch_fault (row d (q + 1)).first (number_of (kind d (q + 1 + 1))) (number_of (kind d q))
    unfolding part_of top_number
    branched opens b l =
        let inner : eqb (suc (q + 1)) (row_count d) ≡ false = ne_eqb (suc (q + 1)) (row_count d) (λ z. absurd (omega arith)) in
        let top : top_number (stack d (q + 1)) ≡ number_of (kind d q) = ap top_number (stack-next q Opens opens) in
        inside_is (q + 1) (forked ∙ b) inner ∙ rw (eqb-true (number_of (kind d (q + 1))) 18 b, top)

    unbranched : q + 1 < row_count d → (is_kind d branch (q + 1) && ltb (q + 1 + 1) (row_count d)) ≡ false → nesting_fault d (q + 1) ≡ 7
    unfolding nesting_fault nesting_broken last_fault
    unbranched l e = decide (is_kind d branch (q + 1))
        (λ b. let last : eqb (suc (q + 1)) (row_count d) ≡ true = eq-eqb (suc (q + 1)) (row_count d) (omega (arith, ltb-false (q + 1 + 1) (row_count d) (rw b at e))) in
        last-is (q + 1) (forked ∙ b) last ∙ rw (eqb-true (number_of (kind d (q + 1))) 18 b))
        (λ b. rw (forked, b))

  module _ (rows : ℕ) (table : List ℕ) (k : Kinds d rows table) where
    pub kind-is : (q : ℕ) → kind_in table rows q ≡ number_of (kind d q)
    unfolding kind_in
    kind-is q = decide (ltb q rows) (λ e. rw e (k.cell q (ltb-true q rows e)))
        (λ e. let past : row_count d ≤ q = omega (arith, k.count, ltb-false q rows e) in
        rw e (sym (ap number_of (kind-past d q past))))

    -- THEOREM: behind an AND open or OR open the code's fault is the definition's
    pub open-fault-is : (q : ℕ) → q + 1 < rows → is_and_or (kind_in table rows q) ≡ true → part_of (number_of (kind d q)) ≡ Opens
        → nesting_fault d (q + 1) ≡ open_fault table rows (q + 1) (kind_in table rows q)
    unfolding open_fault
    open-fault-is q l h opens =
        let fork : is_and_or (number_of (kind d q)) ≡ true = ap is_and_or (sym (kind-is q)) ∙ h in
        rw (kind-is (q + 1), kind-is (q + 1 + 1), kind-is q, k.first (q + 1) l, k.count)
        (decide (is_kind d branch (q + 1) && ltb (q + 1 + 1) (row_count d))
        (λ e. rw e (branched q fork opens (and_left (is_kind d branch (q + 1)) _ e) (ltb-true (q + 1 + 1) (row_count d) (and_right (is_kind d branch (q + 1)) _ e))))
        (λ e. rw e (unbranched q fork (omega (arith, k.count)) e)))

    top-shown : (fs : List Frame) (o : Open) → Shows d fs o → top_in table rows o ≡ top_number fs
    unfolding top_in top_number
    top-shown [] o s = rw s.depth
    top-shown (f ∷ fs) o s = rw (ne_eqb o.depth 0 (λ z. let h = s.depth in absurd (omega arith)), s.opened) (kind-is f.opened)

    module _ (q : ℕ) (o : Open) (s : Shows d (stack d q) o) (f : follows d q ≡ true) where
      -- THEOREM: anywhere else the code's fault is the definition's
      pub fault-is : (part : Part) → q + 1 < rows → part_of (kind_in table rows q) ≡ part → nesting_fault d q ≡ fault_in table rows q o part
      fault-is part l e =
          let inner : eqb (suc q) (row_count d) ≡ false = ne_eqb (suc q) (row_count d) (λ z. absurd (omega (arith, k.count))) in
          rw (← e, kind-is q, kind-is (q + 1), top-shown (stack d q) o s, k.first q (omega arith), s.branches, s.looped, s.boxed, s.depth) (inside_is q f inner)

      pub last-fault-is : q + 1 ≡ rows → nesting_fault d q ≡ last_fault (kind_in table rows q) (top_in table rows o)
      last-fault-is l = rw (kind-is q, top-shown (stack d q) o s) (last-is q f (eq-eqb (suc q) (row_count d) (omega (arith, k.count))))

  stopped : (a b : Bool) → not (a && (false && b)) ≡ true
  stopped true b = refl
  stopped false b = refl

  pub bare-faulty : (q : ℕ) → stack d q ≡ [] → ending (part_of (number_of (kind d q))) ≡ true → nesting_fault d q ≡ 7
  unfolding nesting_fault nesting_broken
  bare-faulty q e h =
      let s : stands_as d (kind d q) q (stack d q) ≡ false = ap (stands_as d (kind d q) q) e ∙ (rw h at ((shape (kind d q)).bare d q)) in
      rw (s, stopped (follows d q) (not (eqb (suc q) (row_count d)) || is_kind d end q))
