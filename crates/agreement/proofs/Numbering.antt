-- The net of a diagram by numbers steps as the net by names.
use Prim.Native.Nat.{ℕ, zero, suc, ◌+◌, ◌-◌, ◌*◌, ◌/◌, ◌%◌, ◌≤◌, ◌<◌}
use Rattle.std.specs.Prelude.{◌≡◌, ◌≢◌, Bool, true, false, ◌&&◌, eqb}
use Rattle.std.proofs.Math.Path.{refl, sym, ap, ap₂, subst, fun_ext}
use Rattle.std.proofs.Common.{◌∙◌, add-suc, suc-add}
use Rattle.std.proofs.Math.Bool.{not, cond}
use mathlib.Core.List.{List, [], ◌∷◌, ◌++◌, map, append_assoc, map-append}
use native.Mathlib.Omega.{arith}
use Rattle.std.proofs.Math.Nat.{add-zero, zero-add}
use Rattle.std.proofs.Math.ListN.{length, get_or, length-append, get_or-append}
use Rattle.std.proofs.Math.Seq.{get_or-append-add}
use Rattle.std.proofs.Math.Dec.{leb, ltb}
use borrow.Author.Tests.{ltb-true, ltb-false, eqb-true, eqb-false, lt-ltb, le-ltb, eq-eqb, ne_eqb}
use Rattle.effbd.specs.Answers.{Outcome, accepted, refused}
use Rattle.effbd.specs.Diagrams.{Diagram, row_count}
use Rattle.effbd.specs.Counts.{count_total}
use Rattle.effbd.specs.Firing.{Effect, NetState, covers, fire, fire_lowest, fired_state, lets_pass, net_wait, no_effect, taken_and_cleared, ticked_state, overflows}
use Rattle.effbd.specs.Layout.{Count, P, Place, Q, R, place_of}
use Rattle.effbd.specs.Patterns.{Name, Pattern, names, no_pattern, patterns, patterns_as}
use Rattle.effbd.specs.Ranges.{all_below, only, tabulate, least}
use Rattle.ranges.specs.Tests.{and_intro, and_left, and_right, clash, decide, not-not}
use Rattle.ranges.specs.RangeLaws.{all-elim, all-intro, only-refl, least-ext, all-ext, get_d-tab, length-tab, tab-ext}
use Rattle.agreement.specs.Basics.{kind-past}
use Rattle.agreement.specs.Named.{NamedState, after, all_places, behaviour, enabled, flat_net, lift, named_fire, named_lets, named_step, named_step_at, named_tick, named_wait, lowest_over}
use Rattle.agreement.proofs.Matching.{RowPlace}
use Rattle.agreement.specs.Tokens.{Real}
use Rattle.agreement.proofs.Tokens.{places-elim, places-intro}

pub length-map : {A B : Type 0} (f : A → B) (l : List A) → length (map f l) ≡ length l
length-map f [] = refl
length-map f (x ∷ xs) = ap suc (length-map f xs)

pub get_d_map : {A B : Type 0} (f : A → B) (l : List A) (x : ℕ) (a : A) (b : B) → x < length l → get_or (map f l) x b ≡ f (get_or l x a)
get_d_map f [] x a b l = absurd (omega arith)
get_d_map f (y ∷ ys) zero a b l = refl
get_d_map f (y ∷ ys) (suc x) a b l = get_d_map f ys x a b (omega arith)

module _ (d : Diagram) where
  pub place-P : (r : ℕ) → r < row_count d → place_of d (3 * r) ≡ P r
  unfolding place_of
  place-P r l = rw (lt-ltb (3 * r) (3 * row_count d) (omega arith), eq-eqb ((3 * r) % 3) 0 (omega arith)) (ap P (omega arith))

  pub place-Q : (r : ℕ) → r < row_count d → place_of d (3 * r + 1) ≡ Q r
  unfolding place_of
  place-Q r l = rw (lt-ltb (3 * r + 1) (3 * row_count d) (omega arith), ne_eqb ((3 * r + 1) % 3) 0 (omega arith), eq-eqb ((3 * r + 1) % 3) 1 (omega arith)) (ap Q (omega arith))

  pub place-R : (r : ℕ) → r < row_count d → place_of d (3 * r + 2) ≡ R r
  unfolding place_of
  place-R r l = rw (lt-ltb (3 * r + 2) (3 * row_count d) (omega arith), ne_eqb ((3 * r + 2) % 3) 0 (omega arith), ne_eqb ((3 * r + 2) % 3) 1 (omega arith)) (ap R (omega arith))

  pub place-I : (k : ℕ) → place_of d (3 * row_count d + k) ≡ Count k
  unfolding place_of
  place-I k = rw (le-ltb (3 * row_count d + k) (3 * row_count d) (omega arith)) (ap Count (omega arith))

  pub place-row : (p : ℕ) → p < 3 * row_count d → RowPlace d (place_of d p)
  unfolding place_of
  place-row p l = rw (lt-ltb p (3 * row_count d) l) (decide (eqb (p % 3) 0) (λ f. rw f tt) (λ f. rw f (decide (eqb (p % 3) 1) (λ g. rw g tt) (λ g. rw g tt))))

  pub place-real : (p : ℕ) → p < 3 * row_count d + count_total d → Real d (place_of d p)
  unfolding place_of
  place-real p l = decide (ltb p (3 * row_count d))
      (λ e. let h = ltb-true p (3 * row_count d) e in let b : p / 3 < row_count d = omega arith in
      rw e (decide (eqb (p % 3) 0) (λ f. rw f b) (λ f. rw f (decide (eqb (p % 3) 1) (λ g. rw g b) (λ g. rw g b)))))
      (λ e. let h = ltb-false p (3 * row_count d) e in rw e (omega arith))

  -- all places by number are all places
  all-places : (f : Place → Bool) → all_below (3 * row_count d + count_total d) (λ p. f (place_of d p)) ≡ all_places d f
  all-places f = decide (all_places d f)
      (λ e. all-intro (3 * row_count d + count_total d) (λ p. f (place_of d p)) (λ p l. places-elim d f e (place_of d p) (place-real p l)) ∙ sym e)
      (λ e. decide (all_below (3 * row_count d + count_total d) (λ p. f (place_of d p)))
      (λ h. clash (places-intro d f (by h)) e)
      (λ h. h ∙ sym e))
    where
      by : all_below (3 * row_count d + count_total d) (λ p. f (place_of d p)) ≡ true → (p : Place) → Real d p → f p ≡ true
      by h (P r) l = rw (← place-P r l) (all-elim (3 * row_count d + count_total d) (λ p. f (place_of d p)) h (3 * r) (omega arith))
      by h (Q r) l = rw (← place-Q r l) (all-elim (3 * row_count d + count_total d) (λ p. f (place_of d p)) h (3 * r + 1) (omega arith))
      by h (R r) l = rw (← place-R r l) (all-elim (3 * row_count d + count_total d) (λ p. f (place_of d p)) h (3 * r + 2) (omega arith))
      by h (Count k) l = rw (← place-I k) (all-elim (3 * row_count d + count_total d) (λ p. f (place_of d p)) h (3 * row_count d + k) (omega arith))

  unfoldable pub none : Name d
  none = record { label = 0; index = 0 }

  unfoldable pub marks_of : (Place → ℕ) → List ℕ
  marks_of m = tabulate (3 * row_count d + count_total d) (λ p. m (place_of d p))

  unfoldable pub tr : Name d → Pattern
  tr x = get_or (patterns d x.label) x.index no_pattern

  pub enabled-flat : (x : Name d) (m : Place → ℕ) → covers (behaviour d) (lift d x) (marks_of m) ≡ enabled d (tr x) m
  unfolding covers lift marks_of tr
  enabled-flat x m = all-ext (3 * row_count d + count_total d) (λ p. leb ((tr x).take (place_of d p)) (get_or (marks_of m) p 0)) (λ p. leb ((tr x).take (place_of d p)) (m (place_of d p)))
      (λ p l. ap (leb ((tr x).take (place_of d p))) (get_d-tab (3 * row_count d + count_total d) (λ y. m (place_of d y)) p 0 l))
      ∙ all-places (λ y. leb ((tr x).take y) (m y))

  after-flat : (x : Name d) (m : Place → ℕ) → taken_and_cleared (behaviour d) (lift d x) (marks_of m) ≡ marks_of (after (tr x) m)
  unfolding taken_and_cleared lift marks_of tr
  after-flat x m = tab-ext (3 * row_count d + count_total d) _ _
      (λ p l. ap (λ y. cond ((tr x).clear (place_of d p)) 0 (y - (tr x).take (place_of d p))) (get_d-tab (3 * row_count d + count_total d) (λ y. m (place_of d y)) p 0 l))

  over-flat : (x : Name d) (m : Place → ℕ) (clocks : List ℕ) (p : ℕ) → p < 3 * row_count d + count_total d
      → overflows (behaviour d) (lift d x) (record { marks = marks_of m; clocks = clocks }) p ≡ not (leb (after (tr x) m (place_of d p) + (tr x).give (place_of d p)) 65535)
  unfolding overflows lift tr
  over-flat x m clocks p l = ap (λ y. not (leb (y + (tr x).give (place_of d p)) 65535))
      (ap (λ y. get_or y p 0) (after-flat x m) ∙ (unfold marks_of in get_d-tab (3 * row_count d + count_total d) (λ y. after (tr x) m (place_of d y)) p 0 l))

  fits-flat : (x : Name d) (m : Place → ℕ) (clocks : List ℕ)
      → all_below (3 * row_count d + count_total d) (λ p. not (overflows (behaviour d) (lift d x) (record { marks = marks_of m; clocks = clocks }) p))
      ≡ all_places d (λ p. leb (after (tr x) m p + (tr x).give p) 65535)
  fits-flat x m clocks = all-ext (3 * row_count d + count_total d) _ (λ p. leb (after (tr x) m (place_of d p) + (tr x).give (place_of d p)) 65535)
      (λ p l. ap not (over-flat x m clocks p l) ∙ not-not (leb (after (tr x) m (place_of d p) + (tr x).give (place_of d p)) 65535))
      ∙ all-places (λ y. leb (after (tr x) m y + (tr x).give y) 65535)

  lowest-flat : (x : Name d) (m : Place → ℕ) (clocks : List ℕ)
      → least (3 * row_count d + count_total d) (overflows (behaviour d) (lift d x) (record { marks = marks_of m; clocks = clocks })) ≡ lowest_over d (tr x) m
  lowest-flat x m clocks = least-ext (3 * row_count d + count_total d) _ _ (λ p l. over-flat x m clocks p l)

  -- the numbering of the transitions
  pub name-at : (n x : ℕ) → x < length (names d n) → ((get_or (names d n) x none).label < n)
      × ((get_or (names d n) x none).index < length (patterns d (get_or (names d n) x none).label)) × (length (names d (get_or (names d n) x none).label) + (get_or (names d n) x none).index ≡ x)
  unfolding names
  name-at zero x l = absurd (omega arith)
  name-at (suc n) x l = decide (ltb x (length (names d n)))
      (λ e. let h = ltb-true x (length (names d n)) e in let w = name-at n x h in
      rw (get_or-append (names d n) row none x h) (let a = w.0 in omega arith, w.1, w.2))
      (λ e. let h = ltb-false x (length (names d n)) e in
      let y = x - length (names d n) in
      let s : x ≡ length (names d n) + y = omega arith in
      let k : y < length (patterns d n) = omega (arith, length-append (names d n) row, length-tab (length (patterns d n)) at') in
      let g : get_or (names d n ++ row) x none ≡ record { label = n; index = y } = ap (λ z. get_or (names d n ++ row) z none) s ∙ (get_or-append-add (names d n) row y none ∙ get_d-tab (length (patterns d n)) at' y none k) in
      rw g (omega arith, k, sym s))
    where
      at' : ℕ → Name d
      at' i = record { label = n; index = i }

      row : List (Name d)
      row = tabulate (length (patterns d n)) at'

  pub map-tab : {A B : Type 0} (f : A → B) (l : List A) (a : A) → map f l ≡ tabulate (length l) (λ x. f (get_or l x a))
  map-tab f [] a = refl
  map-tab f (y ∷ ys) a = ap (λ r. f y ∷ r) (map-tab f ys a)

  -- clocks by number
  clock-flat : (n : NamedState) (x : ℕ) → x < length (names d (row_count d)) → get_or (flat_net d n).clocks x 0 ≡ n.clock (get_or (names d (row_count d)) x none).label (get_or (names d (row_count d)) x none).index
  unfolding flat_net
  clock-flat n x l = get_d_map (λ (y : Name d). n.clock y.label y.index) (names d (row_count d)) x none 0 l

  fire-flat : (r i : ℕ) (n : NamedState) (j : ℕ) → j < length (names d (row_count d)) → get_or (names d (row_count d)) j none ≡ record { label = r; index = i }
      → fired_state (behaviour d) j (lift d (record { label = r; index = i })) (flat_net d n) ≡ flat_net d (named_fire d r i (tr (record { label = r; index = i })) n)
  unfolding fired_state flat_net lift tr marks_of
  fire-flat r i n j l e = λ z. record { marks = marks z; clocks = clocks z }
    where
      w : Name d
      w = record { label = r; index = i }

      ns : List (Name d)
      ns = names d (row_count d)

      n' : NamedState
      n' = named_fire d r i (tr w) n

      marks : tabulate (3 * row_count d + count_total d) (λ p. get_or (taken_and_cleared (behaviour d) (lift d w) (marks_of n.mark)) p 0 + (lift d w).give p) ≡ marks_of n'.mark
      marks = rw (after-flat w n.mark) (tab-ext (3 * row_count d + count_total d) _ _
          (λ p h. ap (λ y. y + (tr w).give (place_of d p)) (get_d-tab (3 * row_count d + count_total d) (λ y. after (tr w) n.mark (place_of d y)) p 0 h)))

      at_x : (x : ℕ) → x < length ns
          → cond (only j x) 0 (cond (covers (behaviour d) (get_or (map (lift d) ns) x no_effect) (taken_and_cleared (behaviour d) (lift d w) (marks_of n.mark))) (get_or (flat_net d n).clocks x 0) 0)
          ≡ n'.clock (get_or ns x none).label (get_or ns x none).index
      at_x x h = rw (after-flat w n.mark, get_d_map (lift d) ns x none no_effect h, enabled-flat (get_or ns x none) (after (tr w) n.mark), clock-flat n x h)
          (ap (λ b. cond b 0 (cond (enabled d (tr (get_or ns x none)) (after (tr w) n.mark)) (n.clock (get_or ns x none).label (get_or ns x none).index) 0)) here)
        where
          here : only j x ≡ (only r (get_or ns x none).label && only i (get_or ns x none).index)
          here = decide (only j x)
              (λ f. let z : x ≡ j = eqb-true x j f in rw (z, e, only-refl j, only-refl r, only-refl i))
              (λ f. decide (only r (get_or ns x none).label && only i (get_or ns x none).index)
              (λ g. let a = eqb-true (get_or ns x none).label r (and_left (only r (get_or ns x none).label) (only i (get_or ns x none).index) g) in
              let b = eqb-true (get_or ns x none).index i (and_right (only r (get_or ns x none).label) (only i (get_or ns x none).index) g) in
              let u : length (names d r) + i ≡ x = rw (a, b) at (name-at (row_count d) x h).2 in
              let v : length (names d r) + i ≡ j = rw e at (name-at (row_count d) j l).2 in
              absurd (eqb-false x j f (sym u ∙ v)))
              (λ g. f ∙ sym g))

      clocks : tabulate (length (map (lift d) ns)) (λ x. cond (only j x) 0 (cond (covers (behaviour d) (get_or (map (lift d) ns) x no_effect) (taken_and_cleared (behaviour d) (lift d w) (marks_of n.mark))) (get_or (flat_net d n).clocks x 0) 0))
          ≡ map (λ (x : Name d). n'.clock x.label x.index) ns
      clocks = rw (length-map (lift d) ns) (tab-ext (length ns) _ _ at_x ∙ sym (map-tab (λ (x : Name d). n'.clock x.label x.index) ns none))

  abbrev pub ans : Outcome NamedState → Outcome NetState
  ans (accepted n) = accepted (flat_net d n)
  ans (refused a b) = refused a b

  unfoldable pub nm : ℕ → ℕ → Name d
  nm q i = record { label = q; index = i }

  module _ (r : ℕ) (n : NamedState) where
    go : List Effect → ℕ → Outcome NetState
    go ts j = fire_lowest (behaviour d) ts j r (flat_net d n)

    -- a row of another label is passed over
    other_row : (q k i j : ℕ) (rest : List Effect) → q ≢ r → go (map (lift d) (tabulate k (λ x. nm q (i + x))) ++ rest) j ≡ go rest (j + k)
    unfolding go fire_lowest lift nm
    other_row q zero i j rest h = rw add-zero
    other_row q (suc k) i j rest h = rw (ne_eqb q r h) (ap (λ f. go (map (lift d) (tabulate k f) ++ rest) (suc j)) (fun_ext (λ x. ap (nm q) (add-suc i x ∙ sym (suc-add i x))))
        ∙ (other_row q k (suc i) (suc j) rest h ∙ ap (go rest) (omega arith)))

    row_of : ℕ → List (Name d)
    row_of q = tabulate (length (patterns d q)) (λ x. nm q (0 + x))

    names-suc : (m : ℕ) → names d (suc m) ≡ names d m ++ row_of m
    unfolding names row_of nm
    names-suc m = ap (λ f. names d m ++ tabulate (length (patterns d m)) f) (fun_ext (λ x. ap (nm m) (omega arith)))

    length-names-suc : (m : ℕ) → length (names d (suc m)) ≡ length (names d m) + length (patterns d m)
    unfolding names
    length-names-suc m = length-append (names d m) (tabulate (length (patterns d m)) (λ i. record { label = m; index = i })) ∙ ap (λ x. length (names d m) + x) (length-tab (length (patterns d m)) (λ i. record { label = m; index = i }))

    split-names : (m : ℕ) (rest : List Effect) → map (lift d) (names d (suc m)) ++ rest ≡ map (lift d) (names d m) ++ (map (lift d) (row_of m) ++ rest)
    split-names m rest = ap (λ x. map (lift d) x ++ rest) (names-suc m) ∙ (ap (λ x. x ++ rest) (map-append (lift d) (names d m) (row_of m)) ∙ append_assoc (map (lift d) (names d m)) (map (lift d) (row_of m)) rest)

    rows_before : (m : ℕ) → m ≤ r → (rest : List Effect) → go (map (lift d) (names d m) ++ rest) 0 ≡ go rest (length (names d m))
    unfolding names row_of
    rows_before zero l rest = refl
    rows_before (suc m) l rest = ap (λ x. go x 0) (split-names m rest) ∙ (rows_before m (omega arith) (map (lift d) (row_of m) ++ rest)
        ∙ (other_row m (length (patterns d m)) 0 (length (names d m)) rest (omega arith) ∙ ap (go rest) (sym (length-names-suc m))))

    -- the number of a name
    pub name_of : (m i : ℕ) → r < m → i < length (patterns d r) → (length (names d r) + i < length (names d m)) × (get_or (names d m) (length (names d r) + i) none ≡ nm r i)
    unfolding names nm
    name_of zero i l h = absurd (omega arith)
    name_of (suc m) i l h = decide (eqb r m)
        (λ e. let z = eqb-true r m e in subst (λ m. (length (names d r) + i < length (names d (suc m))) × (get_or (names d (suc m)) (length (names d r) + i) none ≡ nm r i)) z
        ((let c = length-names-suc r in omega arith), get_or-append-add (names d r) (row r) i none ∙ get_d-tab (length (patterns d r)) (nm r) i none h))
        (λ e. let ne : r ≢ m = eqb-false r m e in
        let w = name_of m i (omega arith) h in
        let b : length (names d r) + i < length (names d m) = w.0 in
        ((let c = length-names-suc m in omega arith), get_or-append (names d m) (row m) none (length (names d r) + i) b ∙ w.1))
      where
        row : ℕ → List (Name d)
        row q = tabulate (length (patterns d q)) (nm q)

    ans-cond : (b : Bool) (x y : Outcome NamedState) → ans (cond b x y) ≡ cond b (ans x) (ans y)
    ans-cond true x y = refl
    ans-cond false x y = refl

    tried : ℕ → Pattern → Outcome NamedState
    tried i t = cond (ltb (n.clock r i) t.earliest) (refused 24 (t.earliest - n.clock r i))
        (cond (all_places d (λ p. leb (after t n.mark p + t.give p) 65535)) (accepted (named_fire d r i t n)) (refused 25 (lowest_over d t n.mark)))

    try-flat : (i j : ℕ) → j < length (names d (row_count d)) → get_or (names d (row_count d)) j none ≡ nm r i
        → fire (behaviour d) j (lift d (nm r i)) (flat_net d n) ≡ ans (tried i (tr (nm r i)))
    unfolding fire tried nm lift tr flat_net marks_of
    try-flat i j l e = sym (ans-cond (ltb (n.clock r i) t.earliest) (refused 24 (t.earliest - n.clock r i)) inner ∙ ap (λ x. cond (ltb (n.clock r i) t.earliest) (refused 24 (t.earliest - n.clock r i)) x)
        (ans-cond fits (accepted (named_fire d r i t n)) (refused 25 (lowest_over d t n.mark)))
        ∙ sym outer)
      where
        t : Pattern
        t = tr (nm r i)

        fits : Bool
        fits = all_places d (λ p. leb (after t n.mark p + t.give p) 65535)

        inner : Outcome NamedState
        inner = cond fits (accepted (named_fire d r i t n)) (refused 25 (lowest_over d t n.mark))

        c : get_or (flat_net d n).clocks j 0 ≡ n.clock r i
        c = clock-flat n j l ∙ ap (λ (x : Name d). n.clock x.label x.index) e

        outer : fire (behaviour d) j (lift d (nm r i)) (flat_net d n) ≡ cond (ltb (n.clock r i) t.earliest) (refused 24 (t.earliest - n.clock r i)) (cond fits (accepted (flat_net d (named_fire d r i t n))) (refused 25 (lowest_over d t n.mark)))
        outer = rw (c, fire-flat r i n j l e, lowest-flat (nm r i) n.mark (flat_net d n).clocks)
            (ap (λ b. cond (ltb (n.clock r i) t.earliest) (refused 24 (t.earliest - n.clock r i)) (cond b (accepted (flat_net d (named_fire d r i t n))) (refused 25 (lowest_over d t n.mark)))) (fits-flat (nm r i) n.mark (flat_net d n).clocks))

    first-try : (i j : ℕ) (later : List Effect) → j < length (names d (row_count d)) → get_or (names d (row_count d)) j none ≡ nm r i
        → go (lift d (nm r i) ∷ later) j ≡ cond (enabled d (tr (nm r i)) n.mark) (ans (tried i (tr (nm r i)))) (go later (suc j))
    unfolding go fire_lowest lift nm flat_net marks_of
    first-try i j later l e =
        let b : (eqb r r && covers (behaviour d) (lift d (nm r i)) (flat_net d n).marks) ≡ enabled d (tr (nm r i)) n.mark = rw (only-refl r) (enabled-flat (nm r i) n.mark) in
        ap₂ (λ x y. cond x y (go later (suc j))) b (try-flat i j l e)

    -- the row itself
    own_row : (ts : List Pattern) (i : ℕ) (rest : List Effect) → r < row_count d → i + length ts ≡ length (patterns d r)
        → ((x : ℕ) → x < length ts → get_or (patterns d r) (i + x) no_pattern ≡ get_or ts x no_pattern) → ((j : ℕ) → go rest j ≡ refused 22 r)
        → go (map (lift d) (tabulate (length ts) (λ x. nm r (i + x))) ++ rest) (length (names d r) + i) ≡ ans (named_step_at d ts i r n)
    unfolding tr nm tried
    own_row [] i rest l c h dead = dead (length (names d r) + i)
    own_row (t ∷ ts) i rest l c h dead = here (own_row ts (suc i) rest l (omega arith) (λ x m. ap (λ y. get_or (patterns d r) y no_pattern) (suc-add i x ∙ sym (add-suc i x)) ∙ h (suc x) (omega arith)) dead)
      where
        j : ℕ
        j = length (names d r) + i

        w : (j < length (names d (row_count d))) × (get_or (names d (row_count d)) j none ≡ nm r i)
        w = name_of (row_count d) i l (omega arith)

        is-t : tr (nm r i) ≡ t
        is-t = rw add-zero at (h 0 (omega arith))

        later : List Effect
        later = map (lift d) (tabulate (length ts) (λ x. nm r (suc i + x))) ++ rest

        same-list : lift d (nm r (i + 0)) ∷ (map (lift d) (tabulate (length ts) (λ x. nm r (i + suc x))) ++ rest) ≡ lift d (nm r i) ∷ later
        same-list = ap₂ ◌∷◌ (ap (λ y. lift d (nm r y)) (add-zero i)) (ap (λ f. map (lift d) (tabulate (length ts) f) ++ rest) (fun_ext (λ x. ap (nm r) (add-suc i x ∙ sym (suc-add i x)))))

        here : go later (length (names d r) + suc i) ≡ ans (named_step_at d ts (suc i) r n)
            → go (map (lift d) (tabulate (length (t ∷ ts)) (λ x. nm r (i + x))) ++ rest) j ≡ ans (named_step_at d (t ∷ ts) i r n)
        here ih = ap (λ z. go z j) same-list ∙ (first-try i j later w.0 w.1
            ∙ (ap (λ (y : Pattern). cond (enabled d y n.mark) (ans (tried i y)) (go later (suc j))) is-t
            ∙ (ap (λ z. cond (enabled d t n.mark) (ans (tried i t)) z) (ap (go later) (sym (add-suc (length (names d r)) i)) ∙ ih)
            ∙ sym (ans-cond (enabled d t n.mark) (tried i t) (named_step_at d ts (suc i) r n)))))

    rows_upto : (m : ℕ) → r < m → r < row_count d → (rest : List Effect) → ((j : ℕ) → go rest j ≡ refused 22 r)
        → go (map (lift d) (names d m) ++ rest) 0 ≡ ans (named_step_at d (patterns d r) 0 r n)
    unfolding row_of
    rows_upto zero l k rest dead = absurd (omega arith)
    rows_upto (suc m) l k rest dead = ap (λ x. go x 0) (split-names m rest) ∙ decide (eqb r m)
        (λ e. let z = eqb-true r m e in
        subst (λ m. go (map (lift d) (names d m) ++ (map (lift d) (row_of m) ++ rest)) 0 ≡ ans (named_step_at d (patterns d r) 0 r n)) z
        (rows_before r (omega arith) (map (lift d) (row_of r) ++ rest)
        ∙ (ap (go (map (lift d) (row_of r) ++ rest)) (sym (add-zero (length (names d r))))
        ∙ own_row (patterns d r) 0 rest k (omega arith) (λ x h. ap (λ y. get_or (patterns d r) y no_pattern) (zero-add x)) dead)))
        (λ e. let ne : r ≢ m = eqb-false r m e in
        rows_upto m (omega arith) k (map (lift d) (row_of m) ++ rest) (λ j. other_row m (length (patterns d m)) 0 j rest (λ z. ne (sym z)) ∙ dead (j + length (patterns d m))))

    pub step-flat : fire_lowest (behaviour d) (map (lift d) (names d (row_count d))) 0 r (flat_net d n) ≡ ans (named_step d r n)
    unfolding go fire_lowest
    step-flat = decide (ltb r (row_count d))
        (λ e. let l = ltb-true r (row_count d) e in ap (λ x. go x 0) (sym (append-nil (map (lift d) (names d (row_count d))))) ∙ rows_upto (row_count d) l l [] (λ j. refl))
        (λ e. let l : row_count d ≤ r = ltb-false r (row_count d) e in
        ap (λ x. go x 0) (sym (append-nil (map (lift d) (names d (row_count d))))) ∙ (rows_before (row_count d) l [] ∙ sym (ap (λ k. ans (named_step_at d (patterns_as d k r) 0 r n)) (kind-past d r l))))
      where
        append-nil : (l : List Effect) → l ++ [] ≡ l
        append-nil [] = refl
        append-nil (x ∷ xs) = ap (λ y. x ∷ y) (append-nil xs)

  -- waits
  module _ (n : ℕ) (m : NamedState) where
    ns : List (Name d)
    ns = names d (row_count d)

    -- what one transition says
    says : Name d → Bool
    says x = not (enabled d (tr x) m.mark && ltb (tr x).latest (m.clock x.label x.index + n))

    lets_by : (x : ℕ) → x < length ns → lets_pass (behaviour d) n (flat_net d m) x ≡ says (get_or ns x none)
    unfolding lets_pass says ns flat_net marks_of lift tr
    lets_by x l = rw (get_d_map (lift d) ns x none no_effect l) (ap₂ (λ b c. not (b && ltb (tr (get_or ns x none)).latest (c + n))) (enabled-flat (get_or ns x none) m.mark) (clock-flat m x l))

    -- a row's transitions from the j-th on
    row-intro : (q : ℕ) (ts : List Pattern) (j : ℕ) → ((i : ℕ) → i < length ts → not (enabled d (get_or ts i no_pattern) m.mark && ltb (get_or ts i no_pattern).latest (m.clock q (j + i) + n)) ≡ true)
        → named_lets d ts j q n m ≡ true
    row-intro q [] j h = refl
    row-intro q (t ∷ ts) j h = and_intro (rw add-zero at (h 0 (omega arith))) (row-intro q ts (suc j)
        (λ i l. subst (λ y. not (enabled d (get_or ts i no_pattern) m.mark && ltb (get_or ts i no_pattern).latest (m.clock q y + n)) ≡ true) (add-suc j i ∙ sym (suc-add j i)) (h (suc i) (omega arith))))

    row-elim : (q : ℕ) (ts : List Pattern) (j : ℕ) → named_lets d ts j q n m ≡ true → (i : ℕ) → i < length ts
        → not (enabled d (get_or ts i no_pattern) m.mark && ltb (get_or ts i no_pattern).latest (m.clock q (j + i) + n)) ≡ true
    row-elim q [] j h i l = absurd (omega arith)
    row-elim q (t ∷ ts) j h zero l = rw add-zero (and_left (not (enabled d t m.mark && ltb t.latest (m.clock q j + n))) (named_lets d ts (suc j) q n m) h)
    row-elim q (t ∷ ts) j h (suc i) l = subst (λ y. not (enabled d (get_or ts i no_pattern) m.mark && ltb (get_or ts i no_pattern).latest (m.clock q y + n)) ≡ true) (suc-add j i ∙ sym (add-suc j i))
        (row-elim q ts (suc j) (and_right (not (enabled d t m.mark && ltb t.latest (m.clock q j + n))) (named_lets d ts (suc j) q n m) h) i (omega arith))

    all-lets : all_below (length ns) (lets_pass (behaviour d) n (flat_net d m)) ≡ all_below (row_count d) (λ q. named_lets d (patterns d q) 0 q n m)
    unfolding says ns tr nm
    all-lets = decide (all_below (row_count d) (λ q. named_lets d (patterns d q) 0 q n m))
        (λ e. all-intro (length ns) (lets_pass (behaviour d) n (flat_net d m)) (λ x l. let w = name-at (row_count d) x l in
        lets_by x l ∙ (rw zero-add at (row-elim (get_or ns x none).label (patterns d (get_or ns x none).label) 0 (all-elim (row_count d) (λ q. named_lets d (patterns d q) 0 q n m) e (get_or ns x none).label w.0) (get_or ns x none).index w.1))) ∙ sym e)
        (λ e. decide (all_below (length ns) (lets_pass (behaviour d) n (flat_net d m)))
        (λ h. clash (all-intro (row_count d) (λ q. named_lets d (patterns d q) 0 q n m) (λ q lq. row-intro q (patterns d q) 0 (λ i li.
        let w = name_of q m (row_count d) i lq li in
        let x = length (names d q) + i in
        rw zero-add (subst (λ (y : Name d). says y ≡ true) w.1 (sym (lets_by x w.0) ∙ all-elim (length ns) (lets_pass (behaviour d) n (flat_net d m)) h x w.0))))) e)
        (λ h. h ∙ sym e))

    tick-flat : ticked_state (behaviour d) n (flat_net d m) ≡ flat_net d (named_tick d n m)
    unfolding ticked_state flat_net ns marks_of tr
    tick-flat = λ z. record { marks = marks_of m.mark; clocks = clocks z }
      where
        at_x : (x : ℕ) → x < length ns → cond (covers (behaviour d) (get_or (map (lift d) ns) x no_effect) (marks_of m.mark)) (get_or (flat_net d m).clocks x 0 + n) (get_or (flat_net d m).clocks x 0)
            ≡ (named_tick d n m).clock (get_or ns x none).label (get_or ns x none).index
        at_x x h = rw (
          get_d_map (lift d) ns x none no_effect h,
          enabled-flat (get_or ns x none) m.mark,
          clock-flat m x h,
          lt-ltb (get_or ns x none).index (length (patterns d (get_or ns x none).label)) (name-at (row_count d) x h).1,
        )

        clocks : tabulate (length (map (lift d) ns)) (λ x. cond (covers (behaviour d) (get_or (map (lift d) ns) x no_effect) (marks_of m.mark)) (get_or (flat_net d m).clocks x 0 + n) (get_or (flat_net d m).clocks x 0))
            ≡ map (λ (x : Name d). (named_tick d n m).clock x.label x.index) ns
        clocks = rw (length-map (lift d) ns) (tab-ext (length ns) _ _ at_x ∙ sym (map-tab (λ (x : Name d). (named_tick d n m).clock x.label x.index) ns none))

    pub wait-flat : net_wait (behaviour d) n (flat_net d m) ≡ ans (named_wait d n m)
    unfolding net_wait ns
    wait-flat = decide (eqb n 0) (λ e. rw e) (λ e. rw (e, length-map (lift d) (names d (row_count d)), all-lets, tick-flat)
        (decide (all_below (row_count d) (λ q. named_lets d (patterns d q) 0 q n m)) (λ f. rw f) (λ f. rw f)))
