-- The net of an accepted diagram is well-formed.
use Prim.Native.Nat.{ℕ, zero, suc, ◌*◌, ◌≤◌, ◌<◌, zero-le}
use Rattle.std.specs.Prelude.{◌≡◌, Bool, false, cond, ◌&&◌, length, get_or, ltb, eqb}
use Rattle.std.proofs.Math.Path.{refl, subst}
use Rattle.std.proofs.Common.{sym, ◌∙◌, ap, arith, length-append}
use Rattle.std.proofs.Math.Bool.{true}
use mathlib.Core.List.{List, [], ◌∷◌, ◌++◌, map, append_assoc}
use Rattle.std.proofs.lemmas.List.{length-map}
use Rattle.std.proofs.Math.Dec.{leb}
use borrow.Author.Tests.{leb-true, lt-ltb, le-leb}
use Rattle.effbd.specs.Diagrams.{Diagram, Kind, Use, and_close, and_open, box_close, box_exit, box_open, branch, end, function, is_kind, is_trigger, it_close, it_open, item_total, kind, loop_exit, lp_close, lp_open, or_close, or_open, row, row_count, row_fine, row_fine_as}
use Rattle.effbd.specs.Counts.{Tally, copy, give_of, gives, gives_as, initial_count, shared, take_of, takes, takes_as, tally}
use Rattle.effbd.specs.Layout.{Count, P, Place, Q, R, by_place, place_of, places}
use Rattle.effbd.specs.Nesting.{box, branch_of, close, in_loop, loop, outlet, owner, scenario}
use Rattle.effbd.specs.Nets.{Arc, Transition, most_places, transition_fine}
use Rattle.effbd.specs.Patterns.{Name, Pattern, arcs_of, names, net_of, no_pattern, none, one_at, passes, patterns, patterns_as, restores_r, transition_of, pattern_of, fresh_mark, ranges_from}
use Rattle.effbd.specs.Ranges.{either, nobody, only, tabulate}
use Rattle.effbd.specs.States.{branch_entries, entered, killed}
use Rattle.agreement.specs.AcceptedFiles.{AllOf, Held, all-at}
use Rattle.agreement.specs.Counts.{counts-few, most-initial, most-le}
use Rattle.ranges.specs.Tests.{and_intro, and_left, and_right, decide}
use Rattle.ranges.specs.RangeLaws.{length-tab}
use Rattle.agreement.specs.Formed.{arcs_fine, marks_fine, transitions_fine, well_formed}
use Rattle.agreement.specs.Arcs.{arcs-made, later, ranges-made}
use Rattle.agreement.proofs.NetSteps.{many-marks}

map-append : {A B : Type 0} (f : A → B) (a b : List A) → map f (a ++ b) ≡ map f a ++ map f b
map-append f [] b = refl
map-append f (x ∷ a) b = ap (λ l. f x ∷ l) (map-append f a b)

unit-small : (S : ℕ → Bool) (x : ℕ) → one_at S x ≤ 65535
unit-small S x = decide (S x) (λ e. rw e (omega arith)) (λ e. rw e zero-le)

cond_small : (b : Bool) (x : ℕ) → x ≤ 65535 → cond b x 0 ≤ 65535
cond_small true x h = h
cond_small false x h = zero-le

-- a transition whose weights and times are words
record Light (t : Pattern) : Type 0 where
  takes : (p : Place) → t.take p ≤ 65535
  gives : (p : Place) → t.give p ≤ 65535
  order : t.earliest ≤ t.latest
  last : t.latest ≤ 65535

at_small : (p q r i : ℕ → ℕ) → ((x : ℕ) → p x ≤ 65535) → ((x : ℕ) → q x ≤ 65535) → ((x : ℕ) → r x ≤ 65535) → ((x : ℕ) → i x ≤ 65535) → (x : Place) → by_place p q r i x ≤ 65535
at_small p q r i a b c d (P x) = a x
at_small p q r i a b c d (Q x) = b x
at_small p q r i a b c d (R x) = c x
at_small p q r i a b c d (Count x) = d x

take-small : (us : List Use) → AllOf (λ (u : Use). (u.take ≤ 65535) × (u.give ≤ 65535)) us → (k : ℕ) → take_of us k ≤ 65535
take-small [] h k = zero-le
take-small (u ∷ us) h k = decide (eqb u.item k) (λ e. rw e h.0.0) (λ e. rw e (take-small us h.1 k))

give-small : (us : List Use) → AllOf (λ (u : Use). (u.take ≤ 65535) × (u.give ≤ 65535)) us → (k : ℕ) → give_of us k ≤ 65535
give-small [] h k = zero-le
give-small (u ∷ us) h k = decide (eqb u.item k) (λ e. rw e h.0.1) (λ e. rw e (give-small us h.1 k))

module _ (d : Diagram) (h : Held d) where
  take-word : (r : ℕ) (t : Tally) → takes_as d r t ≤ 65535
  take-word r (shared k) = decide (is_trigger d k) (λ e. rw e zero-le) (λ e. rw e (take-small (row d r).uses (h.each r).uses k))
  take-word r (copy k q) = cond_small (only q r) (take_of (row d r).uses k) (take-small (row d r).uses (h.each r).uses k)

  give-word : (r : ℕ) (t : Tally) → gives_as d r t ≤ 65535
  give-word r (shared k) = decide (is_trigger d k) (λ e. rw e zero-le) (λ e. rw e (give-small (row d r).uses (h.each r).uses k))
  give-word r (copy k q) = give-small (row d r).uses (h.each r).uses k

  takes-fit : (r c : ℕ) → takes d r c ≤ 65535
  unfolding takes
  takes-fit r c = take-word r (tally d c)

  gives-fit : (r c : ℕ) → gives d r c ≤ 65535
  unfolding gives
  gives-fit r c = give-word r (tally d c)

  starts_fit : (c : ℕ) → initial_count d c ≤ 65535
  starts_fit c = let a = most-initial d h.stocks c in let b = most-le d (tally d c) in omega arith

  nil : (x : ℕ) → none x ≤ 65535
  nil x = zero-le

  -- R given back at a set of rows; a transition that enters gives that, P of the rows it makes active, and maybe counts or one Q
  back-small : (W : ℕ → Bool) (q : ℕ) → restores_r d W q ≤ 65535
  back-small W q = cond_small (W q && is_kind d it_open q) (row d q).first (h.each q).first

  light-passes : (S W E : ℕ → Bool) → Light (passes d S W E)
  light-passes S W E = record { takes = at_small (one_at S) none none none (unit-small S) nil nil nil; gives = at_small (one_at E) none (restores_r d W) none (unit-small E) nil (back-small W) nil; order = zero-le; last = zero-le }

  ordered : (r : ℕ) → kind d r ≡ function → (row d r).first ≤ (row d r).second
  ordered r e = leb-true (row d r).first (row d r).second (and_left (leb (row d r).first (row d r).second) _ fine)
    where
      fine : row_fine_as function (item_total d) (row d r) ≡ true
      fine = subst (λ k. row_fine_as k (item_total d) (row d r) ≡ true) e (unfold row_fine in (h.each r).fine)

  lights : (r : ℕ) (k : Kind) → kind d r ≡ k → AllOf Light (patterns_as d k r)
  lights r function e = (
    record { takes = at_small _ _ _ _ (unit-small (only r)) nil nil (takes-fit r); gives = at_small _ _ _ _ nil (unit-small (only r)) nil nil; order = zero-le; last = zero-le },
    (
      record { takes = at_small _ _ _ _ nil (unit-small (only r)) nil nil; gives = at_small _ _ _ _ (unit-small (entered d (suc r))) nil (back-small (killed d (suc r))) (gives-fit r); order = ordered r e; last = (h.each r).second },
      tt,
    ),
  )
  lights r and_open e = (light-passes (only r) nobody (branch_entries d r), tt)
  lights r branch e = decide (is_kind d or_open (owner d r)) (λ z. rw z (light-passes (only (owner d r)) (killed d (suc r)) (entered d (suc r)), tt)) (λ z. rw z tt)
  lights r and_close e = (light-passes (branch_of d (owner d r)) (killed d (suc r)) (entered d (suc r)), tt)
  lights r or_open e = tt
  lights r or_close e = (light-passes (only r) (killed d (suc r)) (entered d (suc r)), tt)
  lights r it_open e = (
    record { takes = at_small _ _ _ _ (unit-small (only r)) nil (unit-small (only r)) nil; gives = at_small _ _ _ _ (unit-small (entered d (suc r))) (unit-small (only r)) (back-small (killed d (suc r))) nil; order = zero-le; last = zero-le },
    (
      record {
        takes = at_small _ _ _ _ (unit-small (only r)) (λ q. cond_small (only r q) (row d r).first (h.each r).first) nil nil;
        gives = at_small _ _ _ _ (unit-small (entered d (suc (close d r)))) nil (back-small (either (only r) (killed d (suc (close d r))))) nil;
        order = zero-le;
        last = zero-le;
      },
      tt,
    ),
  )
  lights r it_close e = (light-passes (only r) nobody (only (owner d r)), tt)
  lights r lp_open e = (light-passes (only r) (killed d (suc r)) (entered d (suc r)), tt)
  lights r lp_close e = (light-passes (only r) nobody (only (owner d r)), tt)
  lights r loop_exit e = (light-passes (only r) (either (in_loop d r) (killed d (suc (close d (loop d r))))) (entered d (suc (close d (loop d r)))), tt)
  lights r end e = tt
  lights r box_open e = (light-passes (only r) (killed d (suc r)) (entered d (suc r)), tt)
  lights r box_close e = (light-passes (only r) (killed d (suc r)) (entered d (suc r)), tt)
  lights r box_exit e = (light-passes (only r) (either (scenario d (box d r)) (killed d (suc (outlet d r)))) (entered d (suc (outlet d r))), tt)

  never-light : Light no_pattern
  never-light = record { takes = λ p. zero-le; gives = λ p. zero-le; order = zero-le; last = zero-le }

  light-at : (n : Name d) → Light (get_or (patterns d n.label) n.index no_pattern)
  light-at n = all-at Light (patterns d n.label) no_pattern (lights n.label (kind d n.label) refl) never-light n.index

  append-none : {A : Type 0} (l : List A) → l ++ [] ≡ l
  append-none [] = refl
  append-none (x ∷ l) = ap (λ y. x ∷ y) (append-none l)

  pub few-places : places d ≤ most_places
  few-places = let a = h.rows in let b = h.items in let c = counts-few d 63 h.works in omega arith

  arcs-fine : (n : Name d) → arcs_fine (places d) 35 0 (transition_of d n).arcs ≡ true
  unfolding transition_of
  arcs-fine n = arcs-made N 35 (omega arith) refl (λ p. t.take (place_of d p)) (λ p. k.takes (place_of d p)) N (omega arith) cs
      (later N 35 36 N cs (omega arith) (ranges-made N (λ p. t.clear (place_of d p)) (let a = few-places in omega arith) gs (subst (λ y. arcs_fine N 37 0 y ≡ true) (append-none gs)
      (arcs-made N 37 (omega arith) refl (λ p. t.give (place_of d p)) (λ p. k.gives (place_of d p)) N (omega arith) [] (unfold arcs_fine in refl))) N 0 (omega arith)))
    where
      N : ℕ
      N = places d

      t : Pattern
      t = pattern_of d n

      k : Light t
      k = light-at n

      gs : List Arc
      gs = arcs_of 37 N (λ p. t.give (place_of d p))

      cs : List Arc
      cs = ranges_from N 0 (λ p. t.clear (place_of d p)) ++ gs

  lower-label : (label label' : ℕ) (ts : List Transition) → label' ≤ label → transitions_fine (places d) label ts ≡ true → transitions_fine (places d) label' ts ≡ true
  unfolding transitions_fine transition_fine
  lower-label label label' [] l e = refl
  lower-label label label' (t ∷ ts) l e =
      let a = and_left (leb label t.label && (ltb t.label 64 && leb t.earliest t.latest)) _ e in
      let b = leb-true label t.label (and_left (leb label t.label) _ a) in
      and_intro (and_intro (le-leb label' t.label (omega arith)) (and_right (leb label t.label) _ a)) (and_right (leb label t.label && (ltb t.label 64 && leb t.earliest t.latest)) _ e)

  label_of : (n : Name d) → (transition_of d n).label ≡ n.label
  unfolding transition_of
  label_of n = refl

  -- the transitions of one row, before later ones
  row_made : (r : ℕ) → r < row_count d → (m : ℕ) (f : ℕ → Name d) → ((i : ℕ) → (f i).label ≡ r) → (ys : List Transition) → transitions_fine (places d) r ys ≡ true
      → transitions_fine (places d) r (map (transition_of d) (tabulate m f) ++ ys) ≡ true
  unfolding transitions_fine
  row_made r l zero f o ys e = e
  row_made r l (suc m) f o ys e = and_intro (head (o zero)) (and_intro (le-leb (transition_of d (f zero)).latest 65535 (unfold transition_of in k.last)) (and_intro (arcs-fine (f zero))
      (subst (λ x. transitions_fine (places d) x (map (transition_of d) (tabulate m (λ i. f (suc i))) ++ ys) ≡ true) (sym (label_of (f zero) ∙ o zero)) (row_made r l m (λ i. f (suc i)) (λ i. o (suc i)) ys e))))
    where
      k : Light (get_or (patterns d (f zero).label) (f zero).index no_pattern)
      k = light-at (f zero)

      head : (f zero).label ≡ r → transition_fine r (transition_of d (f zero)) ≡ true
      head z = unfold transition_fine transition_of in (let m = h.rows in and_intro (le-leb r (f zero).label (omega arith)) (and_intro (lt-ltb (f zero).label 64 (omega arith)) (le-leb _ _ k.order)))

  names-made : (n : ℕ) → n ≤ row_count d → (ys : List Transition) → transitions_fine (places d) n ys ≡ true → transitions_fine (places d) 0 (map (transition_of d) (names d n) ++ ys) ≡ true
  unfolding names
  names-made zero l ys e = e
  names-made (suc n) l ys e = rw (map-append (transition_of d) (names d n) (tabulate (length (patterns d n)) (λ i. record { label = n; index = i })), append_assoc)
      (names-made n (omega arith) _ (row_made n l (length (patterns d n)) (λ i. record { label = n; index = i }) (λ i. refl) ys (lower-label (suc n) n ys (omega arith) e)))

  few : (r : ℕ) (k : Kind) → length (patterns_as d k r) ≤ 2
  few r function = omega arith
  few r and_open = omega arith
  few r branch = decide (is_kind d or_open (owner d r)) (λ e. rw e (omega arith)) (λ e. rw e (omega arith))
  few r and_close = omega arith
  few r or_open = omega arith
  few r or_close = omega arith
  few r it_open = omega arith
  few r it_close = omega arith
  few r lp_open = omega arith
  few r lp_close = omega arith
  few r loop_exit = omega arith
  few r end = omega arith
  few r box_open = omega arith
  few r box_close = omega arith
  few r box_exit = omega arith

  names-few : (n : ℕ) → length (names d n) ≤ 2 * n
  unfolding names
  names-few zero = zero-le
  names-few (suc n) = rw (length-append (names d n) (tabulate (length (patterns d n)) (λ i. record { label = n; index = i })), length-tab {A = Name d} (length (patterns d n)) (λ i. record { label = n; index = i }))
      (let a = names-few n in let b = few n (kind d n) in omega arith)

  marks-made : (n : ℕ) (f : ℕ → ℕ) → ((i : ℕ) → f i ≤ 65535) → marks_fine (tabulate n f) ≡ true
  unfolding marks_fine
  marks-made zero f m = refl
  marks-made (suc n) f m = and_intro (le-leb (f zero) 65535 (m zero)) (marks-made n (λ i. f (suc i)) (λ i. m (suc i)))

  fresh-small : (p : Place) → fresh_mark d p ≤ 65535
  fresh-small = at_small (one_at (entered d 0)) none (restores_r d (λ q. true)) (initial_count d)
      (unit-small (entered d 0)) nil (back-small (λ q. true)) starts_fit

  -- THEOREM: the net of an accepted diagram is well-formed
  pub well-made : well_formed (net_of d) ≡ true
  unfolding well_formed
  well-made = rw (many-marks d) (and_intro (and_intro (le-leb 1 (places d) (let a = h.some in omega arith)) (and_intro (le-leb (places d) most_places few-places)
      (le-leb (length (net_of d).transitions) 128 few')))
      (and_intro marks all))
    where
      marks : marks_fine (net_of d).marks ≡ true
      marks = unfold net_of in marks-made (places d) (λ p. fresh_mark d (place_of d p)) (λ p. fresh-small (place_of d p))

      few' : length (net_of d).transitions ≤ 128
      few' = unfold net_of in rw (length-map (names d (row_count d)) (transition_of d)) (let a = names-few (row_count d) in let b = h.rows in omega arith)

      all : transitions_fine (places d) 0 (net_of d).transitions ≡ true
      all = unfold net_of in subst (λ y. transitions_fine (places d) 0 y ≡ true) (append-none (map (transition_of d) (names d (row_count d))))
          (names-made (row_count d) (omega arith) [] (unfold transitions_fine in refl))
