-- Stepping the net of a diagram as its file has it is stepping the net by its patterns.
use Prim.Native.Nat.{ℕ, zero, suc, ◌+◌, ◌-◌, ◌<◌}
use Rattle.std.specs.Prelude.{◌≡◌, true, false, ◌&&◌, ◌||◌, length, eqb}
use Rattle.std.proofs.Math.Path.{refl, ap, ap₂}
use Rattle.std.proofs.Common.{sym, ◌∙◌, arith}
use Rattle.std.proofs.Math.Bool.{Bool, not, cond}
use mathlib.Core.List.{List, [], ◌∷◌, ◌++◌, map, map-map}
use Rattle.std.proofs.Math.ListN.{get_or}
use Rattle.std.proofs.lemmas.List.{length-map}
use Rattle.std.proofs.Math.Dec.{leb, ltb}
use Rattle.effbd.specs.Answers.{Outcome, accepted, refused}
use Rattle.effbd.specs.Diagrams.{Diagram, row_count}
use Rattle.effbd.specs.Firing.{Behaviour, Effect, NetState, behaviour_of, covers, effect_of, fire, fire_lowest, fired_state, lets_pass, net_move, net_wait, no_effect, overflows, taken_and_cleared, ticked_state}
use Rattle.effbd.specs.Layout.{place_of, places}
use Rattle.effbd.specs.Moves.{Move, no_move, step_row, wait_ticks}
use Rattle.effbd.specs.Nets.{Arc}
use Rattle.effbd.specs.Patterns.{Name, arcs_of, names, net_of, transition_of, pattern_of, ranges_from, fresh_mark}
use Rattle.effbd.specs.Ranges.{all_below, least, only, tabulate}
use Rattle.agreement.specs.AcceptedFiles.{AllOf}
use Rattle.ranges.specs.RangeLaws.{least-ext, all-ext, tab-ext, length-tab}
use Rattle.agreement.specs.Named.{behaviour, lift}
use Rattle.agreement.specs.Arcs.{cleared-own, weight-append, weight-own, weight-clear, weight-other, cleared-append, cleared-none}

pub record Alike (N : ℕ) (t u : Effect) : Type 0 where
  pub label : t.label ≡ u.label
  pub earliest : t.earliest ≡ u.earliest
  pub latest : t.latest ≡ u.latest
  pub take : (p : ℕ) → p < N → t.take p ≡ u.take p
  pub clear : (p : ℕ) → p < N → t.clear p ≡ u.clear p
  pub give : (p : ℕ) → p < N → t.give p ≡ u.give p

module _ {X : Type 0} (N : ℕ) (f h : X → Effect) (ns : List X) (all : AllOf (λ x. Alike N (f x) (h x)) ns) where
  abbrev g : Behaviour
  g = record { places = N; effects = map f ns }

  abbrev G : Behaviour
  G = record { places = N; effects = map h ns }

  pub enabled-alike : (t u : Effect) (m : List ℕ) → Alike N t u → covers g t m ≡ covers G u m
  unfolding covers
  enabled-alike t u m a = all-ext N _ _ (λ p l. ap (λ x. leb x (get_or m p 0)) (a.take p l))

  after-alike : (t u : Effect) (m : List ℕ) → Alike N t u → taken_and_cleared g t m ≡ taken_and_cleared G u m
  unfolding taken_and_cleared
  after-alike t u m a = tab-ext N _ _ (λ p l. ap₂ (λ (x : Bool) (y : ℕ). cond x 0 (get_or m p 0 - y)) (a.clear p l) (a.take p l))

  get_d-alike : (xs : List X) → AllOf (λ x. Alike N (f x) (h x)) xs → (i : ℕ) → Alike N (get_or (map f xs) i no_effect) (get_or (map h xs) i no_effect)
  get_d-alike [] q i = record { label = refl; earliest = refl; latest = refl; take = λ p l. refl; clear = λ p l. refl; give = λ p l. refl }
  get_d-alike (x ∷ xs) q zero = q.0
  get_d-alike (x ∷ xs) q (suc i) = get_d-alike xs q.1 i

  lengths : length (map f ns) ≡ length (map h ns)
  lengths = length-map ns f ∙ sym (length-map ns h)

  fire-alike : (j : ℕ) (t u : Effect) (s : NetState) → Alike N t u → fired_state g j t s ≡ fired_state G j u s
  unfolding fired_state
  fire-alike j t u s a = λ i. record {
    marks = tab-ext N (λ p. get_or (taken_and_cleared g t s.marks) p 0 + t.give p) (λ p. get_or (taken_and_cleared G u s.marks) p 0 + u.give p)
        (λ p l. ap₂ (λ (x : List ℕ) (y : ℕ). get_or x p 0 + y) (after-alike t u s.marks a) (a.give p l)) i;
    clocks = (ap (λ n. tabulate n (c f t g)) lengths ∙ tab-ext (length (map h ns)) (c f t g) (c h u G)
        (λ x l. ap (λ b. cond (only j x) 0 (cond b (get_or s.clocks x 0) 0))
        (ap (λ y. covers g (get_or (map f ns) x no_effect) y) (after-alike t u s.marks a) ∙ enabled-alike _ _ (taken_and_cleared G u s.marks) (get_d-alike ns all x)))) i;
  }
    where
      c : (X → Effect) → Effect → Behaviour → ℕ → ℕ
      c k v n x = cond (only j x) 0 (cond (covers n (get_or (map k ns) x no_effect) (taken_and_cleared n v s.marks)) (get_or s.clocks x 0) 0)

  over-alike : (t u : Effect) (s : NetState) → Alike N t u → (p : ℕ) → p < N → overflows g t s p ≡ overflows G u s p
  unfolding overflows
  over-alike t u s a p l = ap₂ (λ (x : List ℕ) (y : ℕ). not (leb (get_or x p 0 + y) 65535)) (after-alike t u s.marks a) (a.give p l)

  try-alike : (j : ℕ) (t u : Effect) (s : NetState) → Alike N t u → fire g j t s ≡ fire G j u s
  unfolding fire
  try-alike j t u s a = ap (λ e. tried e (all_below N (λ p. not (overflows g t s p))) (fired_state g j t s) (least N (overflows g t s))) a.earliest
      ∙ (ap (λ b. tried u.earliest b (fired_state g j t s) (least N (overflows g t s))) (all-ext N _ _ (λ p l. ap not (over-alike t u s a p l)))
      ∙ (ap (λ x. tried u.earliest (all_below N (λ p. not (overflows G u s p))) x (least N (overflows g t s))) (fire-alike j t u s a)
      ∙ ap (λ v. tried u.earliest (all_below N (λ p. not (overflows G u s p))) (fired_state G j u s) v) (least-ext N _ _ (over-alike t u s a))))
    where
      tried : ℕ → Bool → NetState → ℕ → Outcome NetState
      tried e b x v = cond (ltb (get_or s.clocks j 0) e) (refused 24 (e - get_or s.clocks j 0)) (cond b (accepted x) (refused 25 v))

  step-alike : (xs : List X) → AllOf (λ x. Alike N (f x) (h x)) xs → (j r : ℕ) (s : NetState) → fire_lowest g (map f xs) j r s ≡ fire_lowest G (map h xs) j r s
  unfolding fire_lowest
  step-alike [] q j r s = refl
  step-alike (x ∷ xs) q j r s =
      ap₂ (λ (l : ℕ) (b : Bool). cond (eqb l r && b) (fire g j (f x) s) (fire_lowest g (map f xs) (suc j) r s)) q.0.label (enabled-alike (f x) (h x) s.marks q.0)
      ∙ ap₂ (λ (y z : Outcome NetState). cond (eqb (h x).label r && covers G (h x) s.marks) y z) (try-alike j (f x) (h x) s q.0) (step-alike xs q.1 (suc j) r s)

  lets-alike : (n : ℕ) (s : NetState) (x : ℕ) → lets_pass g n s x ≡ lets_pass G n s x
  unfolding lets_pass
  lets-alike n s x = let a = get_d-alike ns all x in
      ap₂ (λ (b : Bool) (y : ℕ). not (b && ltb y (get_or s.clocks x 0 + n))) (enabled-alike _ _ s.marks a) a.latest

  tick-alike : (n : ℕ) (s : NetState) → ticked_state g n s ≡ ticked_state G n s
  unfolding ticked_state
  tick-alike n s = λ i. record {
    marks = s.marks;
    clocks = (ap (λ m. tabulate m (c f g)) lengths ∙ tab-ext (length (map h ns)) (c f g) (c h G)
        (λ x l. ap (λ b. cond b (get_or s.clocks x 0 + n) (get_or s.clocks x 0)) (enabled-alike _ _ s.marks (get_d-alike ns all x)))) i;
  }
    where
      c : (X → Effect) → Behaviour → ℕ → ℕ
      c k m x = cond (covers m (get_or (map k ns) x no_effect) s.marks) (get_or s.clocks x 0 + n) (get_or s.clocks x 0)

  wait-alike : (n : ℕ) (s : NetState) → net_wait g n s ≡ net_wait G n s
  unfolding net_wait
  wait-alike n s = rw (tick-alike n s, held)
    where
      held : all_below (length (map f ns)) (lets_pass g n s) ≡ all_below (length (map h ns)) (lets_pass G n s)
      held = ap (λ m. all_below m (lets_pass g n s)) lengths ∙ all-ext (length (map h ns)) _ _ (λ x l. lets-alike n s x)

  move-alike : (m : Move) (s : NetState) → net_move g m s ≡ net_move G m s
  unfolding net_move
  move-alike (step_row r) s = step-alike ns all 0 r s
  move-alike (wait_ticks n) s = wait-alike n s
  move-alike no_move s = refl

module _ (d : Diagram) where
  -- the arcs of a transition do what its pattern says
  pub transition-alike : (x : Name d) → Alike (places d) (effect_of (transition_of d x)) (lift d x)
  unfolding effect_of transition_of lift
  transition-alike x = record {
    label = refl;
    earliest = refl;
    latest = refl;
    take = λ p l. weight-append 35 takes (clears ++ gives) p ∙ (rw (weight-append 35 clears gives p, weight-own 35 weighs N p l, weight-clear clear 35 refl N 0 p, weight-other 37 weighed 35 refl N p) (omega arith));
    clear = λ p l. cleared-append takes (clears ++ gives) p
        ∙ rw (cleared-append clears gives p, cleared-none 35 weighs refl N p, cleared-none 37 weighed refl N p, cleared-own clear N p l) (or_off (clear p));
    give = λ p l. weight-append 37 takes (clears ++ gives) p ∙ (rw (weight-append 37 clears gives p, weight-other 35 weighs 37 refl N p, weight-clear clear 37 refl N 0 p, weight-own 37 weighed N p l) (omega arith));
  }
    where
      N : ℕ
      N = places d

      weighs : ℕ → ℕ
      weighs p = (pattern_of d x).take (place_of d p)

      weighed : ℕ → ℕ
      weighed p = (pattern_of d x).give (place_of d p)

      clear : ℕ → Bool
      clear p = (pattern_of d x).clear (place_of d p)

      takes : List Arc
      takes = arcs_of 35 N weighs

      clears : List Arc
      clears = ranges_from N 0 clear

      gives : List Arc
      gives = arcs_of 37 N weighed

      or_off : (b : Bool) → (b || false) ≡ b
      or_off true = refl
      or_off false = refl

  pub all_alike : (ns : List (Name d)) → AllOf (λ x. Alike (places d) (effect_of (transition_of d x)) (lift d x)) ns
  all_alike [] = tt
  all_alike (x ∷ ns) = (transition-alike x, all_alike ns)

  pub many-marks : length (net_of d).marks ≡ places d
  unfolding net_of
  many-marks = length-tab (places d) (λ p. fresh_mark d (place_of d p))

  effects-are : map effect_of (net_of d).transitions ≡ map (λ x. effect_of (transition_of d x)) (names d (row_count d))
  unfolding net_of
  effects-are = map-map effect_of (transition_of d) (names d (row_count d))

  pub net-is : behaviour_of (net_of d) ≡ record { places = places d; effects = map (λ x. effect_of (transition_of d x)) (names d (row_count d)) }
  net-is = λ j. record { places = many-marks j; effects = effects-are j }

  -- THEOREM: stepping the net of a diagram, as its file has it, is stepping the net by its patterns
  pub table-steps : (m : Move) (s : NetState) → net_move (behaviour_of (net_of d)) m s ≡ net_move (behaviour d) m s
  table-steps m s = ap (λ (b : Behaviour). net_move b m s) net-is
      ∙ move-alike (places d) (λ x. effect_of (transition_of d x)) (lift d) (names d (row_count d)) (all_alike (names d (row_count d))) m s
