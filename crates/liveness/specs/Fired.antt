-- Document 02, CR 6: which transition fires at the image of a FUNCTION's step: the first one's number plus activity less 1.
use Prim.Native.Nat.{ℕ, zero, suc, ◌+◌, ◌≤◌, ◌<◌, zero-le}
use Rattle.std.specs.Prelude.{◌≡◌, Bool, true, false, not, ◌&&◌, ltb}
use Rattle.std.proofs.Math.Path.{refl, ap}
use Rattle.std.proofs.Common.{sym, ◌∙◌, ap₂, arith, add-zero, zero-add}
use mathlib.Core.List.{List, [], ◌∷◌, map}
use Rattle.std.proofs.Math.ListN.{length, get_or}
use Rattle.std.proofs.lemmas.List.{length-map}
use Rattle.std.proofs.Math.Dec.{eqb}
use borrow.Author.Tests.{leb-true, eqb-true, eqb-false}
use Rattle.effbd.specs.Answers.{accepted, is_accepted, refused}
use Rattle.effbd.specs.Diagrams.{Diagram, end, function, kind, row_count}
use Rattle.effbd.specs.Counts.{count_total, takes}
use Rattle.effbd.specs.Firing.{Behaviour, Effect, NetState, behaviour_of, covers, effect_of, fire, fire_lowest, fired_state, net_move, no_effect, overflows}
use Rattle.effbd.specs.Image.{image, image_mark}
use Rattle.effbd.specs.Layout.{Count, P, Place, Q, R, places}
use Rattle.effbd.specs.Moves.{enough, is_there, step, step_row}
use Rattle.effbd.specs.Nets.{Net}
use Rattle.effbd.specs.Patterns.{Name, names, net_of, no_pattern, patterns, transition_of}
use Rattle.effbd.specs.Transitions.{first_number, lowest_enabled, number_by_activity}
use Rattle.effbd.specs.Ranges.{all_below, least, only}
use Rattle.effbd.specs.States.{State, state_of}
use Rattle.ranges.specs.Tests.{and_intro, clash, decide}
use Rattle.ranges.specs.RangeLaws.{all-elim, least-ext, least-is, least-low, only-refl}
use Rattle.agreement.specs.Basics.{kind-in, not-kind}
use Rattle.agreement.proofs.Matching.{second-enabled}
use Rattle.agreement.specs.Named.{enabled, lift, named_image}
use Rattle.agreement.proofs.NetSteps.{all_alike, enabled-alike, net-is, transition-alike}
use Rattle.agreement.proofs.Numbering.{enabled-flat, get_d_map, marks_of, name-at, name_of, nm, none, tr}
use Rattle.agreement.specs.Tokens.{Real}
use Rattle.agreement.proofs.Tokens.{enabled-no, enabled-yes}

-- what `lowest_enabled` names is what the step fires
module _ (n : Behaviour) (r : ℕ) (s : NetState) where
  picks : List Effect → ℕ → Bool
  picks ts x = eqb (get_or ts x no_effect).label r && covers n (get_or ts x no_effect) s.marks

  fires-from : (ts : List Effect) (j x : ℕ) → least (length ts) (picks ts) ≡ x → x < length ts → fire_lowest n ts j r s ≡ fire n (j + x) (get_or ts x no_effect) s
  unfolding fire_lowest picks
  fires-from [] j x e l = absurd (omega arith)
  fires-from (t ∷ ts) j zero e l = decide (eqb t.label r && covers n t s.marks)
      (λ z. rw (z, add-zero))
      (λ z. absurd (let y : suc (least (length ts) (picks ts)) ≡ 0 = rw (least, z) at e in omega arith))
  fires-from (t ∷ ts) j (suc x) e l = decide (eqb t.label r && covers n t s.marks)
      (λ z. absurd (let y : 0 ≡ suc x = rw (least, z) at e in omega arith))
      (λ z. let y : suc (least (length ts) (picks ts)) ≡ suc x = rw (least, z) at e in
      rw z (fires-from ts (suc j) x (omega arith) (omega arith) ∙ ap (λ i. fire n i (get_or ts x no_effect) s) (omega arith)))

  none-fires : (ts : List Effect) (j : ℕ) → least (length ts) (picks ts) ≡ length ts → fire_lowest n ts j r s ≡ refused 22 r
  unfolding fire_lowest picks
  none-fires [] j e = refl
  none-fires (t ∷ ts) j e = decide (eqb t.label r && covers n t s.marks)
      (λ z. absurd (let y : 0 ≡ suc (length ts) = rw (least, z) at e in omega arith))
      (λ z. let y : suc (least (length ts) (picks ts)) ≡ suc (length ts) = rw (least, z) at e in rw z (none-fires ts (suc j) (omega arith)))

  -- a step that is accepted has one
  pub step-has : is_accepted (fire_lowest n n.effects 0 r s) ≡ true → lowest_enabled n r s < length n.effects
  unfolding lowest_enabled picks
  step-has h = decide (eqb (least many (picks n.effects)) many)
      (λ y. clash h (ap is_accepted (none-fires n.effects 0 (eqb-true (least many (picks n.effects)) many y))))
      (λ y. let a = least-low many (picks n.effects) in let b = eqb-false (least many (picks n.effects)) many y in omega arith)
    where
      many : ℕ
      many = length n.effects

  pub step-fires : (j : ℕ) → lowest_enabled n r s ≡ j → j < length n.effects → is_accepted (fire_lowest n n.effects 0 r s) ≡ true
      → fire_lowest n n.effects 0 r s ≡ accepted (fired_state n j (get_or n.effects j no_effect) s)
  unfolding lowest_enabled picks fire
  step-fires j e l h = let w = fires-from n.effects 0 j e l ∙ ap (λ i. fire n i t s) (zero-add j) in w ∙ done (sym (ap is_accepted w) ∙ h)
    where
      t : Effect
      t = get_or n.effects j no_effect

      done : is_accepted (fire n j t s) ≡ true → fire n j t s ≡ accepted (fired_state n j t s)
      done a = decide (ltb (get_or s.clocks j 0) t.earliest)
          (λ y. clash a (rw y))
          (λ y. decide (all_below n.places (λ p. not (overflows n t s p))) (λ z. rw (y, z)) (λ z. clash a (rw (y, z))))

-- the state after transition number j of a net fires
abbrev pub fired_by : Net → ℕ → NetState → NetState
fired_by n j s = fired_state (behaviour_of n) j (get_or (behaviour_of n).effects j no_effect) s

-- number j is the transition that the step of row r fires at s: the lowest-numbered enabled one labelled r, and the step is its firing
pub record FiresNumber (n : Net) (r : ℕ) (s : NetState) (j : ℕ) : Type 0 where
  pub lowest : lowest_enabled (behaviour_of n) r s ≡ j
  pub there : j < length n.transitions
  pub fires : net_move (behaviour_of n) (step_row r) s ≡ accepted (fired_by n j s)

module _ (d : Diagram) where
  abbrev pub ns : List (Name d)
  ns = names d (row_count d)

  abbrev name : ℕ → Name d
  name x = get_or ns x (none d)

  -- transition number x is labelled r and enabled, by its name
  unfoldable pub picked : ℕ → (Place → ℕ) → ℕ → Bool
  picked r m x = eqb (name x).label r && enabled d (tr d (name x)) m

  effect : Name d → Effect
  effect x = effect_of (transition_of d x)

  -- the number, by names
  pub by_names : (r : ℕ) (l : List ℕ) → lowest_enabled (behaviour_of (net_of d)) r (image d l) ≡ least (length ns) (picked r (image_mark d (state_of d l)))
  unfolding lowest_enabled picked effect image marks_of lift
  by_names r l = ap (λ (b : Behaviour). lowest_enabled b r (image d l)) (net-is d)
      ∙ (ap (λ (n : ℕ). least n (λ x. let t = get_or (map effect ns) x no_effect in eqb t.label r && covers b t (image d l).marks)) (length-map ns effect)
      ∙ least-ext (length ns) _ _ (λ x h. same x h))
    where
      b : Behaviour
      b = record { places = places d; effects = map effect ns }

      same : (x : ℕ) → x < length ns
          → (eqb (get_or (map effect ns) x no_effect).label r && covers b (get_or (map effect ns) x no_effect) (image d l).marks) ≡ picked r (image_mark d (state_of d l)) x
      same x h = rw (get_d_map effect ns x (none d) no_effect h)
          (ap₂ (λ (n : ℕ) (c : Bool). eqb n r && c) (transition-alike d (name x)).label
          (enabled-alike (places d) effect (lift d) ns (all_alike d ns) (effect (name x)) (lift d (name x)) (image d l).marks (transition-alike d (name x))
          ∙ enabled-flat d (name x) (image_mark d (state_of d l))))

  -- of a FUNCTION row: the transitions labelled r are first and first + 1
  module _ (r : ℕ) (k : kind d r ≡ function) (s : State) where
    inside : r < row_count d
    inside = kind-in d r (not-kind d r k end refl)

    abbrev m : Place → ℕ
    m = image_mark d s

    at-number : (i : ℕ) → i < length (patterns d r) → enabled d (get_or (patterns d r) i no_pattern) m ≡ true
        → (first_number d r + i < length ns) × (picked r m (first_number d r + i) ≡ true)
    unfolding picked tr nm
    at-number i l e = let w = name_of d r (named_image d s) (row_count d) i inside l in
        (w.0, rw w.1 (and_intro (only-refl r) e))

    below : (i j : ℕ) → j < first_number d r + i → ((x : ℕ) → x < i → enabled d (get_or (patterns d r) x no_pattern) m ≡ false) → j < length ns → picked r m j ≡ false
    unfolding picked tr
    below i j l h b = decide (eqb (name j).label r)
        (λ e. let z : (name j).label ≡ r = eqb-true (name j).label r e in
        let w = (name-at d (row_count d) j b).2 in
        let y : first_number d r + (name j).index ≡ j = rw z at w in
        rw (e, z) (h (name j).index (omega arith)))
        (λ e. rw e)

    -- the number that is picked, which there is; and the row is not idle
    abbrev pub Is : Type 0
    Is = (least (length ns) (picked r m) ≡ number_by_activity d r (s.activity r)) × (number_by_activity d r (s.activity r) < length ns) × (0 < s.activity r)

    number_is : (i : ℕ) → s.activity r ≡ suc i → i < length (patterns d r) → enabled d (get_or (patterns d r) i no_pattern) m ≡ true
        → ((x : ℕ) → x < i → enabled d (get_or (patterns d r) x no_pattern) m ≡ false) → Is
    number_is i a l e h = let w = at-number i l e in
        let b = w.0 in
        let z : first_number d r + i ≡ number_by_activity d r (s.activity r) = omega arith in
        (least-is (length ns) (picked r m) (first_number d r + i) b w.1 (λ j z. below i j z h (omega arith)) ∙ z, omega arith, omega arith)

    -- ready, with all its takes: the first is enabled
    started : s.activity r ≡ 1 → enough d r s ≡ true → Is
    started a e = number_is 0 a (rw k (omega arith)) on (λ x l. absurd (omega arith))
      where
        on : enabled d (get_or (patterns d r) 0 no_pattern) (image_mark d s) ≡ true
        on = enabled-yes d (get_or (patterns d r) 0 no_pattern) (image_mark d s) cov
          where
            cov : (p : Place) → Real d p → (get_or (patterns d r) 0 no_pattern).take p ≤ image_mark d s p
            cov (P q) l = rw k (decide (only r q) (λ f. rw (f, eqb-true q r f, a) (omega arith)) (λ f. rw f zero-le))
            cov (Q q) l = rw k zero-le
            cov (R q) l = rw k zero-le
            cov (Count x) l = rw k (leb-true (takes d r x) (s.count x) (all-elim (count_total d) (is_there d r s) e x l))

    -- running: the second is enabled, the first is not
    runs : s.activity r ≡ 2 → Is
    runs a = number_is 1 a (rw k (omega arith)) on (λ x l. let z : x ≡ 0 = omega arith in rw z off)
      where
        on : enabled d (get_or (patterns d r) 1 no_pattern) (image_mark d s) ≡ true
        on = second-enabled d r k (image_mark d s) ∙ rw (k, a)

        off : enabled d (get_or (patterns d r) 0 no_pattern) (image_mark d s) ≡ false
        off = enabled-no d (get_or (patterns d r) 0 no_pattern) (image_mark d s) (P r) inside (rw (k, only-refl r, a) (omega arith))

    -- a step that is accepted
    pub number_at : is_accepted (step d r s) ≡ true → Is
    number_at h = decide (eqb (s.activity r) 1)
        (λ e. decide (enough d r s)
        (λ f. started (eqb-true (s.activity r) 1 e) f)
        (λ f. clash h (rw (k, e, f))))
        (λ e. decide (eqb (s.activity r) 2)
        (λ f. runs (eqb-true (s.activity r) 2 f))
        (λ f. clash h (rw (k, e, f))))
