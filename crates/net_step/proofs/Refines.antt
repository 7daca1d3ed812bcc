-- The moves as the code makes them are the moves of the definitions, in a well-formed net.
use Prim.Native.Nat.{ℕ, zero, suc, ◌+◌, ◌-◌, ◌<◌}
use mathlib.Core.Path.{◌≡◌, refl, ap, ap₂, sym, ◌∙◌}
use mathlib.Core.Bool.{Bool, true, false, not, cond, ◌&&◌, ◌||◌}
use mathlib.Core.List.{List, [], ◌∷◌, ◌++◌, map}
use native.Mathlib.Nat.{add-zero, zero-add}
use native.Mathlib.Omega.{arith}
use lib.ListN.{length, get_or, length-map}
use lib.Dec.{leb, ltb, eqb}
use borrow.Author.Tests.{ltb-false, le-leb, eqb-true, eqb-false, eq-eqb, ne_eqb}
use Rattle.ranges.specs.Tests.{decide, clash}
use Rattle.ranges.specs.RangeLaws.{all-elim, tab-ext, all-ext, all-front}
use Rattle.effbd.specs.Ranges.{all_below, least, only, tabulate}
use Rattle.effbd.specs.Answers.{accepted, refused, and_then}
use Rattle.effbd.specs.Moves.{step_row, wait_ticks, no_move, move_of}
use Rattle.effbd.specs.Nets.{Transition, take_arc, give_arc}
use Rattle.effbd.specs.Firing.{Effect, no_effect, Behaviour, NetState, effect_of, covers, taken_and_cleared, fired_state, overflows, fire, fire_lowest, lets_pass, ticked_state, net_wait, net_move, net_words_outcome}
use Rattle.agreement.specs.Formed.{arcs_fine}
use Rattle.agreement.proofs.Numbering.{get_d_map}
use Rattle.net_walk.specs.Walked.{covered, applied, reduced, sums, stands, lowest}
use Rattle.net_walk.proofs.Effects.{Words, reduced-is, reduced-length}
use Rattle.net_walk.proofs.Rising.{enabled-is, sums-is, given_is, reduced-words}
use Rattle.net_step.specs.Stepping.{kept_clock, grown_clock, renewed_clock, clocks_by, holds_wait, wait_held, fired_words, no_transition, stepped_words, waited_words, moved_words}
use Rattle.net_step.specs.declared.Renewal.TheVariants.{Waited}
use Rattle.net_step.proofs.Cases.{lowest-most}

-- clocks, one after another, are a table of clocks
clocks-from : (f : ℕ → Transition → ℕ → ℕ) (x : ℕ) (ts : List Transition) (clocks : List ℕ) (none : Transition)
    → clocks_by f x ts clocks ≡ tabulate (length ts) (λ i. f (x + i) (get_or ts i none) (get_or clocks (x + i) 0))
unfolding clocks_by
clocks-from f x [] clocks none = refl
clocks-from f x (t ∷ ts) clocks none = ap₂ (λ (a : ℕ) (l : List ℕ). a ∷ l)
    (let z : x ≡ x + 0 = omega arith in ap (λ (y : ℕ). f y t (get_or clocks y 0)) z)
    (clocks-from f (x + 1) ts clocks none ∙ tab-ext (length ts) _ _ (λ i l. let z : x + 1 + i ≡ x + suc i = omega arith in ap (λ (y : ℕ). f y (get_or ts i none) (get_or clocks y 0)) z))

clocks-are : (f : ℕ → Transition → ℕ → ℕ) (ts : List Transition) (clocks : List ℕ) (none : Transition)
    → clocks_by f 0 ts clocks ≡ tabulate (length ts) (λ i. f i (get_or ts i none) (get_or clocks i 0))
clocks-are f ts clocks none = clocks-from f 0 ts clocks none
    ∙ tab-ext (length ts) _ _ (λ i l. ap (λ (y : ℕ). f y (get_or ts i none) (get_or clocks y 0)) (zero-add i))

held-from : (ticks : ℕ) (marks : List ℕ) (x : ℕ) (ts : List Transition) (clocks : List ℕ) (none : Transition)
    → not (wait_held ticks marks x ts clocks) ≡ all_below (length ts) (λ i. not (holds_wait ticks marks (get_or ts i none) (get_or clocks (x + i) 0)))
unfolding wait_held
held-from ticks marks x [] clocks none = refl
held-from ticks marks x (t ∷ ts) clocks none =
    apart (holds_wait ticks marks t (get_or clocks x 0)) (wait_held ticks marks (x + 1) ts clocks)
    ∙ (ap₂ (λ (a b : Bool). a && b)
    (let z : x ≡ x + 0 = omega arith in ap (λ (y : ℕ). not (holds_wait ticks marks t (get_or clocks y 0))) z)
    (held-from ticks marks (x + 1) ts clocks none ∙ all-ext (length ts) _ _ (λ i l. let z : x + 1 + i ≡ x + suc i = omega arith in ap (λ (y : ℕ). not (holds_wait ticks marks (get_or ts i none) (get_or clocks y 0))) z))
    ∙ sym (all-front (length ts) (λ i. not (holds_wait ticks marks (get_or (t ∷ ts) i none) (get_or clocks (x + i) 0)))))
  where
    apart : (a b : Bool) → not (a || b) ≡ (not a && not b)
    apart true b = refl
    apart false b = refl

module _ (places : ℕ) (ts : List Transition) (fine : (i : ℕ) → i < length ts → arcs_fine places take_arc 0 (get_or ts i (no_transition ts)).arcs ≡ true)
    (marks clocks : List ℕ) (size : length marks ≡ places) (words : Words marks) where
  abbrev net : Behaviour
  net = record { places = places; effects = map effect_of ts }

  abbrev state : NetState
  state = record { marks = marks; clocks = clocks }

  -- transition number x
  abbrev number : ℕ → Transition
  number x = get_or ts x (no_transition ts)

  enabled-at : (x : ℕ) (m : List ℕ) → x < length ts → covers net (get_or (map effect_of ts) x no_effect) m ≡ covered (number x).arcs m
  enabled-at x m l = ap (λ (e : Effect). covers net e m) (get_d_map effect_of ts x (no_transition ts) no_effect l) ∙ enabled-is net (number x) m (fine x l)

  -- a firing
  module _ (j : ℕ) (t : Transition) (rising : arcs_fine places take_arc 0 t.arcs ≡ true) where
    abbrev mid : List ℕ
    mid = reduced t.arcs marks

    reached : taken_and_cleared net (effect_of t) marks ≡ mid
    reached = reduced-is net t marks size

    fired-clocks : (fired_state net j (effect_of t) state).clocks ≡ clocks_by (kept_clock j mid) 0 ts clocks
    unfolding fired_state kept_clock
    fired-clocks = ap (λ (n : ℕ). tabulate n (λ x. cond (only j x) 0 (cond (covers net (get_or (map effect_of ts) x no_effect) (taken_and_cleared net (effect_of t) marks)) (get_or clocks x 0) 0))) (length-map ts effect_of)
        ∙ (tab-ext (length ts) _ _ (λ x l. ap (λ (b : Bool). cond (only j x) 0 (cond b (get_or clocks x 0) 0)) (ap (covers net (get_or (map effect_of ts) x no_effect)) reached ∙ enabled-at x mid l))
        ∙ sym (clocks-are (kept_clock j mid) ts clocks (no_transition ts)))

    fire-is : net_words_outcome (fire net j (effect_of t) state) ≡ fired_words ts j t marks clocks
    unfolding fire fired_words effect_of
    fire-is = by (ltb (get_or clocks j 0) t.earliest) (all_below places (λ p. not (overflows net (effect_of t) state p))) refl
        (sums-is net t state mid reached (reduced-words t.arcs marks words) rising)
      where
        by : (late fit : Bool) → all_below places (λ p. not (overflows net (effect_of t) state p)) ≡ fit
            → cond fit (accepted 0) (refused 25 (least places (overflows net (effect_of t) state))) ≡ sums t.arcs mid
            → net_words_outcome (cond late (refused 24 (t.earliest - get_or clocks j 0))
            (cond fit (accepted (fired_state net j (effect_of t) state)) (refused 25 (least places (overflows net (effect_of t) state)))))
            ≡ cond late (refused 24 (t.earliest - get_or clocks j 0)) (and_then (sums t.arcs mid) (λ z. accepted (applied give_arc t.arcs mid ++ clocks_by (kept_clock j mid) 0 ts clocks)))
        by true fit f e = refl
        by false true f e =
            rw (← e) (ap₂ (λ (m c : List ℕ). accepted (m ++ c)) (given_is net t state mid reached (reduced-words t.arcs marks words) j (reduced-length t.arcs marks ∙ size) f) fired-clocks)
        by false false f e = rw (← e)

  -- a step: the lowest-numbered of the transitions from number i on
  lowest-is : (us : List Transition) (i label : ℕ) → ((x : ℕ) → x < length us → arcs_fine places take_arc 0 (get_or us x (no_transition ts)).arcs ≡ true)
      → fire_lowest net (map effect_of us) i label state
      ≡ cond (eqb (lowest us marks label) (length us)) (refused 22 label) (fire net (i + lowest us marks label) (effect_of (get_or us (lowest us marks label) (no_transition ts))) state)
  unfolding fire_lowest lowest effect_of
  lowest-is [] i label h = refl
  lowest-is (t ∷ us) i label h =
      go (lowest-is us (suc i) label (λ x l. h (suc x) (omega arith))) (stands t marks label)
      (ap (λ (b : Bool). eqb t.label label && b) (enabled-is net t marks (h zero (omega arith))) ∙ unfolded)
    where
      unfolded : (eqb t.label label && covered t.arcs marks) ≡ stands t marks label
      unfolded = unfold stands in refl

      same-eqb : (a b : ℕ) → eqb (a + 1) (suc b) ≡ eqb a b
      same-eqb a b = decide (eqb a b)
          (λ e. let z = eqb-true a b e in rw e (eq-eqb (a + 1) (suc b) (omega arith)))
          (λ e. rw e (ne_eqb (a + 1) (suc b) (λ q. eqb-false a b e (omega arith))))

      go : fire_lowest net (map effect_of us) (suc i) label state
          ≡ cond (eqb (lowest us marks label) (length us)) (refused 22 label) (fire net (suc i + lowest us marks label) (effect_of (get_or us (lowest us marks label) (no_transition ts))) state)
          → (b : Bool) → (eqb (effect_of t).label label && covers net (effect_of t) marks) ≡ b
          → cond (eqb (effect_of t).label label && covers net (effect_of t) marks) (fire net i (effect_of t) state) (fire_lowest net (map effect_of us) (suc i) label state)
          ≡ cond (eqb (cond b 0 (lowest us marks label + 1)) (suc (length us))) (refused 22 label)
          (fire net (i + cond b 0 (lowest us marks label + 1)) (effect_of (get_or (t ∷ us) (cond b 0 (lowest us marks label + 1)) (no_transition ts))) state)
      go ih true e = rw (e, ne_eqb 0 (suc (length us)) (omega arith), add-zero i)
      go ih false e =
          let z : i + (lowest us marks label + 1) ≡ suc i + lowest us marks label = omega arith in
          let y : lowest us marks label + 1 ≡ suc (lowest us marks label) = omega arith in
          rw (e, same-eqb (lowest us marks label) (length us), z, y) ih

  step_is : (label : ℕ) → net_words_outcome (fire_lowest net (map effect_of ts) 0 label state) ≡ stepped_words ts label marks clocks
  unfolding stepped_words
  step_is label = ap net_words_outcome (lowest-is ts 0 label fine) ∙ go (eqb (lowest ts marks label) (length ts)) refl
    where
      go : (b : Bool) → eqb (lowest ts marks label) (length ts) ≡ b
          → net_words_outcome (cond b (refused 22 label) (fire net (0 + lowest ts marks label) (effect_of (number (lowest ts marks label))) state))
          ≡ cond b (refused 22 label) (fired_words ts (lowest ts marks label) (number (lowest ts marks label)) marks clocks)
      go true e = refl
      go false e = rw (zero-add (lowest ts marks label))
          (fire-is (lowest ts marks label) (number (lowest ts marks label)) (fine (lowest ts marks label) (let z = eqb-false (lowest ts marks label) (length ts) e in omega (arith, z, lowest-most ts marks label))))

  -- a wait
  lets-is : (ticks x : ℕ) → x < length ts → lets_pass net ticks state x ≡ not (holds_wait ticks marks (number x) (get_or clocks x 0))
  unfolding lets_pass holds_wait effect_of
  lets-is ticks x l = ap₂ (λ (b : Bool) (e : Effect). not (b && ltb e.latest (get_or clocks x 0 + ticks))) (enabled-at x marks l) (get_d_map effect_of ts x (no_transition ts) no_effect l)

  passes : (ticks : ℕ) → all_below (length (map effect_of ts)) (lets_pass net ticks state) ≡ not (wait_held ticks marks 0 ts clocks)
  passes ticks = ap (λ (n : ℕ). all_below n (lets_pass net ticks state)) (length-map ts effect_of)
      ∙ (all-ext (length ts) _ _ (λ x l. lets-is ticks x l ∙ ap (λ (y : ℕ). not (holds_wait ticks marks (number x) (get_or clocks y 0))) (sym (zero-add x)))
      ∙ sym (held-from ticks marks 0 ts clocks (no_transition ts)))

  -- a clock that holds no wait grows by all of it
  grown : (ticks : ℕ) (t : Transition) (clock : ℕ) → not (holds_wait ticks marks t clock) ≡ true → cond (covered t.arcs marks) (clock + ticks) clock ≡ grown_clock ticks marks t clock
  unfolding holds_wait grown_clock
  grown ticks t clock h = go (covered t.arcs marks) h
    where
      go : (b : Bool) → not (b && ltb t.latest (clock + ticks)) ≡ true → cond b (clock + ticks) clock ≡ cond (b && leb (clock + ticks) t.latest) (clock + ticks) clock
      go true e = decide (ltb t.latest (clock + ticks))
          (λ q. clash (rw q at e) refl)
          (λ q. rw (le-leb (clock + ticks) t.latest (ltb-false t.latest (clock + ticks) q)))
      go false e = refl

  ticked-clocks : (ticks : ℕ) → all_below (length (map effect_of ts)) (lets_pass net ticks state) ≡ true
      → (ticked_state net ticks state).clocks ≡ clocks_by (renewed_clock (Waited ticks) marks) 0 ts clocks
  unfolding ticked_state renewed_clock
  ticked-clocks ticks h = ap (λ (n : ℕ). tabulate n (λ x. cond (covers net (get_or (map effect_of ts) x no_effect) marks) (get_or clocks x 0 + ticks) (get_or clocks x 0))) (length-map ts effect_of)
      ∙ (tab-ext (length ts) _ _ (λ x l. ap (λ (b : Bool). cond b (get_or clocks x 0 + ticks) (get_or clocks x 0)) (enabled-at x marks l)
      ∙ grown ticks (number x) (get_or clocks x 0) (sym (lets-is ticks x l) ∙ all-elim (length (map effect_of ts)) (lets_pass net ticks state) h x (rw (length-map ts effect_of) l)))
      ∙ sym (clocks-are (λ x t clock. grown_clock ticks marks t clock) ts clocks (no_transition ts)))

  wait-is : (ticks : ℕ) → net_words_outcome (net_wait net ticks state) ≡ waited_words ts ticks marks clocks
  unfolding net_wait waited_words ticked_state
  wait-is ticks = go (eqb ticks 0) (all_below (length (map effect_of ts)) (lets_pass net ticks state)) (wait_held ticks marks 0 ts clocks) refl (passes ticks)
    where
      go : (z a b : Bool) → all_below (length (map effect_of ts)) (lets_pass net ticks state) ≡ a → a ≡ not b
          → net_words_outcome (cond z (refused 21 0) (cond a (accepted (ticked_state net ticks state)) (refused 26 0)))
          ≡ cond z (refused 21 0) (cond b (refused 26 0) (accepted (marks ++ clocks_by (renewed_clock (Waited ticks) marks) 0 ts clocks)))
      go true a b e f = refl
      go false true true e f = clash refl f
      go false true false e f = ap (λ (c : List ℕ). accepted (marks ++ c)) (ticked-clocks ticks e)
      go false false true e f = refl
      go false false false e f = clash refl (sym f)

  -- THEOREM: a move of the net is what the code makes of the words
  pub move-is : (code argument : ℕ) → net_words_outcome (net_move net (move_of code argument) state) ≡ moved_words ts code argument marks clocks
  unfolding net_move move_of moved_words
  move-is code argument = go (eqb code 1) (eqb code 2)
    where
      go : (a b : Bool) → net_words_outcome (net_move net (cond a (step_row argument) (cond b (wait_ticks argument) no_move)) state)
          ≡ cond a (stepped_words ts argument marks clocks) (cond b (waited_words ts argument marks clocks) (refused 21 0))
      go true b = step_is argument
      go false true = wait-is argument
      go false false = refl
