-- Each case of a move, as the code comes to it.
use Prim.Native.Nat.{ℕ, suc, ◌+◌, ◌-◌, ◌≤◌, ◌<◌}
use mathlib.Core.Path.{◌≡◌, refl, ap, sym, ◌∙◌}
use mathlib.Core.Bool.{Bool, true, false, cond}
use mathlib.Core.List.{List, [], ◌∷◌, ◌++◌, append-nil}
use native.Mathlib.Omega.{arith}
use borrow.Author.Tests.{eq-eqb, ne_eqb, lt-ltb, le-ltb, le-leb}
use borrow.Rule.Slice.PartMut.{put_mid, mid_of as part_of, Post-is}
use lib.ListN.{length, take, drop, get_or, length-append, drop_of_length-le}
use lib.Seq.{drop_at, length-take-le, drop-length, get_or-drop}
use Rattle.words.specs.Stores.{copied}
use Rattle.std.specs.Prelude.{Result, Ok, Err}
use Rattle.effbd.specs.Answers.{Outcome, accepted, refused, and_then, afterwards, returning_zero, number}
use Rattle.effbd.specs.declared.refusals.Refusal.{Refusal}
use Rattle.effbd.specs.Nets.{Transition, take_arc, clear_arc, give_arc}
use Rattle.net_file.specs.Contents.{arcs_in, transition_in, transitions_in, part_at}
use Rattle.net_file.proofs.Walks.{length-transitions, transition-at}
use Rattle.net_walk.specs.Walked.{stands, applied, reduced, sums, lowest}
use Rattle.net_step.specs.Stepping.{kept_clock, renewed_clock, clocks_by, wait_held, fired_words, no_transition, stepped_words, waited_words, moved_words, Answered}
use Rattle.net_step.specs.declared.Renewal.TheVariants.{Fired, Waited}
use Rattle.ranges.specs.RangeLaws.{tail-is}

-- a call that is turned away, that moves, whose outcome is another's
pub turned-away : (before : List ℕ) (r : Refusal) (outcome : Outcome (List ℕ)) → outcome ≡ refused (number r.reason) r.value → Answered (Err r) before before outcome
turned-away before r outcome e = record { says = sym (ap returning_zero e); leaves = sym (ap (afterwards before) e) }

pub moved_to : (before after words : List ℕ) (outcome : Outcome (List ℕ)) → outcome ≡ accepted words → after ≡ words → Answered (Ok 0) before after outcome
moved_to before after words outcome e h = record { says = sym (ap returning_zero e); leaves = h ∙ sym (ap (afterwards before) e) }

pub answered-as : {answer : Result ℕ Refusal} {before after : List ℕ} {o p : Outcome (List ℕ)} → Answered answer before after o → o ≡ p → Answered answer before after p
answered-as {answer} {before} r e = record { says = r.says ∙ ap returning_zero e; leaves = r.leaves ∙ ap (afterwards before) e }

-- a lent tail that came back
pub tail-put : (p : ℕ) (state clocks : List ℕ) → p ≤ length state → put_mid p (length state - p) state clocks ≡ take p state ++ clocks
tail-put p state clocks l = rw (Post-is p (length state) state l, drop-length state, append-nil clocks)

-- marks over the front of a state
over : (p : ℕ) (marks state clocks : List ℕ) → length marks ≡ p → p ≤ length state → copied marks (take p state ++ clocks) ≡ marks ++ clocks
over p marks state clocks lm l =
    let e = length-append (take p state) clocks in
    let f = length-take-le p state l in
    rw (le-leb (length marks) (length (take p state ++ clocks)) (omega arith), lm) (ap (λ (q : List ℕ). marks ++ q) (drop_at (take p state) clocks p f))

-- new clocks, then new marks over them
pub written : (p : ℕ) (f : ℕ → Transition → ℕ → ℕ) (ts : List Transition) (state clocks marks out : List ℕ) → p ≤ length state → length marks ≡ p
    → clocks ≡ clocks_by f 0 ts (part_of p (length state - p) state) → out ≡ copied marks (put_mid p (length state - p) state clocks) → out ≡ marks ++ clocks_by f 0 ts (drop p state)
written p f ts state clocks marks out l lm ec eo =
    eo
    ∙ ap (copied marks) (tail-put p state clocks l)
    ∙ over p marks state clocks lm l
    ∙ ap (λ (q : List ℕ). marks ++ q) (ec ∙ ap (λ (q : List ℕ). clocks_by f 0 ts q) (tail-is p state))

pub fired-clocks : (j : ℕ) (marks : List ℕ) (ts : List Transition) (clocks : List ℕ) → clocks_by (renewed_clock (Fired j) marks) 0 ts clocks ≡ clocks_by (kept_clock j marks) 0 ts clocks
unfolding renewed_clock
fired-clocks j marks ts clocks = refl

-- a firing
module _ (ts : List Transition) (j : ℕ) (t : Transition) (marks state : List ℕ) (p clock earliest : ℕ) (ec : clock ≡ get_or state (p + j) 0) (el : earliest ≡ t.earliest) where
  clock-is : clock ≡ get_or (drop p state) j 0
  clock-is = ec ∙ sym (get_or-drop p state j 0)

  pub fire-late : clock < earliest → fired_words ts j t marks (drop p state) ≡ refused 24 (earliest - clock)
  unfolding fired_words
  fire-late l = rw (← clock-is, ← el, lt-ltb clock earliest l)

  pub fire-on : earliest ≤ clock → (mid : List ℕ) (s : Outcome ℕ) → mid ≡ reduced t.arcs marks → s ≡ sums t.arcs mid
      → fired_words ts j t marks (drop p state) ≡ and_then s (λ z. accepted (applied give_arc t.arcs mid ++ clocks_by (kept_clock j mid) 0 ts (drop p state)))
  unfolding fired_words
  fire-on l mid s em es = rw (← clock-is, ← el, le-ltb clock earliest l, ← em) (ap (λ (q : Outcome ℕ). and_then q (λ z. accepted (applied give_arc t.arcs mid ++ clocks_by (kept_clock j mid) 0 ts (drop p state)))) (sym es))

module _ (part arcs marks mid : List ℕ) (ea : arcs ≡ drop 10 part) where
  pub mid-is : (taken : List ℕ) → taken ≡ applied take_arc (arcs_in arcs) marks → mid ≡ applied clear_arc (arcs_in arcs) taken → mid ≡ reduced (transition_in part).arcs marks
  unfolding transition_in reduced
  mid-is taken et em = rw (← ea, ← et) em

  pub sums-of : (s : Outcome ℕ) → s ≡ sums (arcs_in arcs) mid → s ≡ sums (transition_in part).arcs mid
  unfolding transition_in
  sums-of s e = rw (← ea) e

  pub fire-done : (ts : List Transition) (j p : ℕ) (state out : List ℕ) → length mid ≡ p → out ≡ applied give_arc (arcs_in arcs) mid ++ clocks_by (kept_clock j mid) 0 ts (drop (length mid) state)
      → out ≡ applied give_arc (transition_in part).arcs mid ++ clocks_by (kept_clock j mid) 0 ts (drop p state)
  unfolding transition_in
  fire-done ts j p state out l e = rw (← ea, ← l) e

-- a step
pub lowest-most : (ts : List Transition) (marks : List ℕ) (label : ℕ) → lowest ts marks label ≤ length ts
unfolding lowest
lowest-most [] marks label = omega arith
lowest-most (t ∷ ts) marks label = by (stands t marks label) (lowest ts marks label) (length ts) (lowest-most ts marks label)
  where
    by : (b : Bool) (x n : ℕ) → x ≤ n → cond b 0 (x + 1) ≤ suc n
    by true x n l = omega arith
    by false x n l = omega arith

module _ (count j : ℕ) (transitions marks clocks : List ℕ) (label : ℕ) (ej : j ≡ lowest (transitions_in count transitions) marks label) where
  pub step-none : j ≡ count → stepped_words (transitions_in count transitions) label marks clocks ≡ refused 22 label
  unfolding stepped_words
  step-none e = rw (length-transitions count transitions, ← ej, eq-eqb j count e)

  pub step-some : (part : List ℕ) → (j ≡ count → ⊥) → part ≡ part_at j transitions
      → stepped_words (transitions_in count transitions) label marks clocks ≡ fired_words (transitions_in count transitions) j (transition_in part) marks clocks
  unfolding stepped_words
  step-some part e ep =
      let l : j < count = below in
      rw (length-transitions count transitions, ← ej, ne_eqb j count e, transition-at count j transitions (no_transition (transitions_in count transitions)) l, ep)
    where
      below : j < count
      below = omega (arith, lowest-most (transitions_in count transitions) marks label, length-transitions count transitions, ej, e)

-- a wait
module _ (ts : List Transition) (ticks : ℕ) (marks clocks : List ℕ) where
  pub wait-zero : ticks ≡ 0 → waited_words ts ticks marks clocks ≡ refused 21 0
  unfolding waited_words
  wait-zero e = rw (eq-eqb ticks 0 e)

  pub wait-held : (ticks ≡ 0 → ⊥) → wait_held ticks marks 0 ts clocks ≡ true → waited_words ts ticks marks clocks ≡ refused 26 0
  unfolding waited_words
  wait-held e h = rw (ne_eqb ticks 0 e, h)

  pub wait-free : (ticks ≡ 0 → ⊥) → wait_held ticks marks 0 ts clocks ≡ false → waited_words ts ticks marks clocks ≡ accepted (marks ++ clocks_by (renewed_clock (Waited ticks) marks) 0 ts clocks)
  unfolding waited_words
  wait-free e h = rw (ne_eqb ticks 0 e, h)

-- a move
module _ (ts : List Transition) (code argument p : ℕ) (marks state : List ℕ) (em : marks ≡ take p state) (lm : length marks ≡ p) where
  pub move_step : code ≡ 1 → stepped_words ts argument marks (drop (length marks) state) ≡ moved_words ts code argument (take p state) (drop p state)
  unfolding moved_words
  move_step e = rw (e, lm, em)

  pub move-wait : code ≡ 2 → waited_words ts argument marks (drop (length marks) state) ≡ moved_words ts code argument (take p state) (drop p state)
  unfolding moved_words
  move-wait e = rw (e, lm, em)

pub move-none : (ts : List Transition) (code argument : ℕ) (marks clocks : List ℕ) → (code ≡ 1 → ⊥) → (code ≡ 2 → ⊥) → moved_words ts code argument marks clocks ≡ refused 21 0
unfolding moved_words
move-none ts code argument marks clocks a b = rw (ne_eqb code 1 a, ne_eqb code 2 b)

pub marks-are : (p : ℕ) (marks state out : List ℕ) → length marks ≡ p → p ≤ length state → out ≡ copied (take p state) marks → out ≡ take p state
marks-are p marks state out lm l e =
    let f = length-take-le p state l in
    e ∙ rw (le-leb (length (take p state)) (length marks) (omega arith), drop_of_length-le marks (let h : length marks ≤ length (take p state) = omega arith in h), append-nil (take p state))
