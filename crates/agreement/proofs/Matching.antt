-- What is kept at each reachable state, and how an answer of the diagram and one of the net agree.
use Rattle.std.specs.Prelude.{ℕ, suc, ◌+◌, ◌-◌, ◌≤◌, ◌<◌, ◌≡◌, ◌≢◌, Bool, true, false, cond, ◌&&◌, ◌||◌, List, ◌∷◌, get_or, leb, eqb}
use Rattle.std.proofs.Common.{zero-le, subst, sym, ◌∙◌, ap, arith, zero-add, leb-true, leb-false, eqb-true, lt-ltb, le-ltb, le-leb}
use Rattle.std.proofs.Math.Path.{fun_ext}
use Rattle.std.proofs.lemmas.Bool.{eqb-false, lt-leb}
use Rattle.effbd.specs.Answers.{Outcome, accepted, refused}
use Rattle.effbd.specs.Diagrams.{Diagram, and_close, and_open, branch, end, function, is_kind, it_open, kind, row}
use Rattle.effbd.specs.Counts.{count_total, tally}
use Rattle.effbd.specs.Image.{image_mark, ready_or_done, running}
use Rattle.effbd.specs.Layout.{Count, P, Place, Q, R, by_place}
use Rattle.effbd.specs.Nesting.{owner}
use Rattle.effbd.specs.Patterns.{Pattern, clears_rows, marks_p, no_pattern, none, one_at, patterns, patterns_as, restores_r}
use Rattle.effbd.specs.Ranges.{only}
use Rattle.effbd.specs.States.{State, activate, clear_rows}
use Rattle.ranges.specs.Tests.{and_left, and_right, clash, cond_same, decide}
use Rattle.ranges.specs.RangeLaws.{only-refl}
use Rattle.agreement.specs.Basics.{kind-in, same-eq}
use Rattle.agreement.specs.Counts.{most-le, most_of}
use Rattle.agreement.specs.Refusals.{net_number, net_value}
use Rattle.agreement.specs.Named.{lowest_over, NamedState, after, all_places, enabled, named_fire, named_image, named_step_at}
use Rattle.agreement.specs.Tokens.{Real}
use Rattle.agreement.proofs.Tokens.{cleared-marks, enabled-no, enabled-yes, kept-marks, places-elim, places-intro}

pub bit_le : (b : Bool) → cond b 1 0 ≤ 1
bit_le true = omega arith
bit_le false = omega arith

-- a clock off a running row is 0, so that it may be kept or not
pub clock-kept : (a c : ℕ) → (a ≢ 2 → c ≡ 0) → c ≡ cond (leb 1 (running a - 0)) c 0
clock-kept a c g = decide (eqb a 2) (λ e. rw e) (λ e. rw (g (eqb-false a 2 e)) (simp cond_same))

module _ (d : Diagram) where
  pub record Valid (s : State) : Type 0 where
    pub small : (q : ℕ) → s.activity q ≤ 3
    pub runs : (q : ℕ) → s.activity q ≡ 2 → kind d q ≡ function
    pub done : (q : ℕ) → s.activity q ≡ 3 → kind d q ≡ branch
    pub readies : (q : ℕ) → s.activity q ≡ 1 → kind d q ≢ branch
    pub opened : (q : ℕ) → s.activity q ≡ 1 → kind d q ≢ and_close
    pub still : (q : ℕ) → s.activity q ≢ 2 → s.clock q ≡ 0
    pub turned : (q : ℕ) → s.turns q ≤ (row d q).first
    pub timely : (q : ℕ) → s.clock q ≤ (row d q).second
    pub spun : (q : ℕ) → kind d q ≢ it_open → s.turns q ≡ 0
    pub forked : (q : ℕ) → s.activity q ≡ 3 → kind d (owner d q) ≡ and_open
    pub counted : (c : ℕ) → c < count_total d → s.count c ≤ most_of d (tally d c)
    pub bounded : (q : ℕ) → (row d q).first ≤ 65535

  pub ready-le : (a : ℕ) → ready_or_done a ≤ 1
  ready-le a = bit_le (eqb a 1 || eqb a 3)

  -- the places of rows; a mark there at an image fits, whatever the counts are
  abbrev pub RowPlace : Place → Type 0
  RowPlace (P q) = Unit {0}
  RowPlace (Q q) = Unit {0}
  RowPlace (R q) = Unit {0}
  RowPlace (Count k) = ⊥

  pub marks-fit-row : (s : State) → Valid s → (p : Place) → RowPlace p → image_mark d s p ≤ 65535
  marks-fit-row s v (P q) l = let h = ready-le (s.activity q) in omega arith
  marks-fit-row s v (Q q) l = decide (is_kind d it_open q)
      (λ e. rw e (omega (arith, v.turned q, v.bounded q)))
      (λ e. rw e (omega (arith, bit_le (eqb (s.activity q) 2))))
  marks-fit-row s v (R q) l = decide (is_kind d it_open q)
      (λ e. rw e (omega (arith, v.turned q, v.bounded q)))
      (λ e. rw e (omega arith))
  marks-fit-row s v (Count k) l = absurd l

  pub marks-fit : (s : State) → Valid s → (p : Place) → Real d p → image_mark d s p ≤ 65535
  marks-fit s v (P q) l = marks-fit-row s v (P q) tt
  marks-fit s v (Q q) l = marks-fit-row s v (Q q) tt
  marks-fit s v (R q) l = marks-fit-row s v (R q) tt
  marks-fit s v (Count c) l = let a = v.counted c l in let b = most-le d (tally d c) in omega arith

  -- the timed transition of a FUNCTION
  pub second-enabled : (q : ℕ) → kind d q ≡ function → (m : Place → ℕ) → enabled d (get_or (patterns d q) 1 no_pattern) m ≡ leb 1 (m (Q q))
  second-enabled q k m = rw k (decide (leb 1 (m (Q q)))
      (λ e. rw e (enabled-yes d t m (λ p x. covers (leb-true 1 (m (Q q)) e) p)))
      (λ e. let l : m (Q q) < 1 = leb-false 1 (m (Q q)) e in
      rw e (enabled-no d t m (Q q) (kind-in d q ne) (rw (only-refl q) l))))
    where
      t : Pattern
      t = get_or (patterns_as d function q) 1 no_pattern

      ne : kind d q ≢ end
      ne e = let z : ◌≡◌ {A = ℕ} 0 1 = cc in omega arith

      covers : 1 ≤ m (Q q) → (p : Place) → t.take p ≤ m p
      covers l (P x) = zero-le
      covers l (Q x) = decide (only q x) (λ e. rw (e, eqb-true x q e) l) (λ e. rw e zero-le)
      covers l (R x) = zero-le
      covers l (Count x) = zero-le

  pub moved-clocks : (r j : ℕ) (t : Pattern) (s s' : State)
      → ((q : ℕ) → kind d q ≡ function → s'.clock q ≡ cond (only r q && only j 1) 0 (cond (leb 1 (after t (image_mark d s) (Q q))) (s.clock q) 0))
      → (q i : ℕ) → (named_image d s').clock q i ≡ (named_fire d r j t (named_image d s)).clock q i
  moved-clocks r j t s s' h q i = decide (is_kind d function q && only 1 i)
      (λ e. let k : kind d q ≡ function = same-eq (kind d q) function (and_left (is_kind d function q) (only 1 i) e) in
      let one : i ≡ 1 = eqb-true i 1 (and_right (is_kind d function q) (only 1 i) e) in
      rw (e, one, second-enabled q k (after t (image_mark d s))) (h q k))
      (λ e. rw (e, cond_same, cond_same))

  pub fired : (r j : ℕ) (t : Pattern) (s s' : State)
      → ((p : Place) → image_mark d s' p ≡ after t (image_mark d s) p + t.give p)
      → ((q : ℕ) → kind d q ≡ function → s'.clock q ≡ cond (only r q && only j 1) 0 (cond (leb 1 (after t (image_mark d s) (Q q))) (s.clock q) 0))
      → named_image d s' ≡ named_fire d r j t (named_image d s)
  fired r j t s s' h g = λ i. record { mark = fun_ext h i; clock = fun_ext (λ q. fun_ext (λ x. moved-clocks r j t s s' g q x)) i }

  -- both accept, with the image kept and K at the new state, or both refuse, the net as it follows from the diagram (o is the state, r the row asked)
  abbrev pub Agree : (State → Type 0) → State → ℕ → Outcome State → Outcome NamedState → Type 0
  Agree K o r (accepted s) (accepted n) = (named_image d s ≡ n) × K s
  Agree K o r (accepted s) (refused a b) = ⊥
  Agree K o r (refused a b) (accepted n) = ⊥
  Agree K o r (refused a b) (refused a' b') = (a' ≡ net_number a) × (b' ≡ net_value d o r a b)

  pub goes : (t : Pattern) (ts : List Pattern) (r j : ℕ) (s s' : State) → enabled d t (image_mark d s) ≡ true → t.earliest ≤ (named_image d s).clock r j
      → named_image d s' ≡ named_fire d r j t (named_image d s) → Valid s' → named_step_at d (t ∷ ts) j r (named_image d s) ≡ accepted (named_image d s')
  goes t ts r j s s' on due e v = rw (on, le-ltb ((named_image d s).clock r j) t.earliest due, fits, e)
    where
      fits : all_places d (λ p. leb (after t (image_mark d s) p + t.give p) 65535) ≡ true
      fits = places-intro d (λ p. leb (after t (image_mark d s) p + t.give p) 65535)
          (λ p l. le-leb (after t (image_mark d s) p + t.give p) 65535 (subst (λ (n : NamedState). n.mark p ≤ 65535) e (marks-fit s' v p l)))

  pub stays : (t : Pattern) (ts : List Pattern) (r j : ℕ) (s : State) (p : Place) → Real d p → image_mark d s p < t.take p
      → named_step_at d (t ∷ ts) j r (named_image d s) ≡ named_step_at d ts (suc j) r (named_image d s)
  stays t ts r j s p l h = rw (enabled-no d t (image_mark d s) p l h)

  pub early : (t : Pattern) (ts : List Pattern) (r j : ℕ) (s : State) → enabled d t (image_mark d s) ≡ true → (named_image d s).clock r j < t.earliest
      → named_step_at d (t ∷ ts) j r (named_image d s) ≡ refused 24 (t.earliest - (named_image d s).clock r j)
  early t ts r j s on h = rw (on, lt-ltb ((named_image d s).clock r j) t.earliest h)

  pub full : (t : Pattern) (ts : List Pattern) (r j : ℕ) (s : State) (p : Place) → enabled d t (image_mark d s) ≡ true → t.earliest ≤ (named_image d s).clock r j
      → Real d p → 65535 < after t (image_mark d s) p + t.give p → named_step_at d (t ∷ ts) j r (named_image d s) ≡ refused 25 (lowest_over d t (image_mark d s))
  full t ts r j s p on due l h = rw (on, le-ltb ((named_image d s).clock r j) t.earliest due, overflows)
    where
      f : Place → Bool
      f x = leb (after t (image_mark d s) x + t.give x) 65535

      overflows : all_places d f ≡ false
      overflows = decide (all_places d f) (λ e. clash (places-elim d f e p l) (lt-leb (after t (image_mark d s) p + t.give p) 65535 h)) (λ e. e)

  -- a step that enters: from s its takes and what it does at its own row lead to m; then the rows W are cleared and the rows E made active
  pub record Passing (r j : ℕ) (t : Pattern) (W E : ℕ → Bool) (s m : State) : Type 0 where
    pub clears : (p : Place) → t.clear p ≡ clears_rows d W p
    -- a place that is not cleared
    pub kept : (p : Place) → clears_rows d W p ≡ false → image_mark d m p + marks_p E p ≡ (image_mark d s p - t.take p) + t.give p
    pub timed : (q : ℕ) → kind d q ≡ function → W q ≡ false
        → m.clock q ≡ cond (only r q && only j 1) 0 (cond (leb 1 (image_mark d s (Q q) - t.take (Q q))) (s.clock q) 0)
    -- a place that is cleared gets what it has in a fresh state
    pub fresh : (p : Place) → clears_rows d W p ≡ true → t.give p ≡ by_place (one_at E) none (restores_r d W) none p
    -- a row that is made active and not cleared was idle
    pub idle : (q : ℕ) → W q ≡ false → E q ≡ true → m.activity q ≡ 0
    pub valid : Valid m

  pub passing-fires : {r j : ℕ} {t : Pattern} {W E : ℕ → Bool} {s m : State} → Passing r j t W E s m
      → named_image d (activate d E (clear_rows W m)) ≡ named_fire d r j t (named_image d s)
  passing-fires {r} {j} {t} {W} {E} {s} {m} h = fired r j t s (activate d E (clear_rows W m)) marks clocks
    where
      marks : (p : Place) → image_mark d (activate d E (clear_rows W m)) p ≡ after t (image_mark d s) p + t.give p
      marks p = at_place ∙ ap (λ (b : Bool). cond b 0 (image_mark d s p - t.take p) + t.give p) (sym (h.clears p))
        where
          at_place : image_mark d (activate d E (clear_rows W m)) p ≡ cond (clears_rows d W p) 0 (image_mark d s p - t.take p) + t.give p
          at_place = decide (clears_rows d W p)
              (λ w. rw w (cleared-marks d W E m h.idle p w ∙ (sym (h.fresh p w) ∙ sym (zero-add (t.give p)))))
              (λ w. rw w (kept-marks d W E m h.idle p w ∙ h.kept p w))

      clocks : (q : ℕ) → kind d q ≡ function → cond (E q) 0 (cond (W q) 0 (m.clock q)) ≡ cond (only r q && only j 1) 0 (cond (leb 1 (after t (image_mark d s) (Q q))) (s.clock q) 0)
      clocks q k = rw (h.clears (Q q)) (decide (W q)
          (λ w. rw w (simp cond_same))
          (λ w. rw w (decide (E q)
          (λ e. rw e (sym (h.valid.still q (λ z. let y = h.idle q w e in absurd (omega arith))) ∙ h.timed q k w))
          (λ e. rw e (h.timed q k w)))))
