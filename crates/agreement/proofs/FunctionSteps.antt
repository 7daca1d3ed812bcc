-- FUNCTION: its start and its end.
use Prim.Native.Nat.{◌*◌, ℕ, suc, ◌+◌, ◌-◌, ◌≤◌, ◌<◌, zero-le}
use Rattle.std.specs.Prelude.{◌≡◌, refl, ◌≢◌, Bool, ◌&&◌, leb, ltb, eqb, get_or}
use Rattle.std.proofs.Math.Bool.{true, false, cond, and-false}
use mathlib.Core.List.{[], ◌∷◌}
use Rattle.std.proofs.Common.{arith}
use Rattle.std.proofs.Math.Nat.{add-zero, sub-zero}
use borrow.Author.Tests.{ltb-true, ltb-false, leb-true, leb-false, eqb-true, eqb-false, le-leb, ne_eqb}
use Rattle.effbd.specs.Answers.{refused}
use Rattle.effbd.specs.Diagrams.{Diagram, and_open, branch, end, function, is_kind, it_open, kind, row, row_count}
use Rattle.effbd.specs.Counts.{count_total, gives, takes}
use Rattle.effbd.specs.Image.{image_mark, ready_or_done}
use Rattle.effbd.specs.Layout.{Count, P, Place, Q, R, by_place, place_of}
use Rattle.effbd.specs.Moves.{end_function, enough, is_there, start_function, step_as, sum_fits, sums_fit}
use Rattle.effbd.specs.Patterns.{Pattern, clears_rows, marks_p, no_pattern, none, one_at, patterns_as, restores_r}
use Rattle.effbd.specs.Ranges.{nobody, only}
use Rattle.effbd.specs.States.{State, enter, entered, entered_row, killed, make_idle, set_counts, set_running, count_at}
use Rattle.ranges.specs.Tests.{clash, decide}
use Rattle.ranges.specs.RangeLaws.{all-elim, all-find, only-refl, least-past}
use Rattle.agreement.specs.Basics.{kind-in, not-kind}
use Rattle.agreement.specs.Counts.{most-given}
use Rattle.agreement.specs.Refusals.{lowest_count}
use Rattle.agreement.proofs.Invariant.{Inv, Sound, inv-idle, inv-with, sound-idle, sound-inv}
use Rattle.agreement.proofs.Matching.{Agree, Passing, Valid, early, fired, full, goes, passing-fires, stays, RowPlace, ready-le, bit_le, marks-fit-row, clock-kept}
use Rattle.agreement.specs.Named.{after, enabled, named_fire, named_image, named_step_at, lowest_over}
use Rattle.agreement.specs.Structure.{Laws}
use Rattle.agreement.proofs.TokenSteps.{live-zero, sound-enter, sound-one}
use Rattle.agreement.specs.Tokens.{Real}
use Rattle.agreement.proofs.Tokens.{enabled-yes}
use Rattle.agreement.proofs.Numbering.{place-row, place-I}

-- what may be cleared before something is added
either-le : (b : Bool) (m n : ℕ) → m + n ≤ 65535 → cond b 0 m + n ≤ 65535
either-le true m n h = omega arith
either-le false m n h = h

module _ (d : Diagram) where
  module _ (r : ℕ) (s : State) (i : Inv d s) (k : kind d r ≡ function) where
    v : Valid d s
    v = i.valid

    inside : r < row_count d
    inside = kind-in d r (not-kind d r k end refl)

    t₁ : Pattern
    t₁ = get_or (patterns_as d function r) 0 no_pattern

    t₂ : Pattern
    t₂ = get_or (patterns_as d function r) 1 no_pattern

    -- the start
    begun : State
    begun = set_running r (set_counts (λ x. s.count x - takes d r x) s)

    begun-marks : s.activity r ≡ 1 → (p : Place) → image_mark d begun p ≡ after t₁ (image_mark d s) p + t₁.give p
    unfolding begun t₁
    begun-marks a (P q) = decide (only r q) (λ e. rw (e, eqb-true q r e, a)) (λ e. rw e (simp (sub-zero, add-zero)))
    begun-marks a (Q q) = decide (only r q) (λ e. rw (e, eqb-true q r e, a, k)) (λ e. rw e (simp (sub-zero, add-zero)))
    begun-marks a (R q) = simp (sub-zero, add-zero)
    begun-marks a (Count x) = simp add-zero

    begun-clock : s.activity r ≡ 1 → (q : ℕ) → kind d q ≡ function
        → begun.clock q ≡ cond (only r q && only 0 1) 0 (cond (leb 1 (after t₁ (image_mark d s) (Q q))) (s.clock q) 0)
    unfolding begun t₁
    begun-clock a q kq = rw (and-false, kq) (decide (only r q)
        (λ e. rw (e, eqb-true q r e, a))
        (λ e. rw e (clock-kept (s.activity q) (s.clock q) (v.still q))))

    begun-inv : s.activity r ≡ 1 → Inv d begun
    unfolding begun
    begun-inv a = record {
      valid = record {
        small = λ q. decide (only r q) (λ e. rw e (omega arith)) (λ e. rw e (v.small q));
        runs = λ q. decide (only r q) (λ e h. rw (eqb-true q r e) k) (λ e. rw e (v.runs q));
        done = λ q. decide (only r q) (λ e. rw e (λ h. absurd (omega arith))) (λ e. rw e (v.done q));
        readies = λ q. decide (only r q) (λ e. rw e (λ h. absurd (omega arith))) (λ e. rw e (v.readies q));
        opened = λ q. decide (only r q) (λ e. rw e (λ h. absurd (omega arith))) (λ e. rw e (v.opened q));
        still = λ q. decide (only r q) (λ e h. rw e) (λ e. rw e (v.still q));
        turned = v.turned;
        timely = λ q. decide (only r q) (λ e. rw e zero-le) (λ e. rw e (v.timely q));
        spun = v.spun;
        forked = λ q. decide (only r q) (λ e. rw e (λ h. absurd (omega arith))) (λ e. rw e (v.forked q));
        counted = λ x l. let h = v.counted x l in omega arith;
        bounded = v.bounded;
      };
      apart = λ x y hx hy. i.apart x y (was x hx) (was y hy);
    }
      where
        was : (x : ℕ) → cond (only r x) 2 (s.activity x) ≢ 0 → s.activity x ≢ 0
        was x = decide (only r x) (λ e h z. let y : s.activity x ≡ 1 = rw (eqb-true x r e) a in absurd (omega arith)) (λ e. rw e (λ h. h))

    -- the end
    spent : State
    spent = make_idle (only r) (set_counts (λ x. s.count x + gives d r x) s)

    module _ (L : Laws d) (a : s.activity r ≡ 2) where
      W : ℕ → Bool
      W = killed d (suc r)

      sound : Sound d W (entered d (suc r)) (make_idle (only r) s).activity
      unfolding W
      sound = sound-enter d L (suc r) nobody _ (sound-one d r (entered_row d (suc r)) nobody s i (L.lands (suc r))
          (λ x X w y z. L.seq r X (not-kind d r k and_open refl) (not-kind d r k end refl)) (λ z. absurd (omega arith)))

      ended-fires : Valid d spent → named_image d (enter d (suc r) spent) ≡ named_fire d r 1 t₂ (named_image d s)
      unfolding spent t₂ W
      ended-fires vs = passing-fires d moved
        where
          kept : (p : Place) → clears_rows d W p ≡ false → image_mark d spent p + marks_p (entered d (suc r)) p ≡ (image_mark d s p - t₂.take p) + t₂.give p
          kept (P q) w = decide (only r q) (λ e. rw (e, eqb-true q r e, a)) (λ e. rw e (simp sub-zero))
          kept (Q q) w = decide (only r q) (λ e. rw (e, eqb-true q r e, a, k)) (λ e. rw e (simp sub-zero))
          kept (R q) w = rw w (simp sub-zero)
          kept (Count x) w = simp (sub-zero, add-zero)

          again : (p : Place) → clears_rows d W p ≡ true → t₂.give p ≡ by_place (one_at (entered d (suc r))) none (restores_r d W) none p
          again (P q) w = refl
          again (Q q) w = refl
          again (R q) w = refl
          again (Count x) w = clash w refl

          moved : Passing d r 1 t₂ W (entered d (suc r)) s spent
          moved = record {
            clears = λ p. refl;
            kept = kept;
            timed = λ q kq w. rw kq (decide (only r q) (λ e. rw e) (λ e. rw e (clock-kept (s.activity q) (s.clock q) (v.still q))));
            fresh = again;
            idle = sound-idle d W (entered d (suc r)) (make_idle (only r) s).activity sound;
            valid = vs;
          }

    -- what the FUNCTION's state is
    off : s.activity r ≢ 1 → ready_or_done (s.activity r) ≡ 0
    off h = live-zero d (s.activity r) h (λ z. not-kind d r k branch refl (v.done r z))

    not-running : s.activity r ≢ 2 → named_step_at d (t₂ ∷ []) 1 r (named_image d s) ≡ refused 22 r
    unfolding t₂
    not-running h = stays d t₂ [] r 1 s (Q r) inside (rw (k, only-refl r, ne_eqb (s.activity r) 2 h) (omega arith))

    not-ready : s.activity r ≢ 1 → named_step_at d (t₁ ∷ t₂ ∷ []) 0 r (named_image d s) ≡ named_step_at d (t₂ ∷ []) 1 r (named_image d s)
    unfolding t₁
    not-ready h = stays d t₁ (t₂ ∷ []) r 0 s (P r) inside (rw (only-refl r, off h) (omega arith))

    agree-start : s.activity r ≡ 1 → Agree d (Inv d) s r (start_function d r s) (named_step_at d (t₁ ∷ t₂ ∷ []) 0 r (named_image d s))
    unfolding begun t₁
    agree-start a = decide (enough d r s)
        (λ e. rw (goes d t₁ (t₂ ∷ []) r 0 s begun (enabled-yes d t₁ (image_mark d s) (cov e)) zero-le (fired d r 0 t₁ s begun (begun-marks a) (begun-clock a)) (begun-inv a).valid, e)
        (refl, begun-inv a))
        (λ e. let w = all-find (count_total d) (is_there d r s) e in
        rw (stays d t₁ (t₂ ∷ []) r 0 s (Count w.0) w.1 (leb-false (takes d r w.0) (s.count w.0) w.2), not-running (λ z. absurd (omega arith)), e) (refl, refl))
      where
        cov : enough d r s ≡ true → (p : Place) → Real d p → t₁.take p ≤ image_mark d s p
        cov e (P q) l = decide (only r q) (λ f. rw (f, eqb-true q r f, a) (omega arith)) (λ f. rw f zero-le)
        cov e (Q q) l = zero-le
        cov e (R q) l = zero-le
        cov e (Count x) l = leb-true (takes d r x) (s.count x) (all-elim (count_total d) (is_there d r s) e x l)

    agree-finish : Laws d → s.activity r ≡ 2 → Agree d (Inv d) s r (end_function d r s) (named_step_at d (t₂ ∷ []) 1 r (named_image d s))
    unfolding spent t₂
    agree-finish L a = decide (ltb (s.clock r) (row d r).first)
        (λ e. rw (early d t₂ [] r 1 s on (rw k (ltb-true (s.clock r) (row d r).first e)), e) (refl, rw k))
        (λ e. decide (sums_fit d r s)
        (λ f. rw (goes d t₂ [] r 1 s (enter d (suc r) spent) on (due e) (ended-fires L a (inv-spent f).valid) (inv f).valid, e, f) (refl, inv f))
        (λ f. let w = all-find (count_total d) (sum_fits d r s) f in
        let l : 65535 < s.count w.0 + gives d r w.0 = leb-false (s.count w.0 + gives d r w.0) 65535 w.2 in
        rw (full d t₂ [] r 1 s (Count w.0) on (due e) w.1 (rw sub-zero l), e, f) (refl, lowest)))
      where
        on : enabled d t₂ (image_mark d s) ≡ true
        on = enabled-yes d t₂ (image_mark d s) cov
          where
            cov : (p : Place) → Real d p → t₂.take p ≤ image_mark d s p
            cov (P q) l = zero-le
            cov (Q q) l = decide (only r q) (λ e. rw (e, eqb-true q r e, k, a) (omega arith)) (λ e. rw e zero-le)
            cov (R q) l = zero-le
            cov (Count x) l = zero-le

        due : ltb (s.clock r) (row d r).first ≡ false → t₂.earliest ≤ (named_image d s).clock r 1
        due e = rw k (ltb-false (s.clock r) (row d r).first e)

        -- only a count can pass 65,535
        fits : (p : Place) → RowPlace d p → after t₂ (image_mark d s) p + t₂.give p ≤ 65535
        fits (P q) l = either-le (killed d (suc r) q) _ _ (let a = ready-le d (s.activity q) in let b = bit_le (entered d (suc r) q) in omega arith)
        fits (Q q) l = either-le (killed d (suc r) q) _ _ (let a = marks-fit-row d s v (Q q) l in omega arith)
        fits (R q) l = decide (killed d (suc r) q)
            (λ e. rw e (decide (is_kind d it_open q) (λ f. rw f (let b = v.bounded q in omega arith)) (λ f. rw f (omega arith))))
            (λ e. rw e (let a = marks-fit-row d s v (R q) l in omega arith))
        fits (Count x) l = absurd l

        lowest : lowest_over d t₂ (image_mark d s) ≡ count_at d (lowest_count d s r)
        lowest = least-past (3 * row_count d) (count_total d) _ _
            (λ p l. rw (le-leb (after t₂ (image_mark d s) (place_of d p) + t₂.give (place_of d p)) 65535 (fits (place_of d p) (place-row d p l))))
            (λ x l. rw (place-I d x, sub-zero))

        inv-spent : sums_fit d r s ≡ true → Inv d spent
        inv-spent f = inv-idle d (only r) (set_counts (λ x. s.count x + gives d r x) s) (inv-with d s.turns (λ x. s.count x + gives d r x) s i v.turned v.spun
            (λ x l. most-given d r x (s.count x) (v.counted x l) (leb-true (s.count x + gives d r x) 65535 (all-elim (count_total d) (sum_fits d r s) f x l))))

        inv : sums_fit d r s ≡ true → Inv d (enter d (suc r) spent)
        inv f = sound-inv d (killed d (suc r)) (entered d (suc r)) spent (inv-spent f) (unfold W in sound L a)

    pub agree-fun : Laws d → Agree d (Inv d) s r (step_as d function r s) (named_step_at d (patterns_as d function r) 0 r (named_image d s))
    unfolding t₁ t₂
    agree-fun L = decide (eqb (s.activity r) 1)
        (λ e. rw e (agree-start (eqb-true (s.activity r) 1 e)))
        (λ e. decide (eqb (s.activity r) 2)
        (λ f. rw (e, f, not-ready (eqb-false (s.activity r) 1 e)) (agree-finish L (eqb-true (s.activity r) 2 f)))
        (λ f. rw (e, f, not-ready (eqb-false (s.activity r) 1 e), not-running (eqb-false (s.activity r) 2 f)) (refl, refl)))
