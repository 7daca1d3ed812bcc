-- IT open, LE and EXIT.
use Prim.Native.Nat.{ℕ, suc, ◌+◌, ◌-◌, ◌≤◌, ◌<◌, zero-le}
use Rattle.std.specs.Prelude.{◌≡◌, ◌≢◌, Bool, true, false, ◌&&◌, ◌||◌, ltb, eqb, get_or}
use Rattle.std.proofs.Math.Path.{refl}
use Rattle.std.proofs.Common.{sym, ◌∙◌, ap, arith}
use Rattle.std.proofs.Math.Bool.{cond}
use mathlib.Core.List.{[], ◌∷◌}
use Rattle.std.proofs.Math.Nat.{sub-zero}
use borrow.Author.Tests.{ltb-true, ltb-false, eqb-true, eqb-false}
use Rattle.effbd.specs.Answers.{accepted, refused}
use Rattle.effbd.specs.Diagrams.{Diagram, and_open, box_exit, branch, end, is_kind, it_open, kind, loop_exit, row, row_count}
use Rattle.effbd.specs.Image.{image_mark, ready_or_done}
use Rattle.effbd.specs.Layout.{Count, P, Place, Q, R, by_place}
use Rattle.effbd.specs.Moves.{step_as}
use Rattle.effbd.specs.Nesting.{box, close, in_loop, loop, outlet, owner, scenario}
use Rattle.effbd.specs.Patterns.{Pattern, at_once, clears_rows, marks_p, no_pattern, none, one_at, patterns_as, restores_r}
use Rattle.effbd.specs.Ranges.{either, nobody, only}
use Rattle.effbd.specs.States.{State, enter, entered, entered_row, killed, make_idle, set_turns}
use Rattle.ranges.specs.Tests.{clash, decide}
use Rattle.ranges.specs.RangeLaws.{only-refl}
use Rattle.agreement.specs.Basics.{kind-in, not-kind}
use Rattle.agreement.proofs.Invariant.{Inv, Sound, inv-idle, inv-with, sound-idle, sound-inv}
use Rattle.agreement.proofs.Matching.{Agree, Passing, Valid, goes, passing-fires, stays}
use Rattle.agreement.specs.Named.{named_fire, named_image, named_step_at}
use Rattle.agreement.specs.Structure.{Laws, side}
use Rattle.agreement.proofs.TokenSteps.{agree-leave, branch-kind, branch-owner, live-zero, sound-enter, sound-one, after-close, taken-P, taken-clock}
use Rattle.agreement.specs.Tokens.{Real}
use Rattle.agreement.proofs.Tokens.{enabled-yes}

module _ (d : Diagram) (L : Laws d) where
  module _ (r : ℕ) (s : State) (i : Inv d s) (k : kind d r ≡ it_open) where
    v : Valid d s
    v = i.valid

    inside : r < row_count d
    inside = kind-in d r (not-kind d r k end refl)

    -- both ways of an IT open, ready: its turns become n and q is entered, which stands where it stands
    module _ (a : s.activity r ≡ 1) (n q : ℕ) (few : n ≤ (row d r).first) (stands : (X : ℕ) → side d X (entered_row d q) ≡ side d X r) where
      turned : State
      turned = set_turns r n (make_idle (only r) s)

      turned-inv : Inv d turned
      unfolding turned
      turned-inv = inv-with d (λ x. cond (only r x) n (s.turns x)) s.count (make_idle (only r) s) (inv-idle d (only r) s i)
          (λ x. decide (only r x) (λ e. rw (e, eqb-true x r e) few) (λ e. rw e (v.turned x)))
          (λ x z. decide (only r x) (λ e. absurd (z (rw (eqb-true x r e) k))) (λ e. rw e (v.spun x z))) v.counted

      turn-sound : Sound d (killed d q) (entered d q) turned.activity
      unfolding turned
      turn-sound = sound-enter d L q nobody _ (sound-one d r (entered_row d q) nobody s i (L.lands q) (λ x Y w y z. stands Y) (λ z. absurd (omega arith)))

      turn-inv : Inv d (enter d q (set_turns r n (make_idle (only r) s)))
      unfolding turned
      turn-inv = sound-inv d (killed d q) (entered d q) turned turned-inv turn-sound

      ready : (x : ℕ) → only r x ≡ true → ready_or_done (s.activity x) ≡ 1
      ready x e = rw (eqb-true x r e, a)

      -- weights at Q and R off row r are 0; R is given back at the rows B, at most r, and where it is cleared
      turn-fires : (j : ℕ) (tq tr gq : ℕ → ℕ) (B : ℕ → Bool) → ((x : ℕ) → only r x ≡ false → (tq x ≡ 0) × (tr x ≡ 0) × (gq x ≡ 0) × (B x ≡ false))
          → ((x : ℕ) → killed d q x ≡ true → gq x ≡ 0)
          → n ≡ (s.turns r - tq r) + gq r → (row d r).first - n ≡ (((row d r).first - s.turns r) - tr r) + cond (B r) (row d r).first 0
          → named_image d (enter d q (set_turns r n (make_idle (only r) s)))
          ≡ named_fire d r j (at_once (by_place (one_at (only r)) tq tr none) (clears_rows d (killed d q)) (by_place (one_at (entered d q)) gq (restores_r d (either B (killed d q))) none)) (named_image d s)
      unfolding turned
      turn-fires j tq tr gq B off out hq hr = passing-fires d moved
        where
          t : Pattern
          t = at_once (by_place (one_at (only r)) tq tr none) (clears_rows d (killed d q)) (by_place (one_at (entered d q)) gq (restores_r d (either B (killed d q))) none)

          kept : (p : Place) → clears_rows d (killed d q) p ≡ false → image_mark d turned p + marks_p (entered d q) p ≡ (image_mark d s p - t.take p) + t.give p
          kept (P x) w = taken-P (only r x) (s.activity x) _ (ready x)
          kept (Q x) w = decide (only r x)
              (λ e. rw (e, eqb-true x r e, k) (omega arith))
              (λ e. rw (e, (off x e).0, (off x e).2) (simp sub-zero))
          kept (R x) w = rw w (decide (only r x)
              (λ e. rw (e, eqb-true x r e, k) (own (B r) hr))
              (λ e. rw (e, (off x e).1, (off x e).3) (simp sub-zero)))
            where
              own : (b : Bool) → (row d r).first - n ≡ (((row d r).first - s.turns r) - tr r) + cond b (row d r).first 0
                  → ((row d r).first - n) + 0 ≡ (((row d r).first - s.turns r) - tr r) + cond ((b || false) && true) (row d r).first 0
              own true e = omega arith
              own false e = omega arith
          kept (Count x) w = simp sub-zero

          again : (p : Place) → clears_rows d (killed d q) p ≡ true → t.give p ≡ by_place (one_at (entered d q)) none (restores_r d (killed d q)) none p
          again (P x) w = refl
          again (Q x) w = out x w
          again (R x) w = rw w (go (B x) (is_kind d it_open x))
            where
              go : (b i : Bool) → cond ((b || true) && i) (row d x).first 0 ≡ cond i (row d x).first 0
              go true i = refl
              go false i = refl
          again (Count x) w = refl

          moved : Passing d r j t (killed d q) (entered d q) s turned
          moved = record {
            clears = λ p. refl;
            kept = kept;
            timed = λ x kx w. decide (only r x)
                (λ e. absurd (not-kind d x kx it_open refl (rw (eqb-true x r e) k)))
                (λ e. rw (e, (off x e).0, kx) (rw e at (taken-clock (only r x) (s.activity x) (s.clock x) (ready x) (v.still x))));
            fresh = again;
            idle = sound-idle d (killed d q) (entered d q) turned.activity turn-sound;
            valid = turned-inv.valid;
          }

    t₁ : Pattern
    t₁ = get_or (patterns_as d it_open r) 0 no_pattern

    t₂ : Pattern
    t₂ = get_or (patterns_as d it_open r) 1 no_pattern

    unready : s.activity r ≢ 1 → named_step_at d (patterns_as d it_open r) 0 r (named_image d s) ≡ refused 22 r
    unfolding t₁ t₂
    unready h = stays d t₁ (t₂ ∷ []) r 0 s (P r) inside l ∙ stays d t₂ [] r 1 s (P r) inside l
      where
        l : ready_or_done (s.activity r) < cond (only r r) 1 0
        l = rw (only-refl r, live-zero d (s.activity r) h (λ z. not-kind d r k branch refl (v.done r z))) (omega arith)

    quiet : (x : ℕ) → killed d (suc r) x ≡ false
    unfolding killed
    quiet x = rw (L.quiet r (rw k) (not-kind d r k and_open refl))

    agree-again : s.activity r ≡ 1 → s.turns r < (row d r).first
        → Agree d (Inv d) s r (accepted (enter d (suc r) (set_turns r (suc (s.turns r)) (make_idle (only r) s)))) (named_step_at d (patterns_as d it_open r) 0 r (named_image d s))
    unfolding t₁ t₂
    agree-again a l = rw (goes d t₁ (t₂ ∷ []) r 0 s _ (enabled-yes d t₁ (image_mark d s) cov) zero-le e inv.valid) (refl, inv)
      where
        stands : (X : ℕ) → side d X (entered_row d (suc r)) ≡ side d X r
        stands X = L.seq r X (not-kind d r k and_open refl) (not-kind d r k end refl)

        inv : Inv d (enter d (suc r) (set_turns r (suc (s.turns r)) (make_idle (only r) s)))
        inv = turn-inv a (suc (s.turns r)) (suc r) l stands

        e : named_image d (enter d (suc r) (set_turns r (suc (s.turns r)) (make_idle (only r) s))) ≡ named_fire d r 0 t₁ (named_image d s)
        e = turn-fires a (suc (s.turns r)) (suc r) l stands 0 none (one_at (only r)) (one_at (only r)) nobody
            (λ q f. (refl, rw f, rw f, refl)) (λ x w. clash w (quiet x)) (rw (only-refl r) (omega arith)) (rw (only-refl r) (omega arith))

        cov : (p : Place) → Real d p → t₁.take p ≤ image_mark d s p
        cov (P q) x = decide (only r q) (λ f. rw (f, eqb-true q r f, a) (omega arith)) (λ f. rw f zero-le)
        cov (Q q) x = zero-le
        cov (R q) x = decide (only r q) (λ f. rw (f, eqb-true q r f, k) (omega arith)) (λ f. rw f zero-le)
        cov (Count q) x = zero-le

    agree-over : s.activity r ≡ 1 → (row d r).first ≤ s.turns r
        → Agree d (Inv d) s r (accepted (enter d (suc (close d r)) (set_turns r 0 (make_idle (only r) s)))) (named_step_at d (patterns_as d it_open r) 0 r (named_image d s))
    unfolding t₁ t₂
    agree-over a l = rw (stays d t₁ (t₂ ∷ []) r 0 s (R r) inside (rw (k, only-refl r) (omega arith)), goes d t₂ [] r 1 s _ (enabled-yes d t₂ (image_mark d s) cov) zero-le e inv.valid) (refl, inv)
      where
        stands : (X : ℕ) → side d X (entered_row d (suc (close d r))) ≡ side d X r
        stands X = after-close d L r X (rw k)

        inv : Inv d (enter d (suc (close d r)) (set_turns r 0 (make_idle (only r) s)))
        inv = turn-inv a 0 (suc (close d r)) zero-le stands

        e : named_image d (enter d (suc (close d r)) (set_turns r 0 (make_idle (only r) s))) ≡ named_fire d r 1 t₂ (named_image d s)
        e = turn-fires a 0 (suc (close d r)) zero-le stands 1 (λ q. cond (only r q) (row d r).first 0) none none (only r)
            (λ q f. (rw f, refl, refl, f)) (λ x w. refl) (rw (only-refl r) (let f = v.turned r in omega arith)) (rw (only-refl r) (omega arith))

        cov : (p : Place) → Real d p → t₂.take p ≤ image_mark d s p
        cov (P q) x = decide (only r q) (λ f. rw (f, eqb-true q r f, a) (omega arith)) (λ f. rw f zero-le)
        cov (Q q) x = decide (only r q) (λ f. rw (f, eqb-true q r f, k) l) (λ f. rw f zero-le)
        cov (R q) x = zero-le
        cov (Count q) x = zero-le

    pub agree-it : Agree d (Inv d) s r (step_as d it_open r s) (named_step_at d (patterns_as d it_open r) 0 r (named_image d s))
    agree-it = decide (eqb (s.activity r) 1)
        (λ e. decide (ltb (s.turns r) (row d r).first)
        (λ f. rw (e, f) (agree-again (eqb-true (s.activity r) 1 e) (ltb-true (s.turns r) (row d r).first f)))
        (λ f. rw (e, f) (agree-over (eqb-true (s.activity r) 1 e) (ltb-false (s.turns r) (row d r).first f))))
        (λ e. rw (unready (eqb-false (s.activity r) 1 e), e) (refl, refl))

  -- LE: the row after the loop stands where the loop stands
  pub agree-le : (r : ℕ) (s : State) → Inv d s → kind d r ≡ loop_exit → Agree d (Inv d) s r (step_as d loop_exit r s) (named_step_at d (patterns_as d loop_exit r) 0 r (named_image d s))
  agree-le r s i k = agree-leave d L r (suc (close d (loop d r))) (in_loop d r) s i (kind-in d r (not-kind d r k end refl)) (not-kind d r k branch refl) (L.looped r k).1
      (λ x Y w y z. after-close d L (loop d r) Y (rw (L.looped r k).0) ∙ sym (L.exit r x Y k w y z))

  -- EXIT: the row after its outlet's BRANCH stands where the box stands
  pub agree-exit : (r : ℕ) (s : State) → Inv d s → kind d r ≡ box_exit → Agree d (Inv d) s r (step_as d box_exit r s) (named_step_at d (patterns_as d box_exit r) 0 r (named_image d s))
  agree-exit r s i k = agree-leave d L r (suc b) (scenario d (box d r)) s i (kind-in d r (not-kind d r k end refl)) (not-kind d r k branch refl) (L.boxed r k)
      (λ x Y w y z. L.seq b Y (not-kind d b kb and_open refl) (not-kind d b kb end refl) ∙ (L.other_in b Y kb (rw (o, (L.led r k).0)) ∙ (ap (side d Y) o ∙ sym (L.escape r x Y k w y z))))
    where
      b : ℕ
      b = outlet d r

      kb : kind d b ≡ branch
      kb = branch-kind d (box d r) b (L.led r k).1

      o : owner d b ≡ box d r
      o = branch-owner d (box d r) b (L.led r k).1
