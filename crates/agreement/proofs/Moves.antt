-- The diagram's steps and the net's agree at every state that keeps the invariant.
use Rattle.std.specs.Prelude.{ℕ, zero, suc, ◌≤◌, ◌≢◌, Bool, ◌&&◌}
use Rattle.std.proofs.Common.{zero-le, ◌∙◌, arith, eqb-true}
use Rattle.std.proofs.Math.Path.{◌≡◌, refl, sym, fun_ext, ap}
use Rattle.std.proofs.Math.Bool.{true, false, cond}
use Rattle.effbd.specs.Diagrams.{Diagram, Kind, and_close, and_open, box_close, box_exit, box_open, branch, end, function, is_kind, it_close, it_open, item, kind, loop_exit, lp_close, lp_open, or_close, or_open, row}
use Rattle.effbd.specs.Counts.{initial_count}
use Rattle.effbd.specs.Image.{image_mark}
use Rattle.effbd.specs.Layout.{Count, P, Place, Q, R}
use Rattle.effbd.specs.Moves.{Move, move, no_move, step, step_row, step_as, wait_ticks}
use Rattle.effbd.specs.Nesting.{is_close, owner}
use Rattle.effbd.specs.Patterns.{patterns_as}
use Rattle.effbd.specs.Ranges.{nobody, only}
use Rattle.effbd.specs.States.{State, activate, entered, entered_row, fresh, killed}
use Rattle.ranges.specs.Tests.{clash, cond_same, decide}
use Rattle.agreement.specs.Basics.{kind-in, not-kind, same-eq}
use Rattle.agreement.specs.Counts.{most-initial}
use Rattle.agreement.proofs.FunctionSteps.{agree-fun}
use Rattle.agreement.proofs.Invariant.{Inv, sound-inv}
use Rattle.agreement.proofs.LoopSteps.{agree-exit, agree-it, agree-le}
use Rattle.agreement.proofs.Matching.{Agree}
use Rattle.agreement.specs.Named.{named_fresh, named_image, named_move, named_step, named_step_at}
use Rattle.agreement.specs.Nested.{well_nested}
use Rattle.agreement.specs.NestingLaws.{laws}
use Rattle.agreement.specs.Structure.{Laws}
use Rattle.agreement.proofs.TokenSteps.{agree-and, agree-close, agree_on, agree-one, sound-enter, sound-one}
use Rattle.agreement.proofs.Tokens.{cleared-marks}
use Rattle.agreement.proofs.Waits.{waits-agree}

module _ (d : Diagram) (L : Laws d) (r : ℕ) (s : State) (i : Inv d s) where
  -- a row that hands its token to the next, or back to its open row
  on : kind d r ≢ end → kind d r ≢ branch → kind d r ≢ and_open
      → Agree d (Inv d) s r (step_as d lp_open r s) (named_step_at d (patterns_as d lp_open r) 0 r (named_image d s))
  on n b o = agree_on d L r r (suc r) s i (kind-in d r n) b (λ X. L.seq r X o n)

  again : kind d r ≢ end → kind d r ≢ branch → is_close d r ≡ true
      → Agree d (Inv d) s r (step_as d lp_close r s) (named_step_at d (patterns_as d lp_close r) 0 r (named_image d s))
  again n b c = agree-one d r r nobody (only (owner d r)) s i (kind-in d r n) b
      (sound-one d r (owner d r) nobody s i ((λ e. clash (L.kin r c) (rw e)), (λ e. clash (L.kin r c) (rw e))) (λ x X w y z. L.back r X c))

  by_kind : (k : Kind) → kind d r ≡ k → Agree d (Inv d) s r (step_as d k r s) (named_step_at d (patterns_as d k r) 0 r (named_image d s))
  by_kind function e = agree-fun d r s i e L
  by_kind and_open e = agree-and d L r s i e
  by_kind branch e = decide (is_kind d or_open (owner d r))
      (λ f. let o = same-eq (kind d (owner d r)) or_open f in
      rw f (agree_on d L r (owner d r) (suc r) s i (kind-in d (owner d r) (not-kind d (owner d r) o end refl)) (not-kind d (owner d r) o branch refl)
      (λ X. L.seq r X (not-kind d r e and_open refl) (not-kind d r e end refl) ∙ L.other_in r X e (rw o))))
      (λ f. rw f (refl, refl))
  by_kind and_close e = agree-close d L r s i e
  by_kind or_open e = (refl, refl)
  by_kind or_close e = on (not-kind d r e end refl) (not-kind d r e branch refl) (not-kind d r e and_open refl)
  by_kind it_open e = agree-it d L r s i e
  by_kind it_close e = again (not-kind d r e end refl) (not-kind d r e branch refl) (rw e)
  by_kind lp_open e = on (not-kind d r e end refl) (not-kind d r e branch refl) (not-kind d r e and_open refl)
  by_kind lp_close e = again (not-kind d r e end refl) (not-kind d r e branch refl) (rw e)
  by_kind loop_exit e = agree-le d L r s i e
  by_kind end e = (refl, refl)
  by_kind box_open e = on (not-kind d r e end refl) (not-kind d r e branch refl) (not-kind d r e and_open refl)
  by_kind box_close e = on (not-kind d r e end refl) (not-kind d r e branch refl) (not-kind d r e and_open refl)
  by_kind box_exit e = agree-exit d L r s i e

  pub steps-agree : Agree d (Inv d) s r (step d r s) (named_step d r (named_image d s))
  steps-agree = by_kind (kind d r) refl

-- the row that a move names; of a wait it does not matter
abbrev pub row_asked : Move → ℕ
row_asked (step_row r) = r
row_asked (wait_ticks n) = n
row_asked no_move = 0

-- numbers of 16 bits, as the file has them
pub record Words (d : Diagram) : Type 0 where
  pub lows : (q : ℕ) → (row d q).first ≤ 65535
  pub stocks : (k : ℕ) → (item d k).initial ≤ 65535

module _ (d : Diagram) (acc : well_nested d ≡ true) (w : Words d) where
  nothing : State
  nothing = record { activity = λ q. 0; turns = λ q. 0; clock = λ q. 0; count = initial_count d }

  pub fresh-inv : Inv d (fresh d)
  unfolding nothing
  fresh-inv = sound-inv d (killed d 0) (entered d 0) nothing
      (record {
        valid = record {
          small = λ q. zero-le;
          runs = λ q e. absurd (omega arith);
          done = λ q e. absurd (omega arith);
          readies = λ q e. absurd (omega arith);
          opened = λ q e. absurd (omega arith);
          still = λ q h. refl;
          turned = λ q. zero-le;
          timely = λ q. zero-le;
          spun = λ q h. refl;
          forked = λ q e. absurd (omega arith);
          counted = λ c l. most-initial d w.stocks c;
          bounded = w.lows;
        };
        apart = λ r q a b n. absurd (a refl);
      })
      (sound-enter d (laws d acc) 0 nobody _ (record {
        clear = λ t x e f a. absurd (a refl);
        lands = λ t e. rw (eqb-true t (entered_row d 0) e) ((laws d acc).lands 0);
        pair = λ t u e f n. absurd (n (eqb-true t (entered_row d 0) e ∙ sym (eqb-true u (entered_row d 0) f)));
      }))

  -- where nothing is, nothing is cleared
  fresh-is : fresh d ≡ activate d (entered d 0) nothing
  unfolding nothing
  fresh-is = λ j. record {
    activity = λ q. cond (entered d 0 q) (cond (is_kind d branch q) 3 1) (cond_same (killed d 0 q) 0 j);
    turns = λ q. cond_same (killed d 0 q) 0 j;
    clock = λ q. cond (entered d 0 q) 0 (cond_same (killed d 0 q) 0 j);
    count = initial_count d;
  }

  fresh-mark : (p : Place) → image_mark d (activate d (entered d 0) nothing) p ≡ (named_fresh d).mark p
  unfolding nothing
  fresh-mark (P q) = cleared-marks d (λ x. true) (entered d 0) nothing (λ x w. clash refl w) (P q) refl
  fresh-mark (Q q) = cleared-marks d (λ x. true) (entered d 0) nothing (λ x w. clash refl w) (Q q) refl
  fresh-mark (R q) = cleared-marks d (λ x. true) (entered d 0) nothing (λ x w. clash refl w) (R q) refl
  fresh-mark (Count k) = refl

  pub fresh-image : named_image d (fresh d) ≡ named_fresh d
  unfolding nothing
  fresh-image = ap (named_image d) fresh-is ∙ (λ j. record { mark = fun_ext fresh-mark j; clock = λ q i. go (is_kind d function q && only 1 i) (entered d 0 q) j })
    where
      go : (b e : Bool) → ◌≡◌ {A = ℕ} (cond b (cond e 0 0) 0) 0
      go true true = refl
      go true false = refl
      go false e = refl

  pub moves-agree : (m : Move) (s : State) → Inv d s → Agree d (Inv d) s (row_asked m) (move d m s) (named_move d m (named_image d s))
  moves-agree (step_row r) s i = steps-agree d (laws d acc) r s i
  moves-agree (wait_ticks zero) s i = (refl, refl)
  moves-agree (wait_ticks (suc n)) s i = waits-agree d (laws d acc) (suc n) (omega arith) s i (suc n)
  moves-agree no_move s i = (refl, refl)
