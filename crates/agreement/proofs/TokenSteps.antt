-- The steps that move tokens: rows S lose theirs, rows W are cleared, rows E are made active.
use Rattle.std.specs.Prelude.{ℕ, suc, ◌<◌, ◌+◌, ◌-◌, ◌≤◌, ◌≡◌, ◌≢◌, Bool, false, ◌&&◌, ◌||◌, cond, [], ◌∷◌, eqb, leb}
use Rattle.std.proofs.Common.{zero-le, ◌∙◌, ap, subst, arith}
use Rattle.std.proofs.Math.Path.{refl, sym, fun_ext}
use Rattle.std.proofs.Math.Bool.{true, not, and-false}
use Rattle.std.proofs.Math.Nat.{sub-zero}
use borrow.Author.Tests.{eqb-true, eqb-false, ne_eqb}
use Rattle.effbd.specs.Diagrams.{Diagram, and_close, and_open, branch, end, is_kind, kind, row_count, Kind}
use Rattle.effbd.specs.Image.{image_mark, ready_or_done, running}
use Rattle.effbd.specs.Layout.{Count, P, Place, Q, R}
use Rattle.effbd.specs.Moves.{all_done, if_ready, step_as}
use Rattle.effbd.specs.Frames.{is_closing, role}
use Rattle.effbd.specs.Nesting.{branch_of, owner, close, is_close}
use Rattle.effbd.specs.Patterns.{clears_rows, marks_p, passes, passes_to, patterns_as}
use Rattle.effbd.specs.Ranges.{all_below, either, nobody, only}
use Rattle.effbd.specs.States.{State, activate, branch_entries, clear_rows, ends_killer, enter, entered, entered_row, killed, make_idle}
use Rattle.effbd.specs.Answers.{accepted, refused}
use Rattle.ranges.specs.Tests.{and_intro, and_left, and_right, clash, cond_same, decide, not-false, not-true, or-false-left, or-false-right}
use Rattle.ranges.specs.RangeLaws.{all-elim, all-find, only-refl}
use Rattle.agreement.specs.Basics.{kind-in, not-kind, same-eq}
use Rattle.agreement.proofs.Invariant.{Inv, Sound, inv-idle, sound-idle, sound-inv}
use Rattle.agreement.proofs.Matching.{Agree, Passing, goes, passing-fires, stays}
use Rattle.agreement.specs.Named.{named_image, named_step_at}
use Rattle.agreement.specs.Structure.{Fine, Laws, Par, side, opens}
use Rattle.agreement.proofs.Tokens.{enabled-yes}

-- of a row that is active after some became idle
pub still-active : (b : Bool) (a : ℕ) → cond b 0 a ≢ 0 → (b ≡ false) × (a ≢ 0)
still-active true a h = absurd (h refl)
still-active false a h = (refl, h)

-- the marks of a row whose token is taken
pub taken-P : (S : Bool) (a e : ℕ) → (S ≡ true → ready_or_done a ≡ 1) → ready_or_done (cond S 0 a) + e ≡ (ready_or_done a - cond S 1 0) + e
taken-P true a e h = rw (h refl)
taken-P false a e h = simp sub-zero

not-running : (a : ℕ) → ready_or_done a ≡ 1 → eqb a 2 ≡ false
not-running a h = ne_eqb a 2 (λ e. let z : ◌≡◌ {A = ℕ} 0 1 = (rw e at h) in absurd (omega arith))

pub taken-run : (S : Bool) (a : ℕ) → (S ≡ true → ready_or_done a ≡ 1) → running (cond S 0 a) ≡ running a
taken-run true a h = rw (not-running a (h refl))
taken-run false a h = refl

pub taken-clock : (S : Bool) (a c : ℕ) → (S ≡ true → ready_or_done a ≡ 1) → (a ≢ 2 → c ≡ 0) → cond S 0 c ≡ cond (leb 1 (running a - 0)) c 0
taken-clock S a c h g = decide (eqb a 2)
    (λ e. rw e (on S h e))
    (λ e. rw (g (eqb-false a 2 e)) (simp cond_same))
  where
    on : (S : Bool) → (S ≡ true → ready_or_done a ≡ 1) → eqb a 2 ≡ true → cond S 0 c ≡ c
    on true h e = clash e (not-running a (h refl))
    on false h e = refl

-- what is cleared, and cleared again; of the rows cleared first some were idle already
merged : (s w v : Bool) (a : ℕ) → (s ≡ true → w ≡ true) → cond v 0 (cond w 0 a) ≡ cond (w || v) 0 (cond s 0 a)
merged s true true a h = refl
merged s true false a h = refl
merged true false v a h = clash (h refl) refl
merged false false v a h = refl

module _ (d : Diagram) where
  pub par-move : (o t x : ℕ) (p : Par d o x) → side d p.fork t ≡ side d p.fork o → Par d t x
  par-move o t x p h = record {
    fork = p.fork;
    left = λ e. p.left (sym h ∙ e);
    right = p.right;
    differ = λ e. p.differ (sym h ∙ e);
  }

  pub live-zero : (a : ℕ) → a ≢ 1 → a ≢ 3 → ready_or_done a ≡ 0
  live-zero a f g = rw (ne_eqb a 1 f, ne_eqb a 3 g)

  -- a step that moves tokens under one test
  pub agree-tokens : (r : ℕ) (S W E : ℕ → Bool) (s : State) (b : Bool) → Inv d s
      → (b ≡ true → (q : ℕ) → S q ≡ true → ready_or_done (s.activity q) ≡ 1)
      → (b ≡ true → Sound d W E (make_idle S s).activity)
      → (b ≡ false → (o : ℕ) × (o < row_count d) × (S o ≡ true) × (ready_or_done (s.activity o) ≡ 0))
      → Agree d (Inv d) s r (cond b (accepted (activate d E (clear_rows W (make_idle S s)))) (refused 22 r)) (named_step_at d (passes d S W E ∷ []) 0 r (named_image d s))
  agree-tokens r S W E s true i held sound n =
      rw (goes d (passes d S W E) [] r 0 s _ (enabled-yes d (passes d S W E) (image_mark d s) (λ p l. covered p)) zero-le (passing-fires d moved) inv.valid) (refl, inv)
    where
      inv : Inv d (activate d E (clear_rows W (make_idle S s)))
      inv = sound-inv d W E (make_idle S s) (inv-idle d S s i) (sound refl)

      covered : (p : Place) → (passes d S W E).take p ≤ image_mark d s p
      covered (P q) = decide (S q) (λ e. rw (e, held refl q e) (omega arith)) (λ e. rw e zero-le)
      covered (Q q) = zero-le
      covered (R q) = zero-le
      covered (Count k) = zero-le

      kept : (p : Place) → clears_rows d W p ≡ false → image_mark d (make_idle S s) p + marks_p E p ≡ (image_mark d s p - (passes d S W E).take p) + (passes d S W E).give p
      kept (P q) w = taken-P (S q) (s.activity q) _ (held refl q)
      kept (Q q) w = rw (taken-run (S q) (s.activity q) (held refl q)) (simp sub-zero)
      kept (R q) w = rw w (simp sub-zero)
      kept (Count k) w = simp sub-zero

      moved : Passing d r 0 (passes d S W E) W E s (make_idle S s)
      moved = record {
        clears = λ p. refl;
        kept = kept;
        timed = λ q k w. rw (and-false, k) (taken-clock (S q) (s.activity q) (s.clock q) (held refl q) (i.valid.still q));
        fresh = λ p w. refl;
        idle = sound-idle d W E (make_idle S s).activity (sound refl);
        valid = (inv-idle d S s i).valid;
      }
  agree-tokens r S W E s false i held sound n = let w = n refl in
      let l : ready_or_done (s.activity w.0) < cond (S w.0) 1 0 = rw (w.2, w.3) (omega arith) in
      rw (stays d (passes d S W E) [] r 0 s (P w.0) w.1 l) (refl, refl)

  -- one row's token moves
  pub agree-one : (r o : ℕ) (W E : ℕ → Bool) (s : State) → Inv d s → o < row_count d → kind d o ≢ branch
      → (s.activity o ≢ 0 → Sound d W E (make_idle (only o) s).activity)
      → Agree d (Inv d) s r (if_ready d o r s (activate d E (clear_rows W (make_idle (only o) s)))) (named_step_at d (passes d (only o) W E ∷ []) 0 r (named_image d s))
  agree-one r o W E s i l nb sound = agree-tokens r (only o) W E s (eqb (s.activity o) 1) i
      (λ e q f. rw (eqb-true q o f, eqb-true (s.activity o) 1 e))
      (λ e. sound (λ z. let y = eqb-true (s.activity o) 1 e in absurd (omega arith)))
      (λ e. (o, l, only-refl o, live-zero (s.activity o) (eqb-false (s.activity o) 1 e) (λ z. nb (i.valid.done o z))))

  -- to a row t that stands where o stands, as far as rows see it that are not cleared
  pub sound-one : (o t : ℕ) (W : ℕ → Bool) (s : State) → Inv d s → Fine d t
      → ((x Y : ℕ) → W x ≡ false → side d Y o ≢ 0 → side d Y x ≢ 0 → side d Y t ≡ side d Y o)
      → s.activity o ≢ 0 → Sound d W (only t) (make_idle (only o) s).activity
  sound-one o t W s i n h a = record {
    lands = λ x e. rw (eqb-true x t e) n;
    clear = λ u x e f busy. let w = still-active (only o x) (s.activity x) busy in
        let p = i.apart o x a w.1 (λ z. eqb-false x o w.0 (sym z)) in
        rw (eqb-true u t e) (par-move o t x p (h x p.fork f p.left p.right));
    pair = λ u w e f ne. absurd (ne (eqb-true u t e ∙ sym (eqb-true w t f)));
  }

  pub branch-kind : (o b : ℕ) → branch_of d o b ≡ true → kind d b ≡ branch
  unfolding branch_of
  branch-kind o b e = same-eq (kind d b) branch (and_left (is_kind d branch b) (only o (owner d b)) e)

  pub branch-owner : (o b : ℕ) → branch_of d o b ≡ true → owner d b ≡ o
  unfolding branch_of
  branch-owner o b e = eqb-true (owner d b) o (and_right (is_kind d branch b) (only o (owner d b)) e)

  pub branch_in : (o b : ℕ) → branch_of d o b ≡ true → b < row_count d
  branch_in o b e = kind-in d b (not-kind d b (branch-kind o b e) end refl)

  entries_from : (o t : ℕ) → branch_entries d o t ≡ true → (b : ℕ) × (branch_of d o b ≡ true) × (entered_row d (suc b) ≡ t)
  unfolding branch_entries
  entries_from o t e =
      let w = all-find (row_count d) (λ b. not (branch_of d o b && only t (entered_row d (suc b)))) (not-true (all_below (row_count d) (λ b. not (branch_of d o b && only t (entered_row d (suc b))))) e) in
      let b = w.0 in
      let f = not-false (branch_of d o b && only t (entered_row d (suc b))) w.2 in
      (b, and_left (branch_of d o b) (only t (entered_row d (suc b))) f, eqb-true (entered_row d (suc b)) t (and_right (branch_of d o b) (only t (entered_row d (suc b))) f))

  module _ (L : Laws d) where
    -- two BRANCH rows of one AND; a row that is apart from one of them, but not in the AND, is apart from the other
    pub branches-apart : (o b c : ℕ) → kind d o ≡ and_open → branch_of d o b ≡ true → branch_of d o c ≡ true → b ≢ c → Par d b c
    branches-apart o b c k e f ne = let x = L.and_own o b k e in let y = L.and_own o c k f in
        record { fork = o; left = λ z. x.1 (sym x.0 ∙ z); right = λ z. y.1 (sym y.0 ∙ z); differ = λ z. ne (sym x.0 ∙ (z ∙ y.0)) }

    -- where entering's one row may be made active, entering may: if a branch that kills ends, all rows of its AND go and its BRANCH rows are done
    pub sound-enter : (q : ℕ) (W : ℕ → Bool) (a : ℕ → ℕ) → Sound d W (only (entered_row d q)) a → Sound d (either W (killed d q)) (entered d q) a
    unfolding killed entered
    sound-enter q W a h = decide (ends_killer d q)
        (λ e. let k = L.killer q e in record {
          lands = λ t f. let b : branch_of d (owner d q) t ≡ true = rw e at f in
              (not-kind d t (branch-kind (owner d q) t b) and_close refl, λ z. rw (branch-owner (owner d q) t b) k.0);
          clear = λ t x f g busy.
              let b : branch_of d (owner d q) t ≡ true = rw e at f in
              let p = h.clear (entered_row d q) x (only-refl (entered_row d q)) (or-false-left (W x) _ g) busy in
              let ne : p.fork ≢ owner d q = λ z. clash (and_intro e (L.within (owner d q) x (λ y. p.right (ap (λ X. side d X x) z ∙ y)))) (or-false-right (W x) _ g) in
              par-move (entered_row d q) t x p (L.and_in (owner d q) t p.fork k.0 b ne ∙ sym (L.and_in (owner d q) (entered_row d q) p.fork k.0 k.1 ne));
          pair = λ t u f g. branches-apart (owner d q) t u k.0 (rw e at f) (rw e at g);
        })
        (λ e. record {
          lands = λ t f. h.lands t (rw e at f);
          clear = λ t x f g. h.clear t x (rw e at f) (or-false-left (W x) _ g);
          pair = λ t u f g. h.pair t u (rw e at f) (rw e at g);
        })

    -- one row's token moves on to a row that stands where it stands
    pub agree_on : (r o q : ℕ) (s : State) → Inv d s → o < row_count d → kind d o ≢ branch → ((X : ℕ) → side d X (entered_row d q) ≡ side d X o)
        → Agree d (Inv d) s r (if_ready d o r s (enter d q (make_idle (only o) s))) (named_step_at d (passes_to d (only o) nobody q ∷ []) 0 r (named_image d s))
    agree_on r o q s i l nb h = agree-one r o (killed d q) (entered d q) s i l nb
        (λ a. sound-enter q nobody _ (sound-one o (entered_row d q) nobody s i (L.lands q) (λ x Y w y z. h Y) a))

    -- a row clears rows, its own among them, and enters q
    enter-cleared : (S W : ℕ → Bool) (q : ℕ) (s : State) → ((x : ℕ) → S x ≡ true → W x ≡ true)
        → enter d q (clear_rows W s) ≡ activate d (entered d q) (clear_rows (either W (killed d q)) (make_idle S s))
    enter-cleared S W q s h = λ j. record {
      activity = fun_ext (λ x. ap (λ (a : ℕ). cond (entered d q x) (cond (is_kind d branch x) 3 1) a) (merged (S x) (W x) (killed d q x) (s.activity x) (h x))) j;
      turns = fun_ext (λ x. merged false (W x) (killed d q x) (s.turns x) (λ z. clash z refl)) j;
      clock = fun_ext (λ x. ap (λ (a : ℕ). cond (entered d q x) 0 a) (merged (S x) (W x) (killed d q x) (s.clock x) (h x))) j;
      count = s.count;
    }

    pub agree-leave : (r q : ℕ) (W : ℕ → Bool) (s : State) → Inv d s → r < row_count d → kind d r ≢ branch → W r ≡ true
        → ((x Y : ℕ) → W x ≡ false → side d Y r ≢ 0 → side d Y x ≢ 0 → side d Y (entered_row d q) ≡ side d Y r)
        → Agree d (Inv d) s r (if_ready d r r s (enter d q (clear_rows W s))) (named_step_at d (passes_to d (only r) W q ∷ []) 0 r (named_image d s))
    agree-leave r q W s i l nb own h = subst (λ y. Agree d (Inv d) s r (if_ready d r r s y) (named_step_at d (passes_to d (only r) W q ∷ []) 0 r (named_image d s)))
        (sym (enter-cleared (only r) W q s (λ x e. rw (eqb-true x r e) own)))
        (agree-one r r (either W (killed d q)) (entered d q) s i l nb (λ a. sound-enter q W _ (sound-one r (entered_row d q) W s i (L.lands q) h a)))

    -- the row after the close of a construct stands where its open stands
    pub after-close : (o X : ℕ) → opens d o ≡ true → side d X (entered_row d (suc (close d o))) ≡ side d X o
    after-close o X h = L.seq c X (not-closing and_open refl) (not-closing end refl) ∙ (sym (L.back c X shut.0) ∙ ap (side d X) shut.1)
      where
        c : ℕ
        c = close d o

        shut : (is_close d c ≡ true) × (owner d c ≡ o)
        shut = L.shut o h

        not-closing : (j : Kind) → is_closing (role j) ≡ false → kind d c ≢ j
        not-closing j f e = clash shut.0 (rw e f)

    -- AND open
    side-entry : (o b X : ℕ) → branch_of d o b ≡ true → side d X (entered_row d (suc b)) ≡ side d X b
    side-entry o b X e = L.seq b X (not-kind d b (branch-kind o b e) and_open refl) (not-kind d b (branch-kind o b e) end refl)

    sound-and : (r : ℕ) (s : State) → Inv d s → kind d r ≡ and_open → s.activity r ≢ 0 → Sound d nobody (branch_entries d r) (make_idle (only r) s).activity
    sound-and r s i k a = record {
      lands = λ x e. let w = entries_from r x e in subst (Fine d) w.2 (L.lands (suc w.0));
      clear = λ t x e f busy.
          let w = entries_from r t e in
          let y = still-active (only r x) (s.activity x) busy in
          let p = i.apart r x a y.1 (λ z. eqb-false x r y.0 (sym z)) in
          let ne : p.fork ≢ r = λ z. p.left (ap (λ y. side d y r) z ∙ L.self r k) in
          par-move r t x p (ap (side d p.fork) (sym w.2) ∙ (side-entry r w.0 p.fork w.1 ∙ L.and_in r w.0 p.fork k w.1 ne));
      pair = λ t u e f ne.
          let w = entries_from r t e in
          let v = entries_from r u f in
          let p = branches-apart r w.0 v.0 k w.1 v.1 (λ z. ne (sym w.2 ∙ (ap (λ b. entered_row d (suc b)) z ∙ v.2))) in
          let ht : side d p.fork t ≡ side d p.fork w.0 = ap (side d p.fork) (sym w.2) ∙ side-entry r w.0 p.fork w.1 in
          let hu : side d p.fork u ≡ side d p.fork v.0 = ap (side d p.fork) (sym v.2) ∙ side-entry r v.0 p.fork v.1 in
          record { fork = p.fork; left = λ z. p.left (sym ht ∙ z); right = λ z. p.right (sym hu ∙ z); differ = λ z. p.differ (sym ht ∙ (z ∙ hu)) };
    }

    pub agree-and : (r : ℕ) (s : State) → Inv d s → kind d r ≡ and_open → Agree d (Inv d) s r (step_as d and_open r s) (named_step_at d (patterns_as d and_open r) 0 r (named_image d s))
    agree-and r s i k = agree-one r r nobody (branch_entries d r) s i (kind-in d r (not-kind d r k end refl)) (not-kind d r k branch refl) (sound-and r s i k)

    -- AND close: its BRANCH rows are all done
    sound-close : (r : ℕ) (s : State) → Inv d s → kind d r ≡ and_close → ((b : ℕ) → branch_of d (owner d r) b ≡ true → s.activity b ≡ 3)
        → Sound d nobody (only (entered_row d (suc r))) (make_idle (branch_of d (owner d r)) s).activity
    sound-close r s i k a = record {
      lands = λ x e. rw (eqb-true x (entered_row d (suc r)) e) (L.lands (suc r));
      clear = λ t x e f busy. let w = still-active (branch_of d o x) (s.activity x) busy in rw (eqb-true t (entered_row d (suc r)) e) (free x w.0 w.1);
      pair = λ u w e f ne. absurd (ne (eqb-true u (entered_row d (suc r)) e ∙ sym (eqb-true w (entered_row d (suc r)) f)));
    }
      where
        o : ℕ
        o = owner d r

        ko : kind d o ≡ and_open
        ko = L.mine r k

        out : (X : ℕ) → side d X (entered_row d (suc r)) ≡ side d X o
        out X = L.seq r X (not-kind d r k and_open refl) (not-kind d r k end refl) ∙ sym (L.back r X (rw k))

        active : (b : ℕ) → branch_of d o b ≡ true → s.activity b ≢ 0
        active b e z = let y : s.activity b ≡ 3 = a b e in absurd (omega arith)

        meet : (b x : ℕ) → branch_of d o b ≡ true → branch_of d o x ≡ false → s.activity x ≢ 0 → Par d b x
        meet b x e f busy = i.apart b x (active b e) busy (λ z. clash (subst (λ y. branch_of d o y ≡ true) z e) f)

        -- x is in no branch of o
        outside : (x : ℕ) → branch_of d o x ≡ false → s.activity x ≢ 0 → side d o x ≢ 0 → ⊥
        outside x f busy h = decide (eqb p.fork o)
            (λ e. let z : p.fork ≡ o = eqb-true p.fork o e in
            p.differ (rw z (L.and_own o b ko (L.sided o x h)).0))
            (λ e. let z : side d p.fork b ≡ side d p.fork o = L.and_in o b p.fork ko (L.sided o x h) (eqb-false p.fork o e) in
            p.differ (z ∙ sym (L.nest o x p.fork h (λ y. p.left (z ∙ y)))))
          where
            b : ℕ
            b = side d o x

            p : Par d b x
            p = meet b x (L.sided o x h) f busy

        free : (x : ℕ) → branch_of d o x ≡ false → s.activity x ≢ 0 → Par d (entered_row d (suc r)) x
        free x f busy = par-move (suc o) (entered_row d (suc r)) x p (out p.fork ∙ sym (L.and_in o (suc o) p.fork ko (L.first o ko) ne))
          where
            p : Par d (suc o) x
            p = meet (suc o) x (L.first o ko) f busy

            ne : p.fork ≢ o
            ne e = outside x f busy (λ y. p.right (ap (λ X. side d X x) e ∙ y))

    pub agree-close : (r : ℕ) (s : State) → Inv d s → kind d r ≡ and_close → Agree d (Inv d) s r (step_as d and_close r s) (named_step_at d (patterns_as d and_close r) 0 r (named_image d s))
    agree-close r s i k = agree-tokens r S (killed d (suc r)) (entered d (suc r)) s (all_done d o s) i
        (λ e q f. rw (all3 e q f))
        (λ e. sound-enter (suc r) nobody _ (sound-close r s i k (all3 e)))
        (λ e. let w = all-find (row_count d) (λ b. not (S b) || eqb (s.activity b) 3) e in
        let b = w.0 in
        let f = not-false (S b) (or-false-left (not (S b)) (eqb (s.activity b) 3) w.2) in
        (b, w.1, f, live-zero (s.activity b) (λ z. i.valid.readies b z (branch-kind o b f)) (eqb-false (s.activity b) 3 (or-false-right (not (S b)) (eqb (s.activity b) 3) w.2))))
      where
        o : ℕ
        o = owner d r

        S : ℕ → Bool
        S = branch_of d o

        all3 : all_done d o s ≡ true → (b : ℕ) → S b ≡ true → s.activity b ≡ 3
        all3 e b f = eqb-true (s.activity b) 3 (rw f at (all-elim (row_count d) (λ x. not (S x) || eqb (s.activity x) 3) e b (branch_in o b f)))
