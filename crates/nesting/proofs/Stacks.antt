-- What is open at each row: the laws of the stack. None but the last section needs that the diagram is accepted.
use Prim.Native.Nat.{ℕ, zero, suc, ◌+◌, ◌-◌, ◌≤◌, ◌<◌}
use mathlib.Core.Path.{◌≡◌, refl, sym, ◌∙◌, ap, subst}
use mathlib.Core.Logic.{◌≢◌}
use mathlib.Core.Bool.{Bool, true, false, not, cond, ◌&&◌, ◌||◌}
use mathlib.Core.List.{List, [], ◌∷◌}
use native.Mathlib.Omega.{arith}
use native.Mathlib.Numerals.{add-one}
use lib.Dec.{eqb}
use borrow.Author.Tests.{eqb-true, eq-eqb, ne_eqb, not-false}
use Rattle.effbd.specs.Ranges.{only}
use Rattle.effbd.specs.Diagrams.{lp_open, end, number_of, Diagram, row_count, kind, is_kind}
use Rattle.effbd.specs.Frames.{Frame, pop, innermost_open}
use Rattle.effbd.specs.Nesting.{stack, owner, is_close, close, innermost, loop, follows, stands_as, nesting_broken, killer_empty, exit_misplaced, box_exit_misplaced, thirteenth_open, nesting_fault}
use Rattle.ranges.specs.Tests.{decide, clash, or-false-right}
use Rattle.ranges.specs.RangeLaws.{least-low}
use Rattle.nesting.specs.declared.Part.{Part}
use Rattle.nesting.specs.declared.Part.TheVariants.{Opens, Turns, Closes, Stays}
use Rattle.nesting.specs.Runs.{part_of}
use Rattle.nesting.proofs.Rules.{passing_by, closing, shape, stack-next, ending, bare-faulty}

module _ (d : Diagram) where
  abbrev pub does : ℕ → Part
  does q = part_of (number_of (kind d q))

  -- a frame stands on the stack of its own open row
  pub record Ok (q : ℕ) (f : Frame) (fs : List Frame) : Type 0 where
    pub below : f.opened < q
    pub tail : fs ≡ stack d f.opened

  abbrev pub Good : ℕ → List Frame → Type 0
  Good q [] = Unit {0}
  Good q (f ∷ fs) = Ok q f fs × Good f.opened fs

  weaken : (q p : ℕ) (fs : List Frame) → q ≤ p → Good q fs → Good p fs
  weaken q p [] l g = tt
  weaken q p (f ∷ fs) l g = let a = g.0.below in (record { below = omega arith; tail = g.0.tail }, g.1)

  passed : (part : Part) (q : ℕ) (fs : List Frame) → fs ≡ stack d q → Good q fs → Good (q + 1) (passing_by part q fs)
  passed Opens q fs e g = (record { below = omega arith; tail = e }, g)
  passed Turns q [] e g = tt
  passed Turns q (f ∷ fs) e g = let a = g.0.below in (record { below = omega arith; tail = g.0.tail }, g.1)
  passed Closes q [] e g = tt
  passed Closes q (f ∷ fs) e g = let a = g.0.below in weaken f.opened (q + 1) fs (omega arith) g.1
  passed Stays q fs e g = weaken q (q + 1) fs (omega arith) g

  pub good : (q : ℕ) → Good q (stack d q)
  good zero = unfold stack in tt
  good (suc q) = subst (λ (n : ℕ). Good n (stack d n)) (add-one q)
      (subst (Good (q + 1)) (sym (stack-next d q (does q) refl)) (passed (does q) q (stack d q) refl (good q)))

  -- behind a close stands what its owner had
  behind : (q : ℕ) (fs : List Frame) → Good q fs → pop fs ≡ stack d (innermost_open fs)
  behind q [] g = unfold stack in refl
  behind q (f ∷ fs) g = g.0.tail

  pub popped-is : (q : ℕ) → pop (stack d q) ≡ stack d (owner d q)
  unfolding owner
  popped-is q = behind q (stack d q) (good q)

  -- nothing reaches behind the row
  owner_of : (q : ℕ) (fs : List Frame) → Good q fs → innermost_open fs ≤ q
  owner_of q [] g = omega arith
  owner_of q (f ∷ fs) g = let a = g.0.below in omega arith

  loop-of : (q : ℕ) (fs : List Frame) → Good q fs → innermost d lp_open fs ≤ q
  loop-of q [] g = omega arith
  loop-of q (f ∷ fs) g = let a = g.0.below in
      decide (is_kind d lp_open f.opened) (λ e. rw (innermost, e) (omega arith))
      (λ e. rw (innermost, e) (let b = loop-of f.opened fs g.1 in omega arith))

  pub owner-low : (q : ℕ) → owner d q ≤ q
  unfolding owner
  owner-low q = owner_of q (stack d q) (good q)

  pub loop-low : (q : ℕ) → loop d q ≤ q
  unfolding loop
  loop-low q = loop-of q (stack d q) (good q)

  pub close-low : (o : ℕ) → close d o ≤ row_count d
  unfolding close
  close-low o = least-low (row_count d) (λ c. is_close d c && only o (owner d c))

  -- ---- the construct that row o opens is among those that are open
  has : ℕ → List Frame → Bool
  has o [] = false
  has o (f ∷ fs) = eqb f.opened o || has o fs

  has-low : (o q : ℕ) (fs : List Frame) → q ≤ o → Good q fs → has o fs ≡ false
  unfolding has
  has-low o q [] l g = refl
  has-low o q (f ∷ fs) l g = let a = g.0.below in rw (ne_eqb f.opened o (λ z. absurd (omega arith))) (has-low o f.opened fs (omega arith) g.1)

  has-pop : (o : ℕ) (fs : List Frame) → has o fs ≡ false → has o (pop fs) ≡ false
  unfolding has
  has-pop o [] h = refl
  has-pop o (f ∷ fs) h = or-false-right (eqb f.opened o) (has o fs) h

  has-passed : (part : Part) (o q : ℕ) (fs : List Frame) → q ≢ o → has o fs ≡ false → has o (passing_by part q fs) ≡ false
  unfolding has
  has-passed Opens o q fs ne h = rw (ne_eqb q o ne) h
  has-passed Turns o q [] ne h = refl
  has-passed Turns o q (f ∷ fs) ne h = h
  has-passed Closes o q fs ne h = has-pop o fs h
  has-passed Stays o q fs ne h = h

  -- once its close is passed, a construct is not open any more
  gone : (o c n : ℕ) → does c ≡ Closes → owner d c ≡ o → has o (stack d (c + 1 + n)) ≡ false
  gone o c zero e w =
      let z : c + 1 + 0 ≡ c + 1 = omega arith in
      ap (λ (m : ℕ). has o (stack d m)) z ∙ (ap (has o) (stack-next d c Closes e ∙ (popped-is c ∙ ap (stack d) w)) ∙ has-low o o (stack d o) (omega arith) (good o))
  gone o c (suc n) e w =
      let l = owner-low c in
      let z : c + 1 + suc n ≡ c + 1 + n + 1 = omega arith in
      ap (λ (m : ℕ). has o (stack d m)) z ∙ (ap (has o) (stack-next d (c + 1 + n) (does (c + 1 + n)) refl)
      ∙ has-passed (does (c + 1 + n)) o (c + 1 + n) (stack d (c + 1 + n)) (λ x. absurd (omega arith)) (gone o c n e w))

  owner-has : (fs : List Frame) → (fs ≡ [] → ⊥) → has (innermost_open fs) fs ≡ true
  unfolding has
  owner-has [] h = absurd (h refl)
  owner-has (f ∷ fs) h = rw (eq-eqb f.opened f.opened refl)

  pub closes-once : (o c q : ℕ) → c < q → does c ≡ Closes → owner d c ≡ o → (stack d q ≡ [] → ⊥) → owner d q ≢ o
  unfolding owner
  closes-once o c q l e w ne z =
      let y : c + 1 + (q - (c + 1)) ≡ q = omega arith in
      clash (subst (λ (x : ℕ). has x (stack d q) ≡ true) z (owner-has (stack d q) ne)) (subst (λ (m : ℕ). has o (stack d m) ≡ false) y (gone o c (q - (c + 1)) e w))

  -- c is a close of the construct that row o opens
  abbrev pub closes_of : ℕ → ℕ → Bool
  closes_of o c = is_close d c && only o (owner d c)

  pub close-part : (c : ℕ) → is_close d c ≡ closing (does c)
  close-part c = (shape (kind d c)).closes

  pub not-closing : (o c : ℕ) → closing (does c) ≡ false → closes_of o c ≡ false
  not-closing o c h = rw (close-part c, h)

  -- ---- of a diagram with no row at fault
  module _ (fine : (q : ℕ) → q < row_count d → nesting_fault d q ≡ 0) where
    -- a BRANCH and a close stand in a construct
    pub held : (q : ℕ) → q < row_count d → ending (does q) ≡ true → stack d q ≡ [] → ⊥
    held q l h e = let a = bare-faulty d q e h in let b = fine q l in absurd (omega arith)

    -- the last row is an END
    last_end : (q : ℕ) → suc q ≡ row_count d → is_kind d end q ≡ true
    last_end q e = go (nesting_broken d q) refl (unfold nesting_fault in fine q (omega arith))
      where
        last : (a b : Bool) → not (a && (b && (not (eqb (suc q) (row_count d)) || is_kind d end q))) ≡ false → is_kind d end q ≡ true
        last true true z = let w = not-false (not (eqb (suc q) (row_count d)) || is_kind d end q) z in rw (eq-eqb (suc q) (row_count d) e) at w
        last true false z = clash refl z
        last false b z = clash refl z

        go : (b : Bool) → nesting_broken d q ≡ b → ◌≡◌ {A = ℕ} (cond b 7 (cond (killer_empty d q) 44 (cond (exit_misplaced d q) 8 (cond (box_exit_misplaced d q) 48 (cond (thirteenth_open d q) 9 0))))) 0 → is_kind d end q ≡ true
        go true h z = absurd (omega arith)
        go false h z = last (follows d q) (stands_as d (kind d q) q (stack d q)) (unfold nesting_broken in h)

    pub last-stays : (q : ℕ) → suc q ≡ row_count d → does q ≡ Stays
    last-stays q e = ap part_of (eqb-true (number_of (kind d q)) 27 (last_end q e)) ∙ (unfold part_of in refl)
