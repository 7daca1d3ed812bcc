-- The innermost box in whose scenario a row is, found owner by owner: a construct that is open at a row has as many BRANCH rows so far as stand before that row.
use Prim.Native.Nat.{ℕ, zero, suc, ◌+◌, ◌≤◌, ◌<◌}
use mathlib.Core.Path.{◌≡◌, refl, sym, ◌∙◌, ap, subst}
use mathlib.Core.Bool.{Bool, true, false, and-false}
use mathlib.Core.List.{List, [], ◌∷◌}
use native.Mathlib.Omega.{arith}
use native.Mathlib.Numerals.{add-one}
use lib.Dec.{eqb}
use borrow.Author.Tests.{eqb-true, eq-eqb, ne_eqb}
use Rattle.effbd.specs.Diagrams.{Kind, function, and_open, branch, and_close, or_open, or_close, it_open, it_close, lp_open, lp_close, loop_exit, end, box_open, box_close, box_exit, Diagram, number_of, same_kind, row_count, kind, is_kind}
use Rattle.effbd.specs.Frames.{Frame, innermost_open}
use Rattle.effbd.specs.Nesting.{stack, owner, branch_of, in_scenario, some_scenario, innermost_scenario, box, nesting_fault}
use Rattle.effbd.specs.Ranges.{how_many}
use Rattle.ranges.specs.Tests.{decide, clash}
use Rattle.agreement.specs.AcceptedFiles.{well-walked}
use Rattle.agreement.specs.Basics.{same-eq}
use Rattle.agreement.specs.NestingLaws.{ruled}
use Rattle.diagram_table.specs.Cells.{owner_in, is_branch}
use Rattle.nesting.specs.declared.Part.{Part}
use Rattle.nesting.specs.declared.Part.TheVariants.{Opens, Turns, Closes, Stays}
use Rattle.nesting.specs.Runs.{part_of}
use Rattle.nesting.proofs.Rules.{passing_by, stack-next}
use Rattle.nesting.proofs.Stacks.{does, Good, good, owner-low, held}
use Rattle.diagram_structure.specs.Walked.{Walked}
use Rattle.outlets.specs.Outlets.{branches_below, in_scenario_of, OwnBox}
use Rattle.nesting.proofs.Chains.{many-ext}
use Rattle.outlets.proofs.Counting.{count-more, count_same, many-none}

abbrev turning : Part → Bool
turning Opens = false
turning Turns = true
turning Closes = false
turning Stays = false

branch-part : (k : Kind) → same_kind k branch ≡ turning (part_of (number_of k))
unfolding part_of
branch-part function = refl
branch-part and_open = refl
branch-part branch = refl
branch-part and_close = refl
branch-part or_open = refl
branch-part or_close = refl
branch-part it_open = refl
branch-part it_close = refl
branch-part lp_open = refl
branch-part lp_close = refl
branch-part loop_exit = refl
branch-part end = refl
branch-part box_open = refl
branch-part box_close = refl
branch-part box_exit = refl

module _ (d : Diagram) (fine : (q : ℕ) → q < row_count d → nesting_fault d q ≡ 0) where
  -- each has as many BRANCH rows as stand before row q
  abbrev Counted : ℕ → List Frame → Type 0
  Counted q [] = Unit {0}
  Counted q (f ∷ fs) = (f.branches ≡ how_many q (branch_of d f.opened)) × Counted q fs

  -- row q is no BRANCH of any of them
  unmoved : (q : ℕ) (fs : List Frame) → is_kind d branch q ≡ false → Counted q fs → Counted (q + 1) fs
  unfolding branch_of
  unmoved q [] n c = tt
  unmoved q (f ∷ fs) n c = (count_same q (branch_of d f.opened) (rw n) c.0, unmoved q fs n c.1)

  inner : (q p : ℕ) (fs : List Frame) → p ≤ owner d q → Good d p fs → Counted q fs → Counted (q + 1) fs
  unfolding branch_of
  inner q p [] l g c = tt
  inner q p (f ∷ fs) l g c = let b = g.0.below in (
    count_same q (branch_of d f.opened) (rw (ne_eqb (owner d q) f.opened (λ z. absurd (omega arith)), and-false (is_kind d branch q))) c.0,
    inner q f.opened fs (omega arith) g.1 c.1,
  )

  part-not : (q : ℕ) (part : Part) → does d q ≡ part → turning part ≡ false → is_kind d branch q ≡ false
  part-not q part e h = branch-part (kind d q) ∙ (ap turning e ∙ h)

  fresh-open : (q : ℕ) → is_kind d branch q ≡ false → 0 ≡ how_many (q + 1) (branch_of d q)
  unfolding branch_of
  fresh-open q n = sym (many-none (q + 1) (branch_of d q) (λ i l. decide (eqb (owner d i) q)
      (λ e. let z = eqb-true (owner d i) q e in let w = owner-low d i in let y : i ≡ q = omega arith in rw (y, n))
      (λ e. rw (e, and-false (is_kind d branch i)))))

  next : (part : Part) (q : ℕ) (fs : List Frame) → q < row_count d → stack d q ≡ fs → does d q ≡ part → Good d q fs → Counted q fs → Counted (q + 1) (passing_by part q fs)
  next Opens q fs l s e g c = let n = part-not q Opens e refl in (fresh-open q n, unmoved q fs n c)
  next Turns q [] l s e g c = absurd (held d fine q l (rw e) s)
  next Turns q (f ∷ fs) l s e g c = (
    sym (add-one f.branches) ∙ count-more q (branch_of d f.opened) own c.0,
    inner q f.opened fs (let z = top in omega arith) g.1 c.1,
  )
    where
      top : owner d q ≡ f.opened
      top = unfold owner in rw s

      own : branch_of d f.opened q ≡ true
      own = unfold branch_of in rw (branch-part (kind d q), e, top, eq-eqb f.opened f.opened refl)
  next Closes q [] l s e g c = tt
  next Closes q (f ∷ fs) l s e g c = unmoved q fs (part-not q Closes e refl) c.1
  next Stays q fs l s e g c = unmoved q fs (part-not q Stays e refl) c

  counted : (q : ℕ) → q ≤ row_count d → Counted q (stack d q)
  counted zero l = unfold stack in tt
  counted (suc q) l = subst (λ (n : ℕ). Counted n (stack d n)) (add-one q) (subst (Counted (q + 1)) (sym (stack-next d q (does d q) refl))
      (next (does d q) q (stack d q) (omega arith) refl refl (good d q) (counted q (omega arith))))

-- ---- owner by owner

-- the construct that row x opens is around row r, and what is around x has all else that is open there in whose scenario r may be
pub record Trail (d : Diagram) (fine : (q : ℕ) → q < row_count d → nesting_fault d q ≡ 0) (r x : ℕ) : Type 0 where
  pub frame : Frame
  pub rest : List Frame
  pub top : frame.opened ≡ x
  pub below : x < r
  pub behind : rest ≡ stack d x
  pub same : innermost_scenario d (stack d r) ≡ innermost_scenario d (frame ∷ rest)
  pub there : some_scenario d (frame ∷ rest) ≡ true
  pub good : Good d r (frame ∷ rest)
  pub counted : Counted d fine r (frame ∷ rest)

pub record Climb (t : List ℕ) (r x : ℕ) : Type 0 where
  pub trail : (d : Diagram) (rows : ℕ) (w : Walked d rows t) → r < rows → is_kind d box_exit r ≡ true → Trail d w.fine r x

module _ (d : Diagram) (rows : ℕ) (t : List ℕ) (w : Walked d rows t) where
  -- the table's tests are the definition's
  pub branch-is : (o q : ℕ) → q < rows → is_branch t o q ≡ branch_of d o q
  unfolding is_branch branch_of
  branch-is o q l = rw (w.kinds.cell q l, w.owners q l)

  pub below-is : (o n : ℕ) → n ≤ rows → branches_below t o n ≡ how_many n (branch_of d o)
  unfolding branches_below
  below-is o n l = many-ext n (is_branch t o) (branch_of d o) (λ i h. branch-is o i (omega arith))

  module _ (r : ℕ) (l : r < rows) where
    scenario-is : (f : Frame) (x : ℕ) → f.opened ≡ x → x < r → f.branches ≡ how_many r (branch_of d f.opened) → in_scenario_of t x r ≡ in_scenario d f
    unfolding in_scenario_of
    scenario-is f x e b c = rw (below-is x r (omega arith), w.kinds.cell x (omega arith), c, e)

    from-frames : (fs : List Frame) → innermost_scenario d (stack d r) ≡ innermost_scenario d fs → some_scenario d fs ≡ true → Good d r fs → Counted d w.fine r fs → Trail d w.fine r (innermost_open fs)
    from-frames [] s h g c = clash h refl
    from-frames (f ∷ fs) s h g c = record { frame = f; rest = fs; top = refl; below = g.0.below; behind = g.0.tail; same = s; there = h; good = g; counted = c }

    owner-is : owner d r ≡ innermost_open (stack d r)
    unfolding owner
    owner-is = refl

    -- an EXIT is in a scenario
    start : is_kind d box_exit r ≡ true → Trail d w.fine r (owner_in t r)
    start k =
        let acc = well-walked d w.fine (let a = w.some in let b = w.kinds.count in omega arith) in
        let e : owner_in t r ≡ innermost_open (stack d r) = w.owners r l ∙ owner-is in
        subst (Trail d w.fine r) (sym e)
        (from-frames (stack d r) refl (ruled d acc r box_exit (same-eq (kind d r) box_exit k) refl) (good d r) (counted d w.fine r (let b = w.kinds.count in omega arith)))

    module _ (x : ℕ) (z : Trail d w.fine r x) where
      test-is : in_scenario_of t x r ≡ in_scenario d z.frame
      test-is = scenario-is z.frame x z.top z.below z.counted.0

      found : in_scenario_of t x r ≡ true → x ≡ box d r
      unfolding box
      found h = sym (z.same ∙ (rw (sym test-is ∙ h) z.top))

      onward : in_scenario_of t x r ≡ false → (owner_in t x < x) × Trail d w.fine r (owner_in t x)
      onward h =
          let n = sym test-is ∙ h in
          let e : owner_in t x ≡ innermost_open z.rest = w.owners x (let b = z.below in omega arith) ∙ (unfold owner in ap innermost_open (sym z.behind)) in
          let g : Good d x z.rest = subst (λ (y : ℕ). Good d y z.rest) z.top z.good.1 in
          let some : some_scenario d z.rest ≡ true = rw n at z.there in
          let t₁ = from-frames z.rest (z.same ∙ rw n) some (lower x r z.rest (let b = z.below in omega arith) g) z.counted.1 in
          (rw e (under x z.rest some g), subst (Trail d w.fine r) (sym e) t₁)
        where
          lower : (q p : ℕ) (fs : List Frame) → q ≤ p → Good d q fs → Good d p fs
          lower q p [] b g = tt
          lower q p (f ∷ fs) b g = let a = g.0.below in (record { below = omega arith; tail = g.0.tail }, g.1)

          under : (q : ℕ) (fs : List Frame) → some_scenario d fs ≡ true → Good d q fs → innermost_open fs < q
          under q [] h g = clash h refl
          under q (f ∷ fs) h g = g.0.below

module _ (t : List ℕ) (r : ℕ) where
  pub climb-start : Climb t r (owner_in t r)
  climb-start = record { trail = λ d rows w l k. start d rows t w r l k }

  module _ (x : ℕ) (c : Climb t r x) where
    pub climb-found : in_scenario_of t x r ≡ true → OwnBox t r x
    climb-found h = record { own = λ d rows w l k. found d rows t w r l x (c.trail d rows w l k) h }

    pub climb-next : in_scenario_of t x r ≡ false → Climb t r (owner_in t x)
    climb-next h = record { trail = λ d rows w l k. (onward d rows t w r l x (c.trail d rows w l k) h).1 }

    pub climb-over : in_scenario_of t x r ≡ false → x ≤ owner_in t x → OwnBox t r x
    climb-over h n = record { own = λ d rows w l k. let o = (onward d rows t w r l x (c.trail d rows w l k) h).0 in absurd (omega arith) }
