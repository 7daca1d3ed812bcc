-- Behind a BRANCH of an AND: what entering the next row changes. And where a construct's rows stand.
use Rattle.std.proofs.Common.{ℕ, suc, ◌+◌, ◌-◌, ◌≤◌, ◌<◌, ◌≡◌, refl, ap, ◌⊎◌, inl, inr, true, false, ◌&&◌, List, [], ◌∷◌, arith, leb, leb-true, leb-false, eqb-true, eq-eqb}
use Rattle.effbd.specs.Ranges.{only}
use Rattle.effbd.specs.Diagrams.{Kind, function, and_open, branch, and_close, or_open, or_close, it_open, it_close, lp_open, lp_close, loop_exit, end, box_open, box_close, box_exit, Diagram, row_count, kind, is_kind, same_kind}
use Rattle.effbd.specs.Frames.{Frame, innermost_open}
use Rattle.effbd.specs.Nesting.{stack, owner, branch_ended, is_close, close, branch_of}
use Rattle.effbd.specs.States.{entered_as, entered_row}
use Rattle.ranges.specs.Tests.{decide, clash, and_left, and_right, and_intro, or_left, or_split}
use Rattle.ranges.specs.RangeLaws.{least-none}
use Rattle.agreement.specs.Basics.{eq-same}
use Rattle.agreement.specs.Nested.{walk, well_nested}
use Rattle.agreement.specs.Structure.{opens}
use Rattle.agreement.specs.NestingLaws.{Good, branched, good, has, absent, gone, laws}
use Rattle.agreement.proofs.Reach.{branch-opens, branch-before}

module _ (d : Diagram) (acc : well_nested d ≡ true) where
  -- behind a BRANCH of an AND, entering the next row changes the BRANCH, or that row, which then is no BRANCH
  behind_as : (k : Kind) (b : ℕ) → branch_ended d (suc b) ≡ b
      → (entered_as d k true (suc b) ≡ b) ⊎ ((entered_as d k true (suc b) ≡ suc b) × (same_kind k branch ≡ false))
  behind_as function b e = inr (refl, refl)
  behind_as and_open b e = inr (refl, refl)
  behind_as branch b e = inl e
  behind_as and_close b e = inl e
  behind_as or_open b e = inr (refl, refl)
  behind_as or_close b e = inr (refl, refl)
  behind_as it_open b e = inr (refl, refl)
  behind_as it_close b e = inr (refl, refl)
  behind_as lp_open b e = inr (refl, refl)
  behind_as lp_close b e = inr (refl, refl)
  behind_as loop_exit b e = inr (refl, refl)
  behind_as end b e = inr (refl, refl)
  behind_as box_open b e = inr (refl, refl)
  behind_as box_close b e = inr (refl, refl)
  behind_as box_exit b e = inr (refl, refl)

  pub behind-branch : (b : ℕ) → kind d b ≡ branch → kind d (owner d b) ≡ and_open
      → (entered_row d (suc b) ≡ b) ⊎ ((entered_row d (suc b) ≡ suc b) × (is_kind d branch (suc b) ≡ false))
  unfolding entered_row
  behind-branch b e a = rw (around, a) (behind_as (kind d (suc b)) b (rw (branched d (walk d acc) b e).after))
    where
      around : owner d (suc b) ≡ owner d b
      around = unfold owner in ap innermost_open (branched d (walk d acc) b e).after

  -- the BRANCH rows of a construct stand before its close
  pub branch-inside : (b : ℕ) → kind d b ≡ branch → b < close d (owner d b)
  branch-inside b e = let s = (laws d acc).shut (owner d b) (branch-opens d acc b e) in
      branch-before d acc (owner d b) b (close d (owner d b)) (unfold branch_of in and_intro (eq-same (kind d b) branch e) (eq-eqb (owner d b) (owner d b) refl)) s.0 s.1

  -- a construct is open at each row behind its open row up to its close, so such a row stands in it or in one that opens behind it
  owner-has : (p : ℕ) (fs : List Frame) → 0 < p → innermost_open fs ≡ p → has d (walk d acc) p fs ≡ true
  unfolding has
  owner-has p [] l e = absurd (omega arith)
  owner-has p (f ∷ fs) l e = or_left (has d (walk d acc) p fs) (eq-eqb f.opened p e)

  has-owner : (p q : ℕ) (fs : List Frame) → Good d q fs → has d (walk d acc) p fs ≡ true → p ≤ innermost_open fs
  unfolding has
  has-owner p q [] g h = clash h refl
  has-owner p q (f ∷ fs) g h = or_split (only p f.opened) (has d (walk d acc) p fs) h
      (λ e. let z = eqb-true f.opened p e in omega arith)
      (λ n e. decide (leb p f.opened) (λ z. leb-true p f.opened z)
      (λ z. let y = leb-false p f.opened z in clash e (rw g.0.tail (absent d (walk d acc) f.opened p (omega arith)))))

  pub owner-inside : (p q : ℕ) → 0 < p → p < q → q ≤ close d p → close d p < row_count d → p ≤ owner d q
  unfolding owner
  owner-inside p q z l m n = has-owner p q (stack d q) (good d (walk d acc) q) (decide (has d (walk d acc) p (stack d q)) (λ e. e)
      (λ e. let y : q + (close d p - q) ≡ close d p = omega arith in
      clash (owner-has p (stack d (close d p)) z own) (rw y at (gone d (walk d acc) p q (close d p - q) e l))))
    where
      own : owner d (close d p) ≡ p
      own = decide (opens d p) (λ e. ((laws d acc).shut p e).1) (λ e. absurd (let w = unclosed e in omega arith))
        where
          unclosed : opens d p ≡ false → close d p ≡ row_count d
          unclosed e = unfold close in least-none (row_count d) (λ c. is_close d c && only p (owner d c)) (λ c k. decide (is_close d c && only p (owner d c))
              (λ t. clash ((laws d acc).kin c (and_left (is_close d c) _ t)) (rw (eqb-true (owner d c) p (and_right (is_close d c) _ t)) e)) (λ t. t))
