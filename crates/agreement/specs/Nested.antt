-- What an accepted nesting gives, one test a row: those of its rules that the laws of structure rest on.
use Rattle.std.specs.Prelude.{ℕ, suc, ◌-◌, Bool, true, ◌&&◌, ◌||◌, not, List, ◌≡◌, refl, ltb, eqb}
use Rattle.effbd.specs.Ranges.{all_below}
use Rattle.effbd.specs.Diagrams.{Kind, box_close, box_exit, box_open, function, and_open, branch, and_close, or_open, or_close, it_open, it_close, lp_open, lp_close, loop_exit, end, Diagram, row_count, kind, is_kind}
use Rattle.effbd.specs.Frames.{Frame}
use Rattle.effbd.specs.Nesting.{killer_empty, leads, outlet, some_scenario, stack, innermost_is, some_open, none_open, in_and_or}
use Rattle.ranges.specs.Tests.{and_left, and_right, clash, not-true, or_split}
use Rattle.ranges.specs.RangeLaws.{all-elim}
use Rattle.agreement.specs.Basics.{eq-same, kind-in, not-kind}

module _ (d : Diagram) where
  abbrev pub may_stand : Kind → ℕ → List Frame → Bool
  may_stand function q fs = true
  may_stand and_open q fs = is_kind d branch (suc q)
  may_stand branch q fs = (in_and_or d fs || innermost_is d box_open fs) && not (killer_empty d q)
  may_stand and_close q fs = innermost_is d and_open fs
  may_stand or_open q fs = is_kind d branch (suc q)
  may_stand or_close q fs = innermost_is d or_open fs
  may_stand it_open q fs = true
  may_stand it_close q fs = innermost_is d it_open fs
  may_stand lp_open q fs = true
  may_stand lp_close q fs = innermost_is d lp_open fs
  may_stand loop_exit q fs = some_open d lp_open fs
  may_stand end q fs = none_open d fs && eqb (suc q) (row_count d)
  may_stand box_open q fs = true
  may_stand box_close q fs = innermost_is d box_open fs
  may_stand box_exit q fs = some_scenario d fs

  -- the walk over the rows found none at fault
  abbrev pub walked : Bool
  walked = all_below (row_count d) (λ q. may_stand (kind d q) q (stack d q)) && (ltb 0 (row_count d) && is_kind d end (row_count d - 1))

  -- and every EXIT has its outlet
  abbrev pub well_nested : Bool
  well_nested = walked && all_below (row_count d) (λ r. not (is_kind d box_exit r) || leads d r (outlet d r))

  pub walk : well_nested ≡ true → walked ≡ true
  walk = and_left walked (all_below (row_count d) (λ r. not (is_kind d box_exit r) || leads d r (outlet d r)))

  pub leading : well_nested ≡ true → (r : ℕ) → kind d r ≡ box_exit → leads d r (outlet d r) ≡ true
  leading acc r k = or_split (not (is_kind d box_exit r)) (leads d r (outlet d r))
      (all-elim (row_count d) (λ x. not (is_kind d box_exit x) || leads d x (outlet d x)) (and_right walked _ acc) r (kind-in d r (not-kind d r k end refl)))
      (λ n. clash (eq-same (kind d r) box_exit k) (not-true (is_kind d box_exit r) n)) (λ n z. z)
