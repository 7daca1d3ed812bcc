-- Gaps in bytes: what is put there is read there, and what stands before it is not changed.
use Prim.Native.Nat.{ℕ, zero, suc, ◌+◌, ◌/◌, ◌%◌, ◌≤◌, ◌<◌}
use mathlib.Core.Path.{◌≡◌, refl, sym, ◌∙◌, ap, ap₂}
use mathlib.Core.Bool.{Bool, true, false, cond}
use mathlib.Core.List.{List, [], ◌∷◌, ◌++◌}
use native.Mathlib.Omega.{arith}
use lib.ListN.{length, get_or, set, length-set}
use lib.Seq.{get_or-set_same, get_or-set_other}
use lib.Dec.{leb, eqb}
use borrow.Author.Tests.{eqb-true, ne_eqb, le-leb, lt-leb}
use Rattle.effbd.specs.Starts.{hour}
use Rattle.ranges.specs.Tests.{decide}
use Rattle.log_laws.specs.SpanWalk.{reach}
use Rattle.starts.specs.Gaps.{gap_at, size_at, size_of, gap_put, times_in, last_in, end_in, starts_in}

module _ (gaps : List ℕ) where
  size-some : (at : ℕ) → 1 ≤ size_at gaps at
  unfolding size_at
  size-some at = go (eqb (get_or gaps at 0) 0)
    where
      go : (b : Bool) → 1 ≤ cond b 1 2
      go true = omega arith
      go false = omega arith

  -- times rise, gaps go on
  pub last-low : (n at t : ℕ) → t ≤ last_in gaps n at t
  unfolding last_in
  last-low zero at t = omega arith
  last-low (suc n) at t = let z = last-low n (at + size_at gaps at) (t + gap_at gaps at) in omega arith

  pub end_low : (n at : ℕ) → at ≤ end_in gaps n at
  unfolding end_in
  end_low zero at = omega arith
  end_low (suc n) at = let z = end_low n (at + size_at gaps at) in let y = size-some at in omega arith

  times-many : (n at t : ℕ) → length (times_in gaps n at t) ≡ n
  unfolding times_in
  times-many zero at t = refl
  times-many (suc n) at t = ap suc (times-many n (at + size_at gaps at) (t + gap_at gaps at))

  pub starts-many : (n at t : ℕ) → length (starts_in gaps n at t) ≡ n
  unfolding starts_in
  starts-many zero at t = refl
  starts-many (suc n) at t = ap suc (times-many n at t)

  -- where the latest is an hour old, all are
  pub reach-old : (now n at t : ℕ) → last_in gaps n at t + hour ≤ now → reach now (t ∷ times_in gaps n at t) ≡ []
  unfolding last_in times_in
  reach-old now zero at t l = rw (reach, le-leb (t + hour) now l)
  reach-old now (suc n) at t l =
      let z = last-low n (at + size_at gaps at) (t + gap_at gaps at) in
      rw (reach, le-leb (t + hour) now (omega arith)) (reach-old now n (at + size_at gaps at) (t + gap_at gaps at) l)

-- the present start is in reach
pub reach_now : (now : ℕ) (q : List ℕ) → reach now (q ++ (now ∷ [])) ≡ reach now q ++ (now ∷ [])
reach_now now [] = rw (reach, lt-leb (now + hour) now (omega arith))
reach_now now (x ∷ q) = decide (leb (x + hour) now) (λ y. rw (reach, y) (reach_now now q)) (λ y. rw (reach, y))

pub reach_few : (now : ℕ) (q : List ℕ) → length (reach now q) ≤ length q
reach_few now [] = omega arith
reach_few now (x ∷ q) = decide (leb (x + hour) now) (λ y. rw (reach, y) (let z = reach_few now q in omega arith)) (λ y. rw (reach, y) (omega arith))

-- a gap that is put at byte `to`
module _ (gaps : List ℕ) (to gap : ℕ) where
  abbrev put : List ℕ
  put = gap_put gaps to gap

  put-before : (k : ℕ) → k < to → get_or put k 0 ≡ get_or gaps k 0
  unfolding gap_put
  put-before k l = decide (eqb gap 0)
      (λ y. rw y (get_or-set_other gaps to k 0 0 (λ z. absurd (omega arith))))
      (λ y. rw y (get_or-set_other (set gaps to (gap / 256 + 1)) (to + 1) k (gap % 256) 0 (λ z. absurd (omega arith)) ∙ get_or-set_other gaps to k (gap / 256 + 1) 0 (λ z. absurd (omega arith))))

  size-before : (at : ℕ) → at + size_at gaps at ≤ to → size_at put at ≡ size_at gaps at
  unfolding size_at
  size-before at l = let z = size-some gaps at in ap (λ (x : ℕ). cond (eqb x 0) 1 2) (put-before at (unfold size_at in omega arith))

  gap-before : (at : ℕ) → at + size_at gaps at ≤ to → gap_at put at ≡ gap_at gaps at
  unfolding gap_at size_at
  gap-before at l = decide (eqb (get_or gaps at 0) 0)
      (λ y. let m : at + 1 ≤ to = rw y at l in rw (put-before at (omega arith), y))
      (λ y. let m : at + 2 ≤ to = rw y at l in rw (put-before at (omega arith), y, put-before (at + 1) (omega arith)))

  module _ (room : to + 2 ≤ length gaps) where
    first_byte : get_or put to 0 ≡ cond (eqb gap 0) 0 (gap / 256 + 1)
    unfolding gap_put
    first_byte = decide (eqb gap 0)
        (λ y. rw y (get_or-set_same gaps to 0 0 (omega arith)))
        (λ y. rw y (get_or-set_other (set gaps to (gap / 256 + 1)) (to + 1) to (gap % 256) 0 (λ z. absurd (omega arith)) ∙ get_or-set_same gaps to (gap / 256 + 1) 0 (omega arith)))

    second-byte : eqb gap 0 ≡ false → get_or put (to + 1) 0 ≡ gap % 256
    unfolding gap_put
    second-byte y = rw y (get_or-set_same (set gaps to (gap / 256 + 1)) (to + 1) (gap % 256) 0 (let z = length-set gaps to (gap / 256 + 1) in omega arith))

    gap-there : gap_at put to ≡ gap
    unfolding gap_at
    gap-there = decide (eqb gap 0)
        (λ y. let e : get_or put to 0 ≡ 0 = first_byte ∙ rw y in rw e (sym (eqb-true gap 0 y)))
        (λ y. let e : get_or put to 0 ≡ gap / 256 + 1 = first_byte ∙ rw y in rw (e, ne_eqb (gap / 256 + 1) 0 (λ z. absurd (omega arith)), second-byte y) (omega arith))

    size-there : size_at put to ≡ size_of gap
    unfolding size_at
    size-there = decide (eqb gap 0)
        (λ y. let e : get_or put to 0 ≡ 0 = first_byte ∙ rw y in rw (e, y))
        (λ y. let e : get_or put to 0 ≡ gap / 256 + 1 = first_byte ∙ rw y in rw (e, ne_eqb (gap / 256 + 1) 0 (λ z. absurd (omega arith)), y))

    -- it is one start more
    pub put-times : (n at t : ℕ) → end_in gaps n at ≡ to → times_in put (suc n) at t ≡ times_in gaps n at t ++ ((last_in gaps n at t + gap) ∷ [])
    unfolding times_in last_in end_in
    put-times zero at t e = ap (λ (x : ℕ). (t + x) ∷ []) (ap (gap_at put) e ∙ gap-there)
    put-times (suc n) at t e =
        let l : at + size_at gaps at ≤ to = (let z = end_low gaps n (at + size_at gaps at) in omega arith) in
        rw (gap-before at l, size-before at l) (ap (λ (x : List ℕ). (t + gap_at gaps at) ∷ x) (put-times n (at + size_at gaps at) (t + gap_at gaps at) e))

    pub put_last : (n at t : ℕ) → end_in gaps n at ≡ to → last_in put (suc n) at t ≡ last_in gaps n at t + gap
    unfolding last_in end_in
    put_last zero at t e = ap (λ (x : ℕ). t + x) (ap (gap_at put) e ∙ gap-there)
    put_last (suc n) at t e =
        let l : at + size_at gaps at ≤ to = (let z = end_low gaps n (at + size_at gaps at) in omega arith) in
        rw (gap-before at l, size-before at l) (put_last n (at + size_at gaps at) (t + gap_at gaps at) e)

    pub put-end : (n at : ℕ) → end_in gaps n at ≡ to → end_in put (suc n) at ≡ to + size_of gap
    unfolding end_in
    put-end zero at e = ap₂ ◌+◌ e (ap (size_at put) e ∙ size-there)
    put-end (suc n) at e =
        let l : at + size_at gaps at ≤ to = (let z = end_low gaps n (at + size_at gaps at) in omega arith) in
        rw (size-before at l) (put-end n (at + size_at gaps at) e)
