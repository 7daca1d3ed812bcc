-- Whether a list starts with a call, by the tests that lead to each answer.
use Rattle.std.specs.Prelude.{ℕ, ◌≡◌, ◌≢◌, ◌≤◌, ◌<◌, Some, None, true, false, List, length, eqb}
use Rattle.std.proofs.Common.{arith, sym, ◌∙◌}
use borrow.Author.Tests.{eq-eqb, ne_eqb, eqb-true, le-leb, lt-leb}
use Rattle.effbd.specs.Records.{length_at, kind_at}
use Rattle.ranges.specs.Tests.{decide}
use Rattle.calls.specs.CallList.{least_of, is_call}

some-is : {m n : ℕ} → Some m ≡ Some n → m ≡ n
some-is e = cc

module _ (rest : List ℕ) where
  pub no-head : length rest < 4 → is_call rest ≡ false
  unfolding is_call
  no-head h = rw (lt-leb 4 (length rest) h)

  module _ (n : ℕ) (e : n ≡ length_at rest) (h : 4 ≤ length rest) where
    pub too_long : length rest < n → is_call rest ≡ false
    unfolding is_call
    too_long l = rw (le-leb 4 (length rest) h, lt-leb (length_at rest) (length rest) (omega arith))

    module _ (l : n ≤ length rest) where
      pub no_kind : None ≡ least_of (kind_at rest) → is_call rest ≡ false
      unfolding is_call
      no_kind w = decide (eqb (kind_at rest) 1)
          (λ t. let z : None ≡ Some 8 = w ∙ rw t in absurd (cc))
          (λ t. decide (eqb (kind_at rest) 2)
          (λ u. let z : None ≡ Some 4 = w ∙ rw (t, u) in absurd (cc))
          (λ u. rw (le-leb 4 (length rest) h, le-leb (length_at rest) (length rest) (omega arith), t, u)))

      pub too_short : (least : ℕ) → Some least ≡ least_of (kind_at rest) → n < least → is_call rest ≡ false
      unfolding is_call
      too_short least w s = decide (eqb (kind_at rest) 1)
          (λ t. let z : Some least ≡ Some 8 = w ∙ rw t in let q = some-is z in let k = eqb-true (kind_at rest) 1 t in
          rw (le-leb 4 (length rest) h, le-leb (length_at rest) (length rest) (omega arith), t, ne_eqb (kind_at rest) 2 (λ y. omega arith), lt-leb 8 (length_at rest) (omega arith)))
          (λ t. decide (eqb (kind_at rest) 2)
          (λ u. let z : Some least ≡ Some 4 = w ∙ rw (t, u) in let q = some-is z in
          rw (le-leb 4 (length rest) h, le-leb (length_at rest) (length rest) (omega arith), t, u, lt-leb 4 (length_at rest) (omega arith)))
          (λ u. let z : Some least ≡ None = w ∙ rw (t, u) in absurd (cc)))

      pub long_enough : (least : ℕ) → Some least ≡ least_of (kind_at rest) → least ≤ n → is_call rest ≡ true
      unfolding is_call
      long_enough least w s = decide (eqb (kind_at rest) 1)
          (λ t. let z : Some least ≡ Some 8 = w ∙ rw t in let q = some-is z in
          rw (le-leb 4 (length rest) h, le-leb (length_at rest) (length rest) (omega arith), t, le-leb 8 (length_at rest) (omega arith)))
          (λ t. decide (eqb (kind_at rest) 2)
          (λ u. let z : Some least ≡ Some 4 = w ∙ rw (t, u) in let q = some-is z in
          rw (le-leb 4 (length rest) h, le-leb (length_at rest) (length rest) (omega arith), t, u, le-leb 4 (length_at rest) (omega arith)))
          (λ u. let z : Some least ≡ None = w ∙ rw (t, u) in absurd (cc)))
