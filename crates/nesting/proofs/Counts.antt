-- How many of the first rows are of one kind, as a count over numbers and over the table's words.
use Rattle.std.specs.Prelude.{ℕ, zero, suc, ◌+◌, ◌<◌, ◌≡◌, refl, ◌≢◌, Bool, cond, ◌==◌, List, length, get_or, take, count_by, ltb, eqb}
use Rattle.std.proofs.Common.{sym, subst, arith, add-one, take_all}
use Rattle.std.proofs.lemmas.List.{get_or_past}
use Rattle.std.proofs.lemmas.List.Sums.{count_by_more_yes, count_by_more_no}
use borrow.Author.Tests.{ltb-true, ltb-false, ne_eqb}
use Rattle.effbd.specs.Ranges.{how_many}
use Rattle.ranges.specs.Tests.{decide}

more : (p : ℕ → Bool) (t : List ℕ) (n : ℕ) → n < length t → cond (p (get_or t n 0)) 1 0 + count_by p (take n t) ≡ count_by p (take (n + 1) t)
more p t n l = decide (p (get_or t n 0))
    (λ e. let h = count_by_more_yes p t n 0 l e in rw e (omega arith))
    (λ e. let h = count_by_more_no p t n 0 l e in rw e (omega arith))

-- where 0 is no kind, behind the table's end there is none
pub kinds-counted : (t : List ℕ) (k : ℕ) → k ≢ 0 → (n : ℕ) → how_many n (λ q. eqb (get_or t q 0) k) ≡ count_by (λ x. x == k) (take n t)
kinds-counted t k ne zero = refl
kinds-counted t k ne (suc n) =
    let ih = kinds-counted t k ne n in
    decide (ltb n (length t))
    (λ e. subst (λ m. cond (eqb (get_or t n 0) k) 1 0 + how_many n (λ q. eqb (get_or t q 0) k) ≡ count_by (λ x. x == k) (take m t)) (add-one n)
    (rw ih (more (λ x. x == k) t n (ltb-true n (length t) e))))
    (λ e. let l = ltb-false n (length t) e in
    rw (get_or_past t n 0 l, ne_eqb 0 k (λ z. ne (sym z)), ih, take_all n t l, take_all (suc n) t (omega arith)) (omega arith))
