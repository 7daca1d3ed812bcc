-- The uses of an accepted row name rising items: each item's amount is that of the one use that names it, and the first use that is stopped is of
-- the lowest item that is.
use Rattle.std.specs.Prelude.{ℕ, zero, suc, ◌+◌, ◌<◌, ◌≡◌, refl, Bool, true, false, not, cond, length, get_or, ltb, eqb}
use Rattle.std.proofs.Math.Path.{sym, ap}
use Rattle.std.proofs.Common.{◌∙◌, subst, add-zero, arith}
use mathlib.Core.List.{List, [], ◌∷◌}
use borrow.Author.Tests.{lt-ltb, le-ltb, eqb-true, eq-eqb, ne_eqb}
use Rattle.effbd.specs.Ranges.{all_below, least}
use Rattle.effbd.specs.Diagrams.{Use, uses_fine}
use Rattle.effbd.specs.Counts.{take_of, give_of}
use Rattle.diagram_table.specs.Held.{no_use}
use Rattle.diagram_table.proofs.RisingUses.{rises, item-rises}
use Rattle.ranges.specs.Tests.{decide, not-true, not-false}
use Rattle.ranges.specs.RangeLaws.{all-elim, all-find, least-found, least-is, least-none}
use Rattle.diagram_moves.specs.Decisions.{amount_of, use_blocked, blocked_item}

-- the least is in range exactly if not all pass
pub least-all : (n : ℕ) (f g : ℕ → Bool) → ((i : ℕ) → i < n → g i ≡ not (f i)) → ltb (least n f) n ≡ not (all_below n g)
least-all n f g h = decide (all_below n g)
    (λ e. let z : least n f ≡ n = least-none n f (λ i b. not-true (f i) (sym (h i b) ∙ all-elim n g e i b)) in rw e (le-ltb (least n f) n (omega arith)))
    (λ e. let w = all-find n g e in let y = least-found n f w.0 w.1 (not-false (f w.0) (sym (h w.0 w.1) ∙ w.2)) in
    let lo = y.1 in let hi = w.1 in rw e (lt-ltb (least n f) n (omega arith)))

-- what a row's uses take of item k, or give
unfoldable pub amount_in : (giving : Bool) → List Use → ℕ → ℕ
amount_in giving [] k = 0
amount_in giving (u ∷ us) k = cond (eqb u.item k) (amount_of giving u) (amount_in giving us k)

pub amount-take : (us : List Use) (k : ℕ) → amount_in false us k ≡ take_of us k
unfolding amount_in
amount-take [] k = refl
amount-take (u ∷ us) k = ap (cond (eqb u.item k) u.take) (amount-take us k)

pub amount-give : (us : List Use) (k : ℕ) → amount_in true us k ≡ give_of us k
unfolding amount_in
amount-give [] k = refl
amount-give (u ∷ us) k = ap (cond (eqb u.item k) u.give) (amount-give us k)

-- what holds of each use and its number, which is j at the first
abbrev pub EachUse : (ℕ → Use → Type 0) → ℕ → List Use → Type 0
EachUse P j [] = Unit {0}
EachUse P j (u ∷ us) = P j u × EachUse P (j + 1) us

pub each-use : (P : ℕ → Use → Type 0) (j : ℕ) (us : List Use) → ((i : ℕ) → i < length us → P (j + i) (get_or us i no_use)) → EachUse P j us
each-use P j [] h = tt
each-use P j (u ∷ us) h = (subst (λ x. P x u) (add-zero j) (h 0 (omega arith)), each-use P (j + 1) us (λ i b. let y : j + suc i ≡ j + 1 + i = omega arith in subst (λ x. P x (get_or us i no_use)) y (h (suc i) (omega arith))))

pub each_map : (P Q : ℕ → Use → Type 0) (j : ℕ) (us : List Use) → ((i : ℕ) (u : Use) → P i u → Q i u) → EachUse P j us → EachUse Q j us
each_map P Q j [] f h = tt
each_map P Q j (u ∷ us) f h = (f j u h.0, each_map P Q (j + 1) us f h.1)

-- rising uses have nothing of what is below the lowest item allowed
pub amount-below : (giving : Bool) (M from : ℕ) (us : List Use) → uses_fine M from us ≡ true → (k : ℕ) → k < from → amount_in giving us k ≡ 0
unfolding amount_in
amount-below giving M from [] e k b = refl
amount-below giving M from (u ∷ us) e k b =
    let w = rises M from u us e in let x = w.low in
    rw (ne_eqb u.item k (omega arith)) (amount-below giving M (suc u.item) us w.rest k (omega arith))

-- the amounts of the uses, by their numbers
pub amount-of : (giving : Bool) (M from : ℕ) (us : List Use) → uses_fine M from us ≡ true → (i : ℕ) → i < length us → amount_in giving us (get_or us i no_use).item ≡ amount_of giving (get_or us i no_use)
unfolding amount_in
amount-of giving M from [] e i b = absurd (omega arith)
amount-of giving M from (u ∷ us) e zero b = rw (eq-eqb u.item u.item refl)
amount-of giving M from (u ∷ us) e (suc i) b =
    let w = rises M from u us e in let x = (item-rises M (suc u.item) us w.rest i (omega arith)).0 in
    rw (ne_eqb u.item (get_or us i no_use).item (omega arith)) (amount-of giving M (suc u.item) us w.rest i (omega arith))

-- where each use is stopped exactly if its item is, the first use that is stopped is of the lowest item
module _ (table : List ℕ) (giving : Bool) (rows M : ℕ) (l : List ℕ) (r : ℕ) (stopped : ℕ → Bool) where
  pub first-stop : (us : List Use) (j from : ℕ) → uses_fine M from us ≡ true → EachUse (λ i u. use_blocked table giving rows l r i u.item (amount_of giving u) ≡ stopped u.item) j us
      → ((k : ℕ) → k < M → amount_in giving us k ≡ 0 → stopped k ≡ false) → blocked_item table giving rows M l r j us ≡ least M stopped
  unfolding blocked_item amount_in
  first-stop [] j from e h quiet = sym (least-none M stopped (λ k b. quiet k b refl))
  first-stop (u ∷ us) j from e h quiet =
      let w = rises M from u us e in let x = w.inside in
      rw h.0 (decide (stopped u.item)
      (λ y. rw y (sym (least-is M stopped u.item w.inside y (λ k b. quiet k (omega arith)
      (rw (ne_eqb u.item k (omega arith)) (amount-below giving M (suc u.item) us w.rest k (omega arith)))))))
      (λ y. rw y (first-stop us (j + 1) (suc u.item) w.rest h.1 (λ k b z. decide (eqb u.item k)
      (λ q. let v : u.item ≡ k = eqb-true u.item k q in ap stopped (sym v) ∙ y)
      (λ q. quiet k b (rw q z))))))
