-- Which count a row takes an item from, and which it gives to, by number: what all counts say of a FUNCTION's takes and gives is what its items say.
-- A stage between the definitions and code that goes through a row's uses.
use Prim.Native.Nat.{ℕ, zero, suc, ◌+◌, ◌≤◌, ◌<◌, zero-le}
use Rattle.std.specs.Prelude.{◌≡◌, ◌≢◌, Bool, false, ◌||◌, eqb}
use Rattle.std.proofs.Math.Path.{refl, sym, ap, subst}
use Rattle.std.proofs.Common.{◌∙◌, length-append}
use Rattle.std.proofs.Math.Bool.{true, not, cond}
use mathlib.Core.List.{List, [], ◌∷◌, ◌++◌}
use native.Mathlib.Omega.{arith}
use Rattle.std.proofs.Math.ListN.{length, get_or, get_or-append}
use Rattle.std.proofs.Math.Seq.{get_or-append-add}
use Rattle.std.proofs.Math.Dec.{leb}
use borrow.Author.Tests.{eqb-true, eqb-false, le-leb, ne_eqb}
use Rattle.effbd.specs.Ranges.{all_below, least, only, tabulate}
use Rattle.effbd.specs.Diagrams.{Diagram, end, function, is_kind, is_trigger, item_total, kind, row, row_count}
use Rattle.effbd.specs.Counts.{Tally, copies, copies_of, copy, count_total, give_of, gives, gives_as, item_of, receives, shared, take_of, takes, takes_as, tallies, tally}
use Rattle.effbd.specs.Moves.{enough, is_there, lowest_item, most_word, sum_fits, sums_fit}
use Rattle.effbd.specs.States.{State}
use Rattle.ranges.specs.Tests.{and_left, and_right, clash, decide, or-false-right}
use Rattle.ranges.specs.RangeLaws.{all-elim, all-fail, all-find, all-intro, get_d-tab, least-ext, length-tab, only-refl}
use Rattle.agreement.specs.AcceptedFiles.{AllOf}
use Rattle.agreement.specs.Basics.{kind-in, not-kind, same-eq}

all_append : {A : Type 0} (Q : A → Type 0) (a b : List A) → AllOf Q a → AllOf Q b → AllOf Q (a ++ b)
all_append Q [] b h g = g
all_append Q (x ∷ a) b h g = (h.0, all_append Q a b h.1 g)

all_in : {A : Type 0} (Q : A → Type 0) (l : List A) (z : A) → AllOf Q l → (i : ℕ) → i < length l → Q (get_or l i z)
all_in Q [] z h i l = absurd (omega arith)
all_in Q (a ∷ more) z h zero l = h.0
all_in Q (a ∷ more) z h (suc i) l = all_in Q more z h.1 i (omega arith)

module _ (d : Diagram) where
  -- the numbers of counts; the count that row r takes item k from
  unfoldable pub copy_at : (k r : ℕ) → ℕ
  copy_at k r = item_total d + length (copies d k) + length (copies_of d k r)

  abbrev pub source : (r k : ℕ) → ℕ
  source r k = cond (is_trigger d k) (copy_at k r) k

  abbrev pub number_of : Tally → ℕ
  number_of (shared k) = k
  number_of (copy k r) = copy_at k r

  -- a list of counts whose numbers go on from b
  Numbered : ℕ → List Tally → Type 0
  Numbered b [] = Unit {0}
  Numbered b (t ∷ l) = (number_of t ≡ b) × Numbered (suc b) l

  more : (b : ℕ) (l m : List Tally) → Numbered b l → Numbered (b + length l) m → Numbered b (l ++ m)
  unfolding Numbered
  more b [] m h g = let y : b + 0 ≡ b = omega arith in subst (λ x. Numbered x m) y g
  more b (t ∷ l) m h g = let y : b + suc (length l) ≡ suc b + length l = omega arith in (h.0, more (suc b) l m h.1 (subst (λ x. Numbered x m) y g))

  number_at : (b : ℕ) (l : List Tally) (z : Tally) → Numbered b l → (i : ℕ) → i < length l → number_of (get_or l i z) ≡ b + i
  unfolding Numbered
  number_at b [] z h i l = absurd (omega arith)
  number_at b (t ∷ ts) z h zero l = h.0 ∙ (let y : b ≡ b + 0 = omega arith in y)
  number_at b (t ∷ ts) z h (suc i) l = number_at (suc b) ts z h.1 i (omega arith) ∙ (let y : suc b + i ≡ b + suc i = omega arith in y)

  shared-numbered : (b n : ℕ) (f : ℕ → ℕ) → ((i : ℕ) → f i ≡ b + i) → Numbered b (tabulate n (λ i. shared (f i)))
  unfolding Numbered
  shared-numbered b zero f h = tt
  shared-numbered b (suc n) f h = (h 0 ∙ (let y : b + 0 ≡ b = omega arith in y), shared-numbered (suc b) n (λ i. f (suc i)) (λ i. h (suc i) ∙ (let y : b + suc i ≡ suc b + i = omega arith in y)))

  copies_of-numbered : (k n : ℕ) → Numbered (item_total d + length (copies d k)) (copies_of d k n)
  unfolding Numbered copies_of copy_at
  copies_of-numbered k zero = tt
  copies_of-numbered k (suc r) = more (item_total d + length (copies d k)) (copies_of d k r) (cond (receives d k r) (copy k r ∷ []) []) (copies_of-numbered k r)
      (decide (receives d k r) (λ e. rw e (refl, tt)) (λ e. rw e tt))

  copies-numbered : (m : ℕ) → Numbered (item_total d) (copies d m)
  unfolding Numbered copies
  copies-numbered zero = tt
  copies-numbered (suc k) = more (item_total d) (copies d k) (copies_of d k (row_count d)) (copies-numbered k) (copies_of-numbered k (row_count d))

  all-numbered : Numbered 0 (tallies d)
  unfolding tallies
  all-numbered = more 0 (tabulate (item_total d) shared) (copies d (item_total d)) (shared-numbered 0 (item_total d) (λ i. i) (λ i. omega arith))
      (let y : item_total d ≡ 0 + length (tabulate (item_total d) shared) = rw (length-tab (item_total d) shared) (omega arith) in
      subst (λ x. Numbered x (copies d (item_total d))) y (copies-numbered (item_total d)))

  -- every count has its own number
  pub numbers : (c : ℕ) → c < count_total d → number_of (tally d c) ≡ c
  unfolding tally count_total
  numbers c l = number_at 0 (tallies d) (shared c) all-numbered c l ∙ (let y : 0 + c ≡ c = omega arith in y)

  -- the items, then the copies
  pub counts-are : count_total d ≡ item_total d + length (copies d (item_total d))
  unfolding count_total tallies
  counts-are = rw (length-append (tabulate (item_total d) shared) (copies d (item_total d)), length-tab (item_total d) shared)

  -- an item that is no trigger has no copies; without triggers there are none
  pub plain-copies : (k n : ℕ) → is_trigger d k ≡ false → copies_of d k n ≡ []
  unfolding copies_of
  plain-copies k zero e = refl
  plain-copies k (suc r) e = rw (plain-copies k r e, e)

  none-copied : (m : ℕ) → ((k : ℕ) → k < m → is_trigger d k ≡ false) → copies d m ≡ []
  unfolding copies
  none-copied zero h = refl
  none-copied (suc k) h = rw (none-copied k (λ j l. h j (omega arith)), plain-copies k (row_count d) (h k (omega arith)))

  pub no_copies : ((k : ℕ) → k < item_total d → is_trigger d k ≡ false) → count_total d ≡ item_total d
  no_copies h = counts-are ∙ rw (none-copied (item_total d) h) (omega arith)

  -- whose a count is: copies are a trigger's
  Proper : Tally → Type 0
  Proper (shared k) = k < item_total d
  Proper (copy k q) = (receives d k q ≡ true) × (k < item_total d)

  all-proper : AllOf Proper (tallies d)
  unfolding tallies Proper copies copies_of
  all-proper = all_append Proper (tabulate (item_total d) shared) _ (tab (item_total d) (λ i. i) (λ i l. l)) (some (item_total d) (omega arith))
    where
      tab : (n : ℕ) (f : ℕ → ℕ) → ((i : ℕ) → i < n → f i < item_total d) → AllOf Proper (tabulate n (λ i. shared (f i)))
      tab zero f g = tt
      tab (suc n) f g = (g 0 (omega arith), tab n (λ i. f (suc i)) (λ i l. g (suc i) (omega arith)))

      of : (k n : ℕ) → k < item_total d → AllOf Proper (copies_of d k n)
      of k zero l = tt
      of k (suc r) l = all_append Proper (copies_of d k r) _ (of k r l) (decide (receives d k r) (λ e. rw e ((e, l), tt)) (λ e. rw e tt))

      some : (m : ℕ) → m ≤ item_total d → AllOf Proper (copies d m)
      some zero l = tt
      some (suc k) l = all_append Proper (copies d k) (copies_of d k (row_count d)) (some k (omega arith)) (of k (row_count d) l)

  proper : (c : ℕ) → c < count_total d → Proper (tally d c)
  unfolding tally count_total
  proper c l = all_in Proper (tallies d) (shared c) all-proper c l

  -- every count is an item's
  pub known : (c : ℕ) → c < count_total d → item_of (tally d c) < item_total d
  known c l = go (tally d c) (proper c l)
    where
      go : (t : Tally) → Proper t → item_of t < item_total d
      go (shared k) p = unfold Proper in p
      go (copy k q) p = unfold Proper in p.1

  pub item-shared : (k : ℕ) → k < item_total d → tally d k ≡ shared k
  unfolding tally tallies
  item-shared k l = get_or-append (tabulate (item_total d) shared) (copies d (item_total d)) (shared k) k (rw (length-tab (item_total d) shared) l)
      ∙ get_d-tab (item_total d) shared k (shared k) l

  -- an item's own count is there
  pub item_in : (k : ℕ) → k < item_total d → k < count_total d
  item_in k l = rw counts-are (omega arith)

  -- a count that row r takes from is the source of its item
  taken-from : (r c : ℕ) (t : Tally) → number_of t ≡ c → Proper t → takes_as d r t ≢ 0 → (c ≡ source r (item_of t)) × (takes_as d r t ≡ take_of (row d r).uses (item_of t)) × (item_of t < item_total d)
  unfolding Proper
  taken-from r c (shared k) e p n = decide (is_trigger d k) (λ z. absurd (n (rw z))) (λ z. rw z (sym e, refl, p))
  taken-from r c (copy k q) e p n = decide (only q r)
      (λ z. let y = eqb-true r q z in rw (and_left (is_trigger d k) _ p.0) (sym e ∙ ap (copy_at k) (sym y), rw z, p.1))
      (λ z. absurd (n (rw z)))

  pub record Takes (r c : ℕ) : Type 0 where
    pub from : c ≡ source r (item_of (tally d c))
    pub much : takes d r c ≡ take_of (row d r).uses (item_of (tally d c))
    pub known : item_of (tally d c) < item_total d

  pub takes-from : (r c : ℕ) → c < count_total d → takes d r c ≢ 0 → Takes r c
  unfolding takes
  takes-from r c l n = let w = taken-from r c (tally d c) (numbers c l) (proper c l) n in record { from = w.0; much = w.1; known = w.2 }

  -- and the source of an item that it takes is there
  copies_of-at : (k r n : ℕ) (z : Tally) → r < n → receives d k r ≡ true
      → (length (copies_of d k r) < length (copies_of d k n)) × (get_or (copies_of d k n) (length (copies_of d k r)) z ≡ copy k r)
  unfolding copies_of
  copies_of-at k r zero z l e = absurd (omega arith)
  copies_of-at k r (suc n) z l e = decide (eqb r n)
      (λ f. let y = eqb-true r n f in subst (λ x. (length (copies_of d k r) < length (copies_of d k (suc x))) × (get_or (copies_of d k (suc x)) (length (copies_of d k r)) z ≡ copy k r)) y (
        rw (length-append (copies_of d k r) (cond (receives d k r) (copy k r ∷ []) []), e) (omega arith),
        let x : length (copies_of d k r) ≡ length (copies_of d k r) + 0 = omega arith in
            ap (λ i. get_or (copies_of d k r ++ cond (receives d k r) (copy k r ∷ []) []) i z) x ∙ (get_or-append-add (copies_of d k r) _ 0 z ∙ rw e),
      ))
      (λ f. let ne = eqb-false r n f in let u = copies_of-at k r n z (omega arith) e in let b = u.0 in
      (rw (length-append (copies_of d k n) (cond (receives d k n) (copy k n ∷ []) [])) (omega arith), get_or-append (copies_of d k n) _ z (length (copies_of d k r)) b ∙ u.1))

  copies_at : (k m i : ℕ) (z : Tally) → k < m → i < length (copies_of d k (row_count d))
      → (length (copies d k) + i < length (copies d m)) × (get_or (copies d m) (length (copies d k) + i) z ≡ get_or (copies_of d k (row_count d)) i z)
  unfolding copies
  copies_at k zero i z l h = absurd (omega arith)
  copies_at k (suc m) i z l h = decide (eqb k m)
      (λ e. let y = eqb-true k m e in subst (λ x. (length (copies d k) + i < length (copies d (suc x))) × (get_or (copies d (suc x)) (length (copies d k) + i) z ≡ get_or (copies_of d k (row_count d)) i z)) y
      (rw (length-append (copies d k) (copies_of d k (row_count d))) (omega arith), get_or-append-add (copies d k) (copies_of d k (row_count d)) i z))
      (λ e. let ne = eqb-false k m e in let u = copies_at k m i z (omega arith) h in let b = u.0 in
      (rw (length-append (copies d m) (copies_of d m (row_count d))) (omega arith), get_or-append (copies d m) (copies_of d m (row_count d)) z (length (copies d k) + i) b ∙ u.1))

  -- the copies of a trigger stand one after another
  run_at : (k i : ℕ) → k < item_total d → i < length (copies_of d k (row_count d))
      → (item_total d + length (copies d k) + i < count_total d)
      × (tally d (item_total d + length (copies d k) + i) ≡ get_or (copies_of d k (row_count d)) i (shared (item_total d + length (copies d k) + i)))
  unfolding tally tallies
  run_at k i l m =
      let z = shared (item_total d + length (copies d k) + i) in
      let w = copies_at k (item_total d) i z l m in
      let b = w.0 in
      let t = counts-are in
      let j = length (copies d k) + i in
      let x : item_total d + length (copies d k) + i ≡ length (tabulate (item_total d) shared) + j = rw (length-tab (item_total d) shared) (omega arith) in (
        omega arith,
        ap (λ n. get_or (tabulate (item_total d) shared ++ copies d (item_total d)) n z) x ∙ (get_or-append-add (tabulate (item_total d) shared) (copies d (item_total d)) j z ∙ w.1),
      )

  pub copy-there : (k r : ℕ) → k < item_total d → r < row_count d → receives d k r ≡ true → (copy_at k r < count_total d) × (tally d (copy_at k r) ≡ copy k r)
  unfolding copy_at
  copy-there k r l m e =
      let u = copies_of-at k r (row_count d) (shared (item_total d + length (copies d k) + length (copies_of d k r))) m e in
      let w = run_at k (length (copies_of d k r)) l u.0 in
      (w.0, w.1 ∙ u.1)

  pub record Source (r k : ℕ) : Type 0 where
    pub there : source r k < count_total d
    pub item : item_of (tally d (source r k)) ≡ k
    pub much : takes d r (source r k) ≡ take_of (row d r).uses k

  pub source_of : (r k : ℕ) → kind d r ≡ function → r < row_count d → k < item_total d → take_of (row d r).uses k ≢ 0 → Source r k
  unfolding takes
  source_of r k f l m n = decide (is_trigger d k)
      (λ e. let u = copy-there k r m l (rw (e, f, ne_eqb (take_of (row d r).uses k) 0 n)) in
      record { there = rw e u.0; item = rw (e, u.1); much = rw (e, u.1, only-refl r) })
      (λ e. let u = item-shared k m in record { there = rw e (item_in k m); item = rw (e, u); much = rw (e, u, e) })

  module _ (r : ℕ) (f : kind d r ≡ function) (l : r < row_count d) (s : State) where
    -- the item is there: so much as the row takes, in the count that it takes it from
    abbrev pub item_there : ℕ → Bool
    item_there k = leb (take_of (row d r).uses k) (s.count (source r k))

    item-there : (k c : ℕ) → c < count_total d → item_of (tally d c) ≡ k → item_there k ≡ true → is_there d r s c ≡ true
    item-there k c b e t = decide (eqb (takes d r c) 0)
        (λ z. rw (eqb-true (takes d r c) 0 z) (le-leb 0 (s.count c) zero-le))
        (λ z. let w = takes-from r c b (eqb-false (takes d r c) 0 z) in
        ap (λ x. leb (takes d r c) (s.count x)) w.from ∙ (ap (λ x. leb x (s.count (source r (item_of (tally d c))))) w.much ∙ (ap item_there e ∙ t)))

    counts-there : (k : ℕ) → k < item_total d → all_below (count_total d) (λ c. not (only k (item_of (tally d c))) || is_there d r s c) ≡ item_there k
    counts-there k m = decide (item_there k)
        (λ t. all-intro (count_total d) _ (λ c b. decide (only k (item_of (tally d c)))
        (λ e. rw e (item-there k c b (eqb-true (item_of (tally d c)) k e) t)) (λ e. rw e)) ∙ sym t)
        (λ t. let n : take_of (row d r).uses k ≢ 0 = λ z. clash (le-leb (take_of (row d r).uses k) (s.count (source r k)) (let y = z in omega arith)) t in
        let w = source_of r k f l m n in
        all-fail (count_total d) _ (source r k) w.there (rw (w.item, only-refl k, w.much) t) ∙ sym t)

    -- THEOREM: 23 by the items: a FUNCTION's takes are there exactly if each item is; the item that 23 names is the lowest that is not
    pub enough-items : enough d r s ≡ all_below (item_total d) item_there
    enough-items = decide (all_below (item_total d) item_there)
        (λ e. all-intro (count_total d) (is_there d r s) (λ c b. decide (eqb (takes d r c) 0)
        (λ z. rw (eqb-true (takes d r c) 0 z) (le-leb 0 (s.count c) zero-le))
        (λ z. let w = takes-from r c b (eqb-false (takes d r c) 0 z) in
        item-there (item_of (tally d c)) c b refl (all-elim (item_total d) item_there e (item_of (tally d c)) w.known))) ∙ sym e)
        (λ e. let w = all-find (item_total d) item_there e in
        let u = all-find (count_total d) (λ c. not (only w.0 (item_of (tally d c))) || is_there d r s c) (counts-there w.0 w.1 ∙ w.2) in
        all-fail (count_total d) (is_there d r s) u.0 u.1 (or-false-right (not (only w.0 (item_of (tally d u.0)))) (is_there d r s u.0) u.2) ∙ sym e)

    pub short-item : lowest_item d (is_there d r s) ≡ least (item_total d) (λ k. not (item_there k))
    unfolding lowest_item
    short-item = least-ext (item_total d) _ _ (λ k m. ap not (counts-there k m))

  all-copies : (k n : ℕ) → AllOf (λ (t : Tally). (q : ℕ) × (t ≡ copy k q)) (copies_of d k n)
  unfolding copies_of
  all-copies k zero = tt
  all-copies k (suc r) = all_append _ (copies_of d k r) _ (all-copies k r) (decide (receives d k r) (λ e. rw e ((r, refl), tt)) (λ e. rw e tt))

  -- a trigger's run of copies: each is one of its counts, and a give adds to it
  pub record CopyOf (k c : ℕ) : Type 0 where
    pub there : c < count_total d
    pub row : ℕ
    pub is : tally d c ≡ copy k row

  pub copies-run : (k i : ℕ) → k < item_total d → i < length (copies_of d k (row_count d)) → CopyOf k (item_total d + length (copies d k) + i)
  copies-run k i l m =
      let u = run_at k i l m in
      let q = all_in (λ (t : Tally). (q : ℕ) × (t ≡ copy k q)) (copies_of d k (row_count d)) (shared (item_total d + length (copies d k) + i)) (all-copies k (row_count d)) i m in
      record { there = u.0; row = q.0; is = u.1 ∙ q.1 }

  pub gives-copy : (r c k q : ℕ) → tally d c ≡ copy k q → gives d r c ≡ give_of (row d r).uses k
  unfolding gives
  gives-copy r c k q e = rw e

  pub gives-item : (r k : ℕ) → k < item_total d → is_trigger d k ≡ false → gives d r k ≡ give_of (row d r).uses k
  unfolding gives
  gives-item r k m e = rw (item-shared k m, e)

  -- where a count that row r gives to stands: an item's own, or in the run of a trigger's copies
  pub record Gives (r c : ℕ) : Type 0 where
    pub much : gives d r c ≡ give_of (row d r).uses (item_of (tally d c))
    pub plain : is_trigger d (item_of (tally d c)) ≡ false → c ≡ item_of (tally d c)
    pub from : is_trigger d (item_of (tally d c)) ≡ true → item_total d + length (copies d (item_of (tally d c))) ≤ c
    pub to : is_trigger d (item_of (tally d c)) ≡ true → c < item_total d + length (copies d (item_of (tally d c))) + length (copies_of d (item_of (tally d c)) (row_count d))

  row_in : (k q : ℕ) → receives d k q ≡ true → q < row_count d
  row_in k q e = kind-in d q (not-kind d q (same-eq (kind d q) function (and_left (is_kind d function q) _ (and_right (is_trigger d k) _ e))) end refl)

  given_to : (r c : ℕ) (t : Tally) → number_of t ≡ c → Proper t → gives_as d r t ≢ 0
      → (gives_as d r t ≡ give_of (row d r).uses (item_of t))
      × (is_trigger d (item_of t) ≡ false → c ≡ item_of t)
      × (is_trigger d (item_of t) ≡ true → item_total d + length (copies d (item_of t)) ≤ c)
      × (is_trigger d (item_of t) ≡ true → c < item_total d + length (copies d (item_of t)) + length (copies_of d (item_of t) (row_count d)))
  unfolding Proper copy_at
  given_to r c (shared k) e p n = decide (is_trigger d k)
      (λ z. absurd (n (rw z)))
      (λ z. (rw z, λ y. sym e, λ y. clash y z, λ y. clash y z))
  given_to r c (copy k q) e p n =
      let u = copies_of-at k q (row_count d) (shared c) (row_in k q p.0) p.0 in
      let b = u.0 in
      (refl, λ y. clash (and_left (is_trigger d k) _ p.0) y, λ y. omega arith, λ y. omega arith)

  pub gives_to : (r c : ℕ) → c < count_total d → gives d r c ≢ 0 → Gives r c
  unfolding gives
  gives_to r c l n = let w = given_to r c (tally d c) (numbers c l) (proper c l) n in record { much = w.0; plain = w.1; from = w.2; to = w.3 }

  module _ (r : ℕ) (s : State) (words : (c : ℕ) → s.count c ≤ most_word) where
    -- the give of an item fits: in its count, of a trigger in each of its copies
    abbrev pub item_fits : ℕ → Bool
    item_fits k = cond (is_trigger d k)
        (all_below (length (copies_of d k (row_count d))) (λ i. leb (s.count (item_total d + length (copies d k) + i) + give_of (row d r).uses k) most_word))
        (leb (s.count k + give_of (row d r).uses k) most_word)

    fits-as : (c : ℕ) (t : Tally) → number_of t ≡ c → Proper t → item_fits (item_of t) ≡ true → leb (s.count c + gives_as d r t) most_word ≡ true
    unfolding Proper copy_at
    fits-as c (shared k) e p f = decide (is_trigger d k)
        (λ z. rw z (let w = words c in le-leb (s.count c + 0) most_word (omega arith)))
        (λ z. rw (z, ← e) (rw z at f))
    fits-as c (copy k q) e p f =
        let g : all_below (length (copies_of d k (row_count d))) (λ i. leb (s.count (item_total d + length (copies d k) + i) + give_of (row d r).uses k) most_word) ≡ true
        = rw (and_left (is_trigger d k) _ p.0) at f in
        let u = copies_of-at k q (row_count d) (shared c) (row_in k q p.0) p.0 in
        subst (λ x. leb (s.count x + give_of (row d r).uses k) most_word ≡ true) e (all-elim (length (copies_of d k (row_count d))) _ g (length (copies_of d k q)) u.0)

    fit : (c : ℕ) → c < count_total d → item_fits (item_of (tally d c)) ≡ true → sum_fits d r s c ≡ true
    unfolding gives
    fit c l f = fits-as c (tally d c) (numbers c l) (proper c l) f

    -- an item that does not fit has a count that does not
    misfit : (k : ℕ) → k < item_total d → item_fits k ≡ false → (c : ℕ) × (c < count_total d) × (item_of (tally d c) ≡ k) × (sum_fits d r s c ≡ false)
    misfit k m f = decide (is_trigger d k)
        (λ e. let w = all-find (length (copies_of d k (row_count d))) (λ i. leb (s.count (item_total d + length (copies d k) + i) + give_of (row d r).uses k) most_word) (rw e at f) in
        let u = copies-run k w.0 m w.1 in
        let c = item_total d + length (copies d k) + w.0 in
        (c, u.there, ap item_of u.is, ap (λ x. leb (s.count c + x) most_word) (gives-copy r c k u.row u.is) ∙ w.2))
        (λ e. (k, item_in k m, ap item_of (item-shared k m), ap (λ x. leb (s.count k + x) most_word) (gives-item r k m e) ∙ (rw e at f)))

    -- THEOREM: 25 by the items: all sums fit exactly if each item's gives do; the item that 25 names is the lowest whose do not
    pub fits-items : sums_fit d r s ≡ all_below (item_total d) item_fits
    fits-items = decide (all_below (item_total d) item_fits)
        (λ e. all-intro (count_total d) (sum_fits d r s) (λ c b. fit c b (all-elim (item_total d) item_fits e (item_of (tally d c)) (known c b))) ∙ sym e)
        (λ e. let w = all-find (item_total d) item_fits e in let u = misfit w.0 w.1 w.2 in all-fail (count_total d) (sum_fits d r s) u.0 u.1 u.3 ∙ sym e)

    pub full-item : lowest_item d (sum_fits d r s) ≡ least (item_total d) (λ k. not (item_fits k))
    unfolding lowest_item
    full-item = least-ext (item_total d) _ _ (λ k m. ap not (decide (item_fits k)
        (λ t. all-intro (count_total d) _ (λ c b. decide (only k (item_of (tally d c)))
        (λ e. rw e (fit c b (ap item_fits (eqb-true (item_of (tally d c)) k e) ∙ t))) (λ e. rw e)) ∙ sym t)
        (λ t. let u = misfit k m t in
        all-fail (count_total d) (λ c. not (only k (item_of (tally d c))) || sum_fits d r s c) u.0 u.1 (rw (u.2, only-refl k) u.3) ∙ sym t)))
