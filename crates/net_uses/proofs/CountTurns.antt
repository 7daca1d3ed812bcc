-- Turns over all counts: over the items, then over the copies of triggers, each trigger's together.
use Rattle.std.proofs.Common.{ℕ, zero, suc, ◌+◌, ◌*◌, ◌<◌, ◌≡◌, refl, sym, ap, ap₂, ◌∙◌, ◌≢◌, true, cond, [], ◌∷◌, ◌++◌, arith, length, length-append, eqb, eqb-true, eq-eqb, ne_eqb}
use Rattle.std.proofs.lemmas.Bool.{eqb-false}
use Rattle.effbd.specs.Diagrams.{Diagram, function, is_trigger, item_total, kind, row, row_count}
use Rattle.effbd.specs.Counts.{copies, copies_of, copy, count_total, give_of, gives, item_of, receives, take_of, takes, tally}
use Rattle.effbd.specs.Nets.{take_arc, give_arc}
use Rattle.ranges.specs.Tests.{decide}
use Rattle.agreement.specs.Sources.{copies-run, copy_at, counts-are, gives-copy, source, source_of, takes-from}
use Rattle.net_records.specs.Writing.{Records, runs}
use Rattle.net_records.specs.Records.{arc}
use Rattle.net_records.proofs.Runs.{runs_same, runs_none, runs-one, runs-plus}
use Rattle.net_clears.proofs.Weights.{arc-none}
use Rattle.net_uses.specs.FunctionTransitions.{equal_arcs}

module _ (d : Diagram) where
  -- a trigger's first copy, how many it has
  abbrev pub first_of : ℕ → ℕ
  first_of k = item_total d + length (copies d k)

  abbrev pub receivers_of : ℕ → ℕ
  receivers_of k = length (copies_of d k (row_count d))

  by-copies : (F : ℕ → Records) (m : ℕ) → runs (λ i. F (item_total d + i)) (length (copies d m)) ≡ runs (λ k. runs (λ i. F (first_of k + i)) (receivers_of k)) m
  unfolding copies runs
  by-copies F zero = refl
  by-copies F (suc k) = rw (length-append (copies d k) (copies_of d k (row_count d))) (runs-plus (λ i. F (item_total d + i)) (length (copies d k)) (receivers_of k)
      ∙ ap₂ ◌++◌ (by-copies F k) (runs_same _ _ (receivers_of k) (λ i l. let e : item_total d + (length (copies d k) + i) ≡ first_of k + i = omega arith in ap F e)))

  pub by-counts : (F : ℕ → Records) → runs F (count_total d) ≡ runs F (item_total d) ++ runs (λ k. runs (λ i. F (first_of k + i)) (receivers_of k)) (item_total d)
  by-counts F = ap (runs F) (counts-are d) ∙ (runs-plus F (item_total d) (length (copies d (item_total d)))
      ∙ ap (λ (x : Records). runs F (item_total d) ++ x) (by-copies F (item_total d)))

  -- a row's place among the receivers
  rank-low : (k r n : ℕ) → r < n → receives d k r ≡ true → length (copies_of d k r) < length (copies_of d k n)
  unfolding copies_of
  rank-low k r zero l e = absurd (omega arith)
  rank-low k r (suc n) l e = rw (length-append (copies_of d k n) (cond (receives d k n) (copy k n ∷ []) [])) (decide (eqb r n)
      (λ z. let y = eqb-true r n z in rw (← y, e) (omega arith))
      (λ z. let y = eqb-false r n z in let i = rank-low k r n (omega arith) e in omega arith))

  module _ (r k : ℕ) (l : k < item_total d) (t : is_trigger d k ≡ true) where
    -- of a trigger's copies a FUNCTION takes from its own, and gives to all
    own : (i : ℕ) → i < receivers_of k → takes d r (first_of k + i) ≢ 0 → (first_of k + i ≡ copy_at d k r) × (take_of (row d r).uses k ≢ 0)
    own i b n =
        let w = copies-run d k i l b in
        let s = takes-from d r (first_of k + i) w.there n in
        let e : item_of (tally d (first_of k + i)) ≡ k = ap item_of w.is in
        let y : source d r k ≡ copy_at d k r = rw t in
        (s.from ∙ (ap (source d r) e ∙ y), λ z. n (s.much ∙ (ap (take_of (row d r).uses) e ∙ z)))

    pub taken : kind d r ≡ function → r < row_count d
        → runs (λ i. arc take_arc (3 * row_count d + (first_of k + i)) (takes d r (first_of k + i))) (receivers_of k) ≡ arc take_arc (3 * row_count d + copy_at d k r) (take_of (row d r).uses k)
    unfolding copy_at
    taken f m = decide (eqb (take_of (row d r).uses k) 0)
        (λ z. let y = eqb-true (take_of (row d r).uses k) 0 z in
        runs_none _ (receivers_of k) (λ i b. arc-none take_arc _ (unless (takes d r (first_of k + i)) (λ n. (own i b n).1 y))) ∙ sym (arc-none take_arc _ y))
        (λ z. let n = eqb-false (take_of (row d r).uses k) 0 z in let s = source_of d r k f m l n in
        let y : source d r k ≡ copy_at d k r = rw t in
        runs_same _ (λ i. cond (eqb i rank) (arc take_arc (3 * row_count d + copy_at d k r) (take_of (row d r).uses k)) []) (receivers_of k) (λ i b. decide (eqb i rank)
        (λ x. rw (x, eqb-true i rank x) (ap (arc take_arc _) (ap (takes d r) (sym y) ∙ s.much)))
        (λ x. let ne = eqb-false i rank x in rw x (arc-none take_arc _ (unless (takes d r (first_of k + i)) (λ o. let v = (own i b o).0 in absurd (omega arith))))))
        ∙ (runs-one _ rank (receivers_of k) (rank-low k r (row_count d) m (rw (t, f, z))) (λ i ne. rw (ne_eqb i rank ne)) ∙ rw (eq-eqb rank rank refl)))
      where
        rank : ℕ
        rank = length (copies_of d k r)

        unless : (n : ℕ) → (n ≢ 0 → ⊥) → n ≡ 0
        unless n h = decide (eqb n 0) (λ z. eqb-true n 0 z) (λ z. absurd (h (eqb-false n 0 z)))

    pub given : runs (λ i. arc give_arc (3 * row_count d + (first_of k + i)) (gives d r (first_of k + i))) (receivers_of k) ≡ equal_arcs give_arc (3 * row_count d + first_of k) (receivers_of k) (give_of (row d r).uses k)
    unfolding equal_arcs
    given = runs_same _ _ (receivers_of k) (λ i b. let w = copies-run d k i l b in let e : 3 * row_count d + (first_of k + i) ≡ 3 * row_count d + first_of k + i = omega arith in
        ap₂ (arc give_arc) e (gives-copy d r (first_of k + i) k w.row w.is))
