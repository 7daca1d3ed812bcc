-- The arcs of weights at a diagram's places, as the turns of loops over rows and counts.
use Rattle.std.proofs.Common.{ℕ, zero, suc, ◌+◌, ◌*◌, ◌%◌, ◌≤◌, ◌<◌, ◌≡◌, refl, ap, ap₂, ◌∙◌, ◌≢◌, Bool, cond, [], ◌∷◌, ◌++◌, map, append-nil, arith, eqb, ne_eqb}
use Rattle.std.proofs.lemmas.List.{map-append}
use Rattle.effbd.specs.Ranges.{only}
use Rattle.effbd.specs.Diagrams.{Diagram, row_count}
use Rattle.effbd.specs.Counts.{count_total}
use Rattle.effbd.specs.Layout.{Place, P, Q, R, Count, by_place, places, place_of}
use Rattle.effbd.specs.Patterns.{none, one_at, marks_p, arcs_of}
use Rattle.ranges.specs.Tests.{decide}
use Rattle.ranges.specs.RangeLaws.{only-refl}
use Rattle.agreement.proofs.Numbering.{place-P, place-Q, place-R, place-I}
use Rattle.net_records.specs.Writing.{Records, runs}
use Rattle.net_records.specs.Records.{arc}
use Rattle.net_records.proofs.Nets.{arc_record}
use Rattle.net_records.proofs.Runs.{runs_same, runs_none, runs-plus, runs-threes, runs-one}

pub arcs-run : (k n : ℕ) (w : ℕ → ℕ) → n ≤ 65536 → map arc_record (arcs_of k n w) ≡ runs (λ p. arc k p (w p)) n
unfolding arcs_of runs arc
arcs-run k zero w l = refl
arcs-run k (suc n) w l = map-append arc_record (arcs_of k n w) (cond (eqb (w n) 0) [] (record { kind = k; first = n; second = w n } ∷ []))
    ∙ ap₂ ◌++◌ (arcs-run k n w (omega arith)) (decide (eqb (w n) 0) (λ e. rw e) (λ e. let z : n % 65536 ≡ n = omega arith in rw (e, z)))

pub arc-none : (k p : ℕ) {w : ℕ} → w ≡ 0 → arc k p w ≡ []
unfolding arc
arc-none k p e = rw e

-- the arcs of one row's places P, Q, R
unfoldable pub row_arcs : (k : ℕ) (a b c : ℕ → ℕ) (q : ℕ) → Records
row_arcs k a b c q = arc k (3 * q) (a q) ++ (arc k (3 * q + 1) (b q) ++ arc k (3 * q + 2) (c q))

-- nothing weighs at row q
pub record Idle (a b c : ℕ → ℕ) (q : ℕ) : Type 0 where
  pub at_p : a q ≡ 0
  pub at_q : b q ≡ 0
  pub at_r : c q ≡ 0

pub idle-row : (k : ℕ) {a b c : ℕ → ℕ} {q : ℕ} → Idle a b c q → row_arcs k a b c q ≡ []
unfolding row_arcs
idle-row k {q = q} i = rw (arc-none k (3 * q) i.at_p, arc-none k (3 * q + 1) i.at_q, arc-none k (3 * q + 2) i.at_r)

module _ (d : Diagram) where
  -- a value at each place, row by row and then count by count
  pub by_rows : (F : ℕ → ℕ → Records) (w : Place → ℕ) → runs (λ p. F p (w (place_of d p))) (places d)
      ≡ runs (λ q. F (3 * q) (w (P q)) ++ (F (3 * q + 1) (w (Q q)) ++ F (3 * q + 2) (w (R q)))) (row_count d)
      ++ runs (λ k. F (3 * row_count d + k) (w (Count k))) (count_total d)
  by_rows F w = runs-plus f (3 * row_count d) (count_total d) ∙ ap₂ ◌++◌
      (runs-threes f (row_count d) ∙ runs_same _ _ (row_count d) (λ q l. rw (place-P d q l, place-Q d q l, place-R d q l)))
      (runs_same _ _ (count_total d) (λ k l. rw (place-I d k)))
    where
      f : ℕ → Records
      f p = F p (w (place_of d p))

  -- the arcs of kind k of a weight at each place
  unfoldable pub weights : ℕ → (Place → ℕ) → Records
  weights k w = runs (λ p. arc k p (w (place_of d p))) (places d)

  unfoldable pub count_arcs : ℕ → (ℕ → ℕ) → Records
  count_arcs k e = runs (λ i. arc k (3 * row_count d + i) (e i)) (count_total d)

  pub count_none : (k : ℕ) → count_arcs k none ≡ []
  unfolding count_arcs
  count_none k = runs_none _ (count_total d) (λ i l. arc-none k (3 * row_count d + i) refl)

  pub weighed : (k : ℕ) (a b c e : ℕ → ℕ) → weights k (by_place a b c e) ≡ runs (row_arcs k a b c) (row_count d) ++ count_arcs k e
  unfolding weights row_arcs count_arcs
  weighed k a b c e = by_rows (arc k) (by_place a b c e)

  -- weights at the places of row x alone
  pub at_row : (k : ℕ) (a b c e : ℕ → ℕ) (x : ℕ) → x < row_count d → ((q : ℕ) → q ≢ x → Idle a b c q)
      → weights k (by_place a b c e) ≡ row_arcs k a b c x ++ count_arcs k e
  at_row k a b c e x l h = weighed k a b c e ∙ ap (λ (l : Records). l ++ count_arcs k e) (runs-one (row_arcs k a b c) x (row_count d) l (λ q n. idle-row k (h q n)))

  -- one mark at P of row x, and weights at its Q and R and at counts
  pub at-P : (k x : ℕ) (b c e : ℕ → ℕ) → x < row_count d → ((q : ℕ) → q ≢ x → (b q ≡ 0) × (c q ≡ 0))
      → weights k (by_place (one_at (only x)) b c e) ≡ arc k (3 * x) 1 ++ (arc k (3 * x + 1) (b x) ++ arc k (3 * x + 2) (c x)) ++ count_arcs k e
  unfolding row_arcs
  at-P k x b c e l h = at_row k (one_at (only x)) b c e x l (λ q n. record { at_p = rw (ne_eqb q x n); at_q = (h q n).0; at_r = (h q n).1 }) ∙ rw (only-refl x)

  pub mark-P : (k x : ℕ) → x < row_count d → weights k (marks_p (only x)) ≡ arc k (3 * x) 1
  mark-P k x l = at-P k x none none none l (λ q n. (refl, refl))
      ∙ rw (arc-none k (3 * x + 1) refl, arc-none k (3 * x + 2) refl, count_none k, append-nil, append-nil)

  pub mark-Q : (k x : ℕ) → x < row_count d → weights k (by_place none (one_at (only x)) none none) ≡ arc k (3 * x + 1) 1
  unfolding row_arcs
  mark-Q k x l = at_row k none (one_at (only x)) none none x l (λ q n. record { at_p = refl; at_q = rw (ne_eqb q x n); at_r = refl })
      ∙ rw (arc-none k (3 * x) refl, arc-none k (3 * x + 2) refl, count_none k, append-nil, only-refl x, append-nil)

  -- one mark at P of each row of a set
  pub mark-each : (k : ℕ) (S : ℕ → Bool) → weights k (marks_p S) ≡ runs (λ q. cond (S q) (arc k (3 * q) 1) []) (row_count d)
  unfolding row_arcs
  mark-each k S = weighed k (one_at S) none none none ∙ (rw (count_none k, append-nil) (runs_same _ _ (row_count d) (λ q l.
      rw (arc-none k (3 * q + 1) refl, arc-none k (3 * q + 2) refl, append-nil) (decide (S q) (λ e. rw e) (λ e. rw e (arc-none k (3 * q) refl))))))
