-- What a walk over a construct's rows writes, which leaves out the rows of the constructs in it.
use Rattle.std.proofs.Common.{ℕ, zero, suc, ◌+◌, ◌-◌, ◌*◌, ◌≤◌, ◌<◌, zero-le, ◌≡◌, refl, ap, sym, ◌&&◌, List, [], ◌++◌, append-nil, arith, add-zero, ltb, ltb-true, ltb-false, lt-ltb, le-ltb}
use Rattle.ranges.specs.Tests.{decide, and_left, and_right}
use Rattle.diagram_table.specs.Cells.{close_in}
use Rattle.net_records.specs.declared.Writer.{Writer}
use Rattle.net_records.specs.Writing.{Records, Wrote, runs, span}
use Rattle.net_records.proofs.Runs.{runs_same, runs_none, runs-plus, runs-front}
use Rattle.net_records.proofs.Small.{Small, none-small, more, ◌then◌, either}
use Rattle.net_rows.specs.Rows.{behind_in, walk}
use Rattle.net_uses.proofs.Underway.{Underway, begun, further, finished}

-- the turns between q and b write nothing
span-jump : (f : ℕ → Records) (q b stop : ℕ) → q < b → b ≤ stop → ((i : ℕ) → q < i → i < b → f i ≡ []) → span f q stop ≡ f q ++ span f b stop
unfolding span
span-jump f q b stop l m h =
    let e : stop - q ≡ suc (b - suc q) + (stop - b) = omega arith in
    rw (e, runs-plus (λ i. f (q + i)) (suc (b - suc q)) (stop - b), runs-front (λ i. f (q + i)) (b - suc q), runs_none (λ i. f (q + suc i)) (b - suc q) (λ i k. h (q + suc i) (omega arith) (omega arith)), append-nil, add-zero)
    (ap (λ (x : Records). f q ++ x) (runs_same _ (λ i. f (b + i)) (stop - b) (λ i k. let z : q + (suc (b - suc q) + i) ≡ b + i = omega arith in ap f z)))

module _ (table : List ℕ) (closed : ℕ) where
  -- the next row stands behind the row and not behind `closed`; the rows between are in a construct that closes before
  pub record Behind (q b : ℕ) : Type 0 where
    pub on : q < b
    pub low : b ≤ closed
    pub between : (i : ℕ) → q < i → i < b → (i ≤ close_in table q) × (close_in table q < closed)

  pub behind : (q : ℕ) → q < closed → Behind q (behind_in table q closed)
  unfolding behind_in
  behind q l = decide (ltb q (close_in table q) && ltb (close_in table q) closed)
      (λ e. let a = ltb-true q (close_in table q) (and_left (ltb q (close_in table q)) _ e) in
      let b = ltb-true (close_in table q) _ (and_right (ltb q (close_in table q)) _ e) in
      rw e (record { on = omega arith; low = omega arith; between = λ i m n. (omega arith, omega arith) }))
      (λ e. rw e (record { on = omega arith; low = omega arith; between = λ i m n. absurd (omega arith) }))

  module _ (f : ℕ → Records) where
    -- from `closed` on nothing is left
    walk-ended : (n q : ℕ) → closed ≤ q → walk table closed f n q ≡ []
    unfolding walk
    walk-ended zero q l = refl
    walk-ended (suc n) q l = rw (le-ltb q closed l)

    span-ended : (q : ℕ) → closed ≤ q → span f q closed ≡ []
    unfolding span runs
    span-ended q l = let z : closed - q ≡ 0 = omega arith in rw z

    -- nothing is left out where the rows of the constructs that close before `closed` write nothing
    pub walk-span : (o : ℕ) → ((p q : ℕ) → o ≤ p → p < q → q ≤ close_in table p → close_in table p < closed → f q ≡ [])
        → (n q : ℕ) → o ≤ q → closed ≤ q + n → walk table closed f n q ≡ span f q closed
    unfolding walk
    walk-span o h zero q m l = sym (span-ended q (omega arith))
    walk-span o h (suc n) q m l = decide (ltb q closed)
        (λ e. let b = behind q (ltb-true q closed e) in let on = b.on in
        rw (e, walk-span o h n (behind_in table q closed) (omega arith) (omega arith))
        (sym (span-jump f q (behind_in table q closed) closed on b.low (λ i j k. let w = b.between i j k in h q i m j w.0 w.1))))
        (λ e. rw e (sym (span-ended q (ltb-false q closed e))))

    pub walk-small : (k n q : ℕ) → ((i : ℕ) → Small (f i) k) → Small (walk table closed f n q) (n * k)
    unfolding walk
    walk-small k zero q h = more zero-le none-small
    walk-small k (suc n) q h = either (ltb q closed) (more (omega arith) (h q then walk-small k n (behind_in table q closed) h)) (more zero-le none-small)

    -- the walk has come to row q
    pub record Walking (whole : Records) (before after : Writer) (q : ℕ) : Type 0 where
      pub turns : ℕ
      pub enough : closed ≤ q + turns
      pub underway : Underway whole (walk table closed f turns q) before after

    pub walk_start : (w : Writer) (q : ℕ) → Walking (walk table closed f closed q) w w q
    walk_start w q = record { turns = closed; enough = omega arith; underway = begun w refl }

    pub walk-again : {whole : Records} {a b c : Writer} (q : ℕ) → q < closed → Walking whole a b q → Wrote b c (f q) → Walking whole a c (behind_in table q closed)
    unfolding walk
    walk-again {whole} {a} {b} {c} q l w v = go w.turns w.enough w.underway
      where
        go : (k : ℕ) → closed ≤ q + k → Underway whole (walk table closed f k q) a b → Walking whole a c (behind_in table q closed)
        go zero e u = absurd (omega arith)
        go (suc k) e u = let on = (behind q l).on in record { turns = k; enough = omega arith; underway = further (rw (lt-ltb q closed l)) u v }

    pub walk-done : {whole : Records} {a b : Writer} (q : ℕ) → closed ≤ q → Walking whole a b q → Wrote a b whole
    walk-done q l w = finished (walk-ended w.turns q l) w.underway
