-- One reading of a log with two positions finds the busiest hour: the front position goes from start to start, the back position follows
-- it to the first start less than an hour before. What is kept: the starts between them, the most so far and where.
use Rattle.std.specs.Prelude.{ℕ, suc, ◌+◌, ◌≤◌, ◌<◌, ◌≡◌, refl, true, false, List, [], ◌∷◌, ◌++◌, length, get_or, leb, ltb, eqb}
use Rattle.std.proofs.Common.{sym, ◌∙◌, ap, ap₂, subst, append_assoc, append-nil, arith, length-append, get_or-append-add, eqb-true, ltb-true, ltb-false, leb-true, leb-false}
use Rattle.std.proofs.Math.ListN.{get_or-append}
use Rattle.std.proofs.lemmas.Bool.{eqb-false}
use Rattle.effbd.specs.Starts.{hour, fall_in, Busiest, busiest_from, busiest}
use Rattle.ranges.specs.Tests.{decide}
use Rattle.log_laws.specs.Spans.{Rising, rising-at, each-cons, each_append, span-in, span-high, fall-append, fall-most, fall-none, fall-all, Among, Most, by-starts, busiest-is, most-one}
use Rattle.log_laws.specs.SpanWalk.{reach, Walk, better, turn, walk, no_walk, Walked}

-- what reach leaves, near
record Reached (t : ℕ) (xs near : List ℕ) : Type 0 where
  dropped : List ℕ
  parts : xs ≡ dropped ++ near
  far : (i : ℕ) → i < length dropped → get_or dropped i 0 + hour ≤ t
  close : (i : ℕ) → i < length near → t < get_or near i 0 + hour
  kept : Rising 0 near

pub reach_far : (t x : ℕ) (xs : List ℕ) → leb (x + hour) t ≡ true → reach t (x ∷ xs) ≡ reach t xs
reach_far t x xs e = rw (reach, e)

pub reach_near : (t x : ℕ) (xs : List ℕ) → leb (x + hour) t ≡ false → reach t (x ∷ xs) ≡ x ∷ xs
reach_near t x xs e = rw (reach, e)

reached : (t lo : ℕ) (xs : List ℕ) → Rising lo xs → Reached t xs (reach t xs)
reached t lo [] r = record { dropped = []; parts = refl; far = λ i l. absurd (omega arith); close = λ i l. absurd (omega arith); kept = tt }
reached t lo (x ∷ xs) r = decide (leb (x + hour) t)
    (λ e. let h = reached t x xs r.1 in subst (Reached t (x ∷ xs)) (sym (reach_far t x xs e)) (record {
      dropped = x ∷ h.dropped;
      parts = ap (λ (l : List ℕ). x ∷ l) h.parts;
      far = each-cons (λ v. v + hour ≤ t) x h.dropped (leb-true (x + hour) t e) h.far;
      close = h.close;
      kept = h.kept;
    }))
    (λ e. let n = leb-false (x + hour) t e in subst (Reached t (x ∷ xs)) (sym (reach_near t x xs e)) (record {
      dropped = [];
      parts = refl;
      far = λ i l. absurd (omega arith);
      close = each-cons (λ v. t < v + hour) x xs n (λ i l. let z = rising-at x xs r.1 i l in omega arith);
      kept = (omega arith, r.1);
    }))

rising_snoc : (lo t : ℕ) (xs : List ℕ) → Rising lo xs → lo ≤ t → ((i : ℕ) → i < length xs → get_or xs i 0 ≤ t) → Rising lo (xs ++ (t ∷ []))
rising_snoc lo t [] r l h = (l, tt)
rising_snoc lo t (x ∷ xs) r l h = (r.0, rising_snoc x t xs r.1 (h 0 (omega arith)) (λ i m. h (suc i) (omega arith)))

-- one start more, at time t: `out` are out of its reach, `near` are not
module _ (out near : List ℕ) (t : ℕ) (b : Busiest)
    (far : (i : ℕ) → i < length out → get_or out i 0 + hour ≤ t)
    (reaches : (i : ℕ) → i < length near → t < get_or near i 0 + hour)
    (behind : (i : ℕ) → i < length near → get_or near i 0 ≤ t)
    (rises : Rising 0 near)
    (old : Most (out ++ near) b) where
  abbrev all : List ℕ
  all = (out ++ near) ++ (t ∷ [])

  abbrev span : List ℕ
  span = near ++ (t ∷ [])

  span-near : (i : ℕ) → i < length span → t < get_or span i 0 + hour
  span-near = each_append (λ v. t < v + hour) near (t ∷ []) reaches (each-cons (λ v. t < v + hour) t [] (omega arith) (λ i l. absurd (omega arith)))

  span-behind : (i : ℕ) → i < length span → get_or span i 0 ≤ t
  span-behind = each_append (λ v. v ≤ t) near (t ∷ []) behind (each-cons (λ v. v ≤ t) t [] (omega arith) (λ i l. absurd (omega arith)))

  span-rises : Rising 0 span
  span-rises = rising_snoc 0 t near rises (omega arith) behind

  span-long : length span ≡ suc (length near)
  span-long = let z = length-append near (t ∷ []) in omega arith

  regroup : all ≡ out ++ span
  regroup = append_assoc out near (t ∷ [])

  -- a start out of reach has as many as before
  as_before : (x : ℕ) → x + hour ≤ t → fall_in x all ≡ fall_in x (out ++ near)
  unfolding fall_in
  as_before x l = fall-append x (out ++ near) (t ∷ []) ∙ rw (span-high x t l) (omega arith)

  one_more : (x : ℕ) → x ≤ t → t < x + hour → fall_in x all ≡ suc (fall_in x (out ++ near))
  unfolding fall_in
  one_more x l m = fall-append x (out ++ near) (t ∷ []) ∙ rw (span-in x t l m) (omega arith)

  no-fewer : (x : ℕ) → fall_in x (out ++ near) ≤ fall_in x all
  no-fewer x = let z = fall-append x (out ++ near) (t ∷ []) in omega arith

  -- a start in reach has at most those between the positions
  in_reach : (x : ℕ) → t < x + hour → fall_in x all ≤ length span
  in_reach x l = let z = ap (fall_in x) regroup in let y = fall-append x out span in
      let w = fall-none x out (λ i m. let f = far i m in omega arith) in let m = fall-most x span in omega arith

  -- the first of them has them all
  first-has : (x : ℕ) (xs : List ℕ) → span ≡ x ∷ xs → fall_in x all ≡ length span
  first-has x xs e = ap (fall_in x) regroup ∙ (fall-append x out span ∙ (ap₂ (λ (m n : ℕ). m + n)
      (fall-none x out (λ i m. let f = far i m in let h = head_near in omega arith))
      (fall-all x span (λ i m. (above i m, let g = span-behind i m in let h = head_near in omega arith))) ∙ (let z : 0 + length span ≡ length span = omega arith in z)))
    where
      head_near : t < x + hour
      head_near = subst (λ (l : List ℕ). 0 < length l → t < get_or l 0 0 + hour) e (span-near 0) (omega arith)

      above : (i : ℕ) → i < length span → x ≤ get_or span i 0
      above = subst (λ (l : List ℕ). (i : ℕ) → i < length l → x ≤ get_or l i 0) (sym e)
          (each-cons (λ v. x ≤ v) x xs (omega arith) (rising-at x xs (subst (Rising 0) e span-rises).1))

  -- the new bound
  bounded : (most : ℕ) → b.most ≤ most → length span ≤ most → (i : ℕ) → i < length all → fall_in (get_or all i 0) all ≤ most
  bounded most l m = subst (λ (k : List ℕ). (i : ℕ) → i < length k → fall_in (get_or k i 0) all ≤ most) (sym regroup)
      (each_append (λ v. fall_in v all ≤ most) out span
      (λ i n. let z = as_before (get_or out i 0) (far i n) in let y = old.none_more (get_or out i 0) in omega arith)
      (λ i n. let z = in_reach (get_or span i 0) (span-near i n) in omega arith))

  all-long : length all ≡ suc (length (out ++ near))
  all-long = let z = length-append (out ++ near) (t ∷ []) in omega arith

  -- more than the most so far
  overtakes : (x : ℕ) (xs : List ℕ) → span ≡ x ∷ xs → b.most < length span → Most all (record { most = length span; at = x })
  overtakes x xs e l = record {
    none_more = by-starts all (length span) (bounded (length span) (omega arith) (omega arith));
    is-start = λ n. among;
    has-most = λ n. first-has x xs e;
    earliest = subst (λ (k : List ℕ). (i : ℕ) → i < length k → get_or k i 0 < x → fall_in (get_or k i 0) all < length span) (sym regroup)
        (each_append (λ v. v < x → fall_in v all < length span) out span
        (λ i n k. let z = as_before (get_or out i 0) (far i n) in let y = old.none_more (get_or out i 0) in omega arith)
        (λ i n k. absurd (let z = above i n in omega arith)));
    if_none = λ z. absurd (let y = all-long in omega arith);
  }
    where
      above : (i : ℕ) → i < length span → x ≤ get_or span i 0
      above = subst (λ (k : List ℕ). (i : ℕ) → i < length k → x ≤ get_or k i 0) (sym e)
          (each-cons (λ v. x ≤ v) x xs (omega arith) (rising-at x xs (subst (Rising 0) e span-rises).1))

      among : Among all x
      among = subst (λ (k : List ℕ). Among k x) (sym (regroup ∙ ap (λ (k : List ℕ). out ++ k) e))
          (record { place = length out + 0; low = (let z = length-append out (x ∷ xs) in omega arith); is = get_or-append-add out (x ∷ xs) 0 0 })

  -- not more
  stays : length span ≤ b.most → Most all b
  stays l = record {
    none_more = by-starts all b.most (bounded b.most (omega arith) l);
    is-start = λ n. among;
    has-most = λ n. same;
    earliest = subst (λ (k : List ℕ). (i : ℕ) → i < length k → get_or k i 0 < b.at → fall_in (get_or k i 0) all < b.most) (sym regroup)
        (each_append (λ v. v < b.at → fall_in v all < b.most) out span
        (λ i n k. let z = as_before (get_or out i 0) (far i n) in
        let y = old.earliest i (let q = length-append out near in omega arith) in
        let g = get_or-append out near 0 i n in let f = ap (λ v. fall_in v (out ++ near)) g in let w = y (omega arith) in omega arith)
        (λ i n k. absurd (let r = span-near i n in let h = one_more b.at at-behind (omega arith) in
        let s = in_reach b.at (omega arith) in let o = has-old in omega arith)));
    if_none = λ z. absurd (let y = all-long in omega arith);
  }
    where
      some : 0 < length (out ++ near)
      some = decide (eqb (length (out ++ near)) 0)
          (λ e. absurd (let z = old.if_none (eqb-true (length (out ++ near)) 0 e) in let y = z.0 in let s = span-long in omega arith))
          (λ e. let z = eqb-false (length (out ++ near)) 0 e in omega arith)

      was : Among (out ++ near) b.at
      was = old.is-start some

      has-old : fall_in b.at (out ++ near) ≡ b.most
      has-old = old.has-most some

      at-behind : b.at ≤ t
      at-behind = let h = each_append (λ v. v ≤ t) out near (λ i n. let f = far i n in omega arith) behind was.place was.low in let e = was.is in omega arith

      among : Among all b.at
      among = record { place = was.place; low = (let y = all-long in let z = was.low in omega arith); is = get_or-append (out ++ near) (t ∷ []) 0 was.place was.low ∙ was.is }

      same : fall_in b.at all ≡ b.most
      same = let n = no-fewer b.at in let o = has-old in
          let m = bounded b.most (omega arith) l among.place among.low in let e = ap (λ v. fall_in v all) among.is in omega arith

  turned : Most all (better span b)
  turned = decide (ltb b.most (length span)) (λ e. rw e (go span refl (ltb-true b.most (length span) e))) (λ e. rw e (stays (ltb-false b.most (length span) e)))
    where
      go : (q : List ℕ) → span ≡ q → b.most < length span → Most all (record { most = length span; at = get_or span 0 0 })
      go [] e l = absurd (let z = ap length e in let y = span-long in omega arith)
      go (x ∷ xs) e l = subst (λ (k : List ℕ). Most all (record { most = length span; at = get_or k 0 0 })) (sym e) (overtakes x xs e l)

-- THEOREM: one turn keeps what stands
pub walk_turn : (past : List ℕ) (now t : ℕ) (w : Walk) → now ≤ t → Walked past now w → Walked (past ++ (t ∷ [])) t (turn t w)
walk_turn past now t w l h = let r = reached t 0 w.between h.rises in
    let e : past ≡ (h.out ++ r.dropped) ++ reach t w.between = h.split ∙ (ap (λ (k : List ℕ). h.out ++ k) r.parts ∙ sym (append_assoc h.out r.dropped (reach t w.between))) in
    let far = each_append (λ v. v + hour ≤ t) h.out r.dropped (λ i n. let z = h.gone i n in omega arith) r.far in
    let behind = back r.dropped (reach t w.between) r.parts in
    record {
      out = h.out ++ r.dropped;
      split = ap (λ (k : List ℕ). k ++ (t ∷ [])) e ∙ append_assoc (h.out ++ r.dropped) (reach t w.between) (t ∷ []);
      gone = far;
      ahead = span-behind (h.out ++ r.dropped) (reach t w.between) t w.best far r.close behind r.kept (subst (λ (k : List ℕ). Most k w.best) e h.most);
      rises = rising_snoc 0 t (reach t w.between) r.kept (omega arith) behind;
      most = subst (λ (k : List ℕ). Most (k ++ (t ∷ [])) (better (reach t w.between ++ (t ∷ [])) w.best)) (sym e)
          (turned (h.out ++ r.dropped) (reach t w.between) t w.best far r.close behind r.kept (subst (λ (k : List ℕ). Most k w.best) e h.most));
    }
  where
    back : (xs ys : List ℕ) → w.between ≡ xs ++ ys → (i : ℕ) → i < length ys → get_or ys i 0 ≤ t
    back xs ys e i n = let a = subst (λ (k : List ℕ). (j : ℕ) → j < length k → get_or k j 0 ≤ now) e h.ahead (length xs + i) (let z = length-append xs ys in omega arith) in
        let g = get_or-append-add xs ys i 0 in omega arith

walks : (past : List ℕ) (now : ℕ) (ts : List ℕ) (w : Walk) → Rising now ts → Walked past now w → Most (past ++ ts) (walk ts w).best
walks past now [] w r h = subst (λ (k : List ℕ). Most k w.best) (sym (append-nil past)) h.most
walks past now (t ∷ ts) w r h = subst (λ (k : List ℕ). Most k (walk ts (turn t w)).best) (append_assoc past (t ∷ []) ts)
    (walks (past ++ (t ∷ [])) t ts (turn t w) r.1 (walk_turn past now t w r.0 h))

pub walk_start : Walked [] 0 no_walk
unfolding busiest_from
walk_start = record {
  out = [];
  split = refl;
  gone = λ i l. absurd (omega arith);
  ahead = λ i l. absurd (omega arith);
  rises = tt;
  most = busiest-is [] tt;
}

-- THEOREM: one reading with two positions gives the busiest hour
pub walk_is : (times : List ℕ) → Rising 0 times → (walk times no_walk).best ≡ busiest times
walk_is times r = most-one times (walk times no_walk).best (busiest times) (walks [] 0 times no_walk r walk_start) (busiest-is times r)
