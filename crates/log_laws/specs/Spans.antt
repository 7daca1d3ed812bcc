-- The busiest hour: no span has more starts, the t given is a start that has as many, no earlier one has.
use Rattle.std.specs.Prelude.{ℕ, zero, suc, ◌+◌, ◌≤◌, ◌<◌, ◌≡◌, refl, Bool, true, false, cond, List, [], ◌∷◌, ◌++◌, length, get_or, leb, ltb, eqb}
use Rattle.std.proofs.Common.{sym, ◌∙◌, ap, arith, eqb-true, ltb-true, ltb-false, leb-true, leb-false, lt-ltb, le-ltb, le-leb}
use Rattle.std.proofs.lemmas.Bool.{eqb-false, lt-leb}
use Rattle.effbd.specs.Diagrams.{Diagram}
use Rattle.effbd.specs.Logs.{Setpoint, setpoints, ticks, after}
use Rattle.effbd.specs.States.{fresh_words}
use Rattle.effbd.specs.Starts.{Start, is_start, starts_from, starts, times_of, one, hour, in_span, fall_in, Busiest, busiest_from, busiest}
use Rattle.ranges.specs.Tests.{decide, and_intro, and_left, and_right}

-- times that do not fall, from lo on
abbrev pub Rising : ℕ → List ℕ → Type 0
Rising lo [] = Unit
Rising lo (t ∷ ts) = (lo ≤ t) × Rising t ts

pub rising-low : (lo to : ℕ) (ts : List ℕ) → lo ≤ to → Rising to ts → Rising lo ts
rising-low lo to [] l r = tt
rising-low lo to (t ∷ ts) l r = ((let a = r.0 in omega arith), r.1)

pub rising-at : (lo : ℕ) (ts : List ℕ) → Rising lo ts → (i : ℕ) → i < length ts → lo ≤ get_or ts i 0
rising-at lo [] r i l = absurd (omega arith)
rising-at lo (t ∷ ts) r zero l = r.0
rising-at lo (t ∷ ts) r (suc i) l = let a = rising-at t ts r.1 i (omega arith) in let b = r.0 in omega arith

-- the times of a log's starts do not fall
rise-on : (t u : ℕ) (b : Bool) (i : ℕ) (later : List Start) → t ≤ u → Rising u (times_of later) → Rising t (times_of (cond b (record { index = i; time = t } ∷ later) later))
rise-on t u true i later l r = (omega arith, rising-low t u (times_of later) l r)
rise-on t u false i later l r = rising-low t u (times_of later) l r

pub starts-rise : (d : Diagram) (r i t : ℕ) (ms : List Setpoint) (words : List ℕ) → Rising t (times_of (starts_from d r i t ms words))
unfolding starts_from
starts-rise d r i t [] words = tt
starts-rise d r i t (m ∷ ms) words = rise-on t (t + ticks m) (is_start r m words (after d m words)) i
    (starts_from d r (suc i) (t + ticks m) ms (after d m words)) (omega arith) (starts-rise d r (suc i) (t + ticks m) ms (after d m words))

-- a claim of every element
pub each-cons : (F : ℕ → Type 0) (y : ℕ) (ys : List ℕ) → F y → ((i : ℕ) → i < length ys → F (get_or ys i 0)) → (i : ℕ) → i < length (y ∷ ys) → F (get_or (y ∷ ys) i 0)
each-cons F y ys p h zero l = p
each-cons F y ys p h (suc i) l = h i (omega arith)

pub each_append : (F : ℕ → Type 0) (xs ys : List ℕ) → ((i : ℕ) → i < length xs → F (get_or xs i 0)) → ((i : ℕ) → i < length ys → F (get_or ys i 0))
    → (i : ℕ) → i < length (xs ++ ys) → F (get_or (xs ++ ys) i 0)
each_append F [] ys g h = h
each_append F (x ∷ xs) ys g h = each-cons F x (xs ++ ys) (g 0 (omega arith)) (each_append F xs ys (λ i l. g (suc i) (omega arith)) h)

-- in a span, and how many
pub span-in : (t x : ℕ) → t ≤ x → x < t + hour → in_span t x ≡ true
span-in t x l m = and_intro (le-leb t x l) (lt-ltb x (t + hour) m)

pub span-low : (t x : ℕ) → x < t → in_span t x ≡ false
span-low t x l = rw (lt-leb t x l)

pub span-high : (t x : ℕ) → t + hour ≤ x → in_span t x ≡ false
span-high t x l = decide (leb t x) (λ e. rw (e, le-ltb x (t + hour) l)) (λ e. rw e)

pub fall-append : (t : ℕ) (xs ys : List ℕ) → fall_in t (xs ++ ys) ≡ fall_in t xs + fall_in t ys
unfolding fall_in
fall-append t [] ys = omega arith
fall-append t (x ∷ xs) ys = let h = fall-append t xs ys in omega arith

one-most : (b : Bool) → one b ≤ 1
one-most true = omega arith
one-most false = omega arith

pub fall-most : (t : ℕ) (xs : List ℕ) → fall_in t xs ≤ length xs
unfolding fall_in
fall-most t [] = omega arith
fall-most t (x ∷ xs) = let h = fall-most t xs in let k = one-most (in_span t x) in omega arith

-- a span that begins later, with no start between, has no fewer
one-le : (a b : Bool) → (a ≡ true → b ≡ true) → one a ≤ one b
one-le true b h = rw (h refl) (omega arith)
one-le false b h = omega arith

pub fall-later : (t x : ℕ) → t ≤ x → (ys : List ℕ) → ((i : ℕ) → i < length ys → t ≤ get_or ys i 0 → x ≤ get_or ys i 0) → fall_in t ys ≤ fall_in x ys
unfolding fall_in
fall-later t x l [] h = omega arith
fall-later t x l (y ∷ ys) h =
    let k = fall-later t x l ys (λ i m. h (suc i) (omega arith)) in
    let o = one-le (in_span t y) (in_span x y) (λ e.
    let a = leb-true t y (and_left (leb t y) (ltb y (t + hour)) e) in
    let b = ltb-true y (t + hour) (and_right (leb t y) (ltb y (t + hour)) e) in
    span-in x y (h 0 (omega arith) a) (omega arith)) in
    omega arith

-- nothing falls in a span that begins behind all
pub fall-none : (t : ℕ) (ys : List ℕ) → ((i : ℕ) → i < length ys → get_or ys i 0 < t) → fall_in t ys ≡ 0
unfolding fall_in
fall-none t [] h = refl
fall-none t (y ∷ ys) h = rw (span-low t y (h 0 (omega arith)), fall-none t ys (λ i m. h (suc i) (omega arith)))

-- all of them, where all lie in it
pub fall-all : (t : ℕ) (ys : List ℕ) → ((i : ℕ) → i < length ys → (t ≤ get_or ys i 0) × (get_or ys i 0 < t + hour)) → fall_in t ys ≡ length ys
unfolding fall_in
fall-all t [] h = refl
fall-all t (y ∷ ys) h = let a = h 0 (omega arith) in
    rw (span-in t y a.0 a.1, fall-all t ys (λ i m. h (suc i) (omega arith))) (omega arith)

-- a number that stands in a list
pub record Among (xs : List ℕ) (x : ℕ) : Type 0 where
  pub place : ℕ
  pub low : place < length xs
  pub is : get_or xs place 0 ≡ x

pub among_later : (y : ℕ) (xs : List ℕ) (x : ℕ) → Among xs x → Among (y ∷ xs) x
among_later y xs x a = record { place = suc a.place; low = (let l = a.low in omega arith); is = a.is }

-- the lowest of those from t on, if there is one
data Lowest (t : ℕ) (ys : List ℕ) : Type 0 where
  nothing : ((i : ℕ) → i < length ys → get_or ys i 0 < t) → Lowest t ys
  lowest : (x : ℕ) → Among ys x → t ≤ x → ((i : ℕ) → i < length ys → t ≤ get_or ys i 0 → x ≤ get_or ys i 0) → Lowest t ys

find-lowest : (t : ℕ) (ys : List ℕ) → Lowest t ys
find-lowest t [] = nothing (λ i l. absurd (omega arith))
find-lowest t (y ∷ ys) = decide (leb t y) (λ e. from e (find-lowest t ys)) (λ e. below e (find-lowest t ys))
  where
    here : Among (y ∷ ys) y
    here = record { place = 0; low = omega arith; is = refl }

    below : leb t y ≡ false → Lowest t ys → Lowest t (y ∷ ys)
    below e (nothing h) = nothing (each-cons (λ v. v < t) y ys (leb-false t y e) h)
    below e (lowest x a l h) = lowest x (among_later y ys x a) l (each-cons (λ v. t ≤ v → x ≤ v) y ys (λ k. absurd (let z = leb-false t y e in omega arith)) h)

    from : leb t y ≡ true → Lowest t ys → Lowest t (y ∷ ys)
    from e (nothing h) = lowest y here (leb-true t y e) (each-cons (λ v. t ≤ v → y ≤ v) y ys (λ k. omega arith) (λ i m k. absurd (let z = h i m in omega arith)))
    from e (lowest x a l h) = decide (leb y x)
        (λ f. lowest y here (leb-true t y e) (each-cons (λ v. t ≤ v → y ≤ v) y ys (λ k. omega arith) (λ i m k. let z = h i m k in let w = leb-true y x f in omega arith)))
        (λ f. lowest x (among_later y ys x a) l (each-cons (λ v. t ≤ v → x ≤ v) y ys (λ k. let w = leb-false y x f in omega arith) h))

-- what "the most" and "the earliest such t" say of times and an answer
pub record Most (times : List ℕ) (b : Busiest) : Type 0 where
  -- no span from whatever t has more
  pub none_more : (t : ℕ) → fall_in t times ≤ b.most
  -- the t given is a start that has as many
  pub is-start : 0 < length times → Among times b.at
  pub has-most : 0 < length times → fall_in b.at times ≡ b.most
  -- no earlier start has
  pub earliest : (i : ℕ) → i < length times → get_or times i 0 < b.at → fall_in (get_or times i 0) times < b.most
  -- "(0 if none)"
  pub if_none : length times ≡ 0 → (b.most ≡ 0) × (b.at ≡ 0)

-- no span has more than those that begin at a start
pub by-starts : (times : List ℕ) (most : ℕ) → ((i : ℕ) → i < length times → fall_in (get_or times i 0) times ≤ most) → (t : ℕ) → fall_in t times ≤ most
by-starts times most h t = go (find-lowest t times)
  where
    go : Lowest t times → fall_in t times ≤ most
    go (nothing n) = rw (fall-none t times n) (omega arith)
    go (lowest x a l n) = let k = fall-later t x l times n in let m = h a.place a.low in let z = ap (λ v. fall_in v times) a.is in omega arith

-- the definition, over the times from some start on
record Best (times ts : List ℕ) (b : Busiest) : Type 0 where
  bound : (i : ℕ) → i < length ts → fall_in (get_or ts i 0) times ≤ b.most
  stands : 0 < length ts → Among ts b.at
  has : 0 < length ts → fall_in b.at times ≡ b.most
  first : (i : ℕ) → i < length ts → get_or ts i 0 < b.at → fall_in (get_or ts i 0) times < b.most
  empty : length ts ≡ 0 → (b.most ≡ 0) × (b.at ≡ 0)

best_of : (times : List ℕ) (lo : ℕ) (ts : List ℕ) → Rising lo ts → Best times ts (busiest_from times ts)
unfolding busiest_from
best_of times lo [] r = record { bound = λ i l. absurd (omega arith); stands = λ l. absurd (omega arith); has = λ l. absurd (omega arith); first = λ i l. absurd (omega arith); empty = λ e. (refl, refl) }
best_of times lo (t ∷ ts) r = go (busiest_from times ts) (best_of times t ts r.1)
  where
    go : (b : Busiest) → Best times ts b → Best times (t ∷ ts) (cond (leb b.most (fall_in t times)) (record { most = fall_in t times; at = t }) b)
    go b h = decide (leb b.most (fall_in t times))
        (λ e. let n = leb-true b.most (fall_in t times) e in rw e (record {
          bound = each-cons (λ v. fall_in v times ≤ fall_in t times) t ts (omega arith) (λ i l. let z = h.bound i l in omega arith);
          stands = λ l. record { place = 0; low = omega arith; is = refl };
          has = λ l. refl;
          first = each-cons (λ v. v < t → fall_in v times < fall_in t times) t ts (λ k. absurd (omega arith)) (λ i l k. absurd (let z = rising-at t ts r.1 i l in omega arith));
          empty = λ z. absurd (omega arith);
        }))
        (λ e. let n = leb-false b.most (fall_in t times) e in let p = some ts b h n in rw e (record {
          bound = each-cons (λ v. fall_in v times ≤ b.most) t ts (omega arith) h.bound;
          stands = λ l. among_later t ts b.at (h.stands p);
          has = λ l. h.has p;
          first = each-cons (λ v. v < b.at → fall_in v times < b.most) t ts (λ k. n) h.first;
          empty = λ z. absurd (omega arith);
        }))
      where
        some : (us : List ℕ) (c : Busiest) → Best times us c → fall_in t times < c.most → 0 < length us
        some [] c k n = absurd (let z = k.empty refl in let w = z.0 in omega arith)
        some (u ∷ us) c k n = omega arith

-- THEOREM: the definition says what document 02 says, of times that do not fall
pub busiest-is : (times : List ℕ) → Rising 0 times → Most times (busiest times)
busiest-is times r = let h = best_of times 0 times r in record {
  none_more = by-starts times (busiest times).most h.bound;
  is-start = h.stands;
  has-most = h.has;
  earliest = h.first;
  if_none = h.empty;
}

-- THEOREM: of a log's starts
pub log-busiest : (d : Diagram) (r : ℕ) (log : List ℕ) → Most (times_of (starts d r log)) (busiest (times_of (starts d r log)))
log-busiest d r log = busiest-is (times_of (starts d r log)) (starts-rise d r 0 0 (setpoints log) (fresh_words d))

-- THEOREM: and nothing else does
pub most-one : (times : List ℕ) (b c : Busiest) → Most times b → Most times c → b ≡ c
most-one times b c p q = decide (eqb (length times) 0)
    (λ e. let z = eqb-true (length times) 0 e in let x = p.if_none z in let y = q.if_none z in same (x.0 ∙ sym y.0) (x.1 ∙ sym y.1))
    (λ e. let ne = eqb-false (length times) 0 e in let l : 0 < length times = omega arith in
    let m : b.most ≡ c.most = (let u = p.none_more c.at in let v = q.none_more b.at in let x = p.has-most l in let y = q.has-most l in omega arith) in
    same m (level l m))
  where
    same : b.most ≡ c.most → b.at ≡ c.at → b ≡ c
    same m a = λ j. record { most = m j; at = a j }

    level : 0 < length times → b.most ≡ c.most → b.at ≡ c.at
    level l m = let x = p.is-start l in let y = q.is-start l in
        let xs = x.is in let ys = y.is in
        let u = p.earliest y.place y.low in let v = q.earliest x.place x.low in
        let hx = ap (λ k. fall_in k times) xs in let hy = ap (λ k. fall_in k times) ys in
        let px = p.has-most l in let qy = q.has-most l in
        decide (ltb b.at c.at)
        (λ e. absurd (let lt = ltb-true b.at c.at e in let w = v (omega arith) in omega arith))
        (λ e. decide (ltb c.at b.at)
        (λ f. absurd (let lt = ltb-true c.at b.at f in let w = u (omega arith) in omega arith))
        (λ f. let g = ltb-false b.at c.at e in let k = ltb-false c.at b.at f in omega arith))
