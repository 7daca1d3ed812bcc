-- How many bytes records have at most.
use Rattle.std.proofs.Common.{ℕ, zero, suc, ◌+◌, ◌*◌, ◌≤◌, ◌<◌, zero-le, ◌≡◌, refl, subst, Bool, true, false, cond, [], ◌++◌, arith, length, length-append, eqb}
use Rattle.net_records.specs.Writing.{Records, encode, flat, runs}
use Rattle.net_records.specs.Records.{transition, pair, arc, mark}
use Rattle.net_records.proofs.Bytes.{flat_append}

-- records of at most n bytes
pub record Small (records : Records) (n : ℕ) : Type 0 where
  pub size : length (flat records) ≤ n

pub none-small : Small [] 0
none-small = record { size = unfold flat in zero-le }

pub more : {xs : Records} {m n : ℕ} → m ≤ n → Small xs m → Small xs n
more {m = m} l s = record { size = let h : _ ≤ m = s.size in omega arith }

-- one list after another; one of two; the turns of a loop
infixl 20 ◌then◌
pub ◌then◌ : {xs ys : Records} {m n : ℕ} → Small xs m → Small ys n → Small (xs ++ ys) (m + n)
◌then◌ {xs} {ys} s t = record { size = rw (flat_append xs ys, length-append (flat xs) (flat ys)) (let a = s.size in let b = t.size in omega arith) }

pub either : (b : Bool) {xs ys : Records} {n : ℕ} → Small xs n → Small ys n → Small (cond b xs ys) n
either true s t = s
either false s t = t

pub when : (b : Bool) {xs ys : Records} {n : ℕ} → (b ≡ true → Small xs n) → Small ys n → Small (cond b xs ys) n
when true s t = s refl
when false s t = t

pub turns : (f : ℕ → Records) (m n : ℕ) → ((i : ℕ) → i < n → Small (f i) m) → Small (runs f n) (n * m)
unfolding runs
turns f m zero h = more zero-le none-small
turns f m (suc n) h = let e : n * m + m ≡ suc n * m = omega arith in subst (Small (runs f n ++ f n)) e (turns f m n (λ i l. h i (omega arith)) then h n (omega arith))

-- records between two lists, both of which were measured together
pub apart : (xs ys zs : Records) {m n : ℕ} → Small (xs ++ zs) m → Small ys n → Small (xs ++ (ys ++ zs)) (m + n)
apart xs ys zs {m} s t = record {
  size = let a : length (flat (xs ++ zs)) ≤ m = s.size in let b = t.size in
      let c : length (flat (xs ++ zs)) ≡ length (flat xs) + length (flat zs) = rw (flat_append xs zs) (length-append (flat xs) (flat zs)) in
      rw (flat_append xs (ys ++ zs), length-append (flat xs) (flat (ys ++ zs)), flat_append ys zs, length-append (flat ys) (flat zs)) (omega arith);
}

-- the turns of two loops, measured turn by turn
pub together : (f g : ℕ → Records) (m n : ℕ) → ((i : ℕ) → i < n → Small (f i ++ g i) m) → Small (runs f n ++ runs g n) (n * m)
unfolding runs
together f g m zero h = more zero-le none-small
together f g m (suc n) h = record {
  size =
      let a : length (flat (runs f n ++ runs g n)) ≤ n * m = (together f g m n (λ i l. h i (omega arith))).size in
      let b : length (flat (f n ++ g n)) ≤ m = (h n (omega arith)).size in
      let c : length (flat (runs f n ++ runs g n)) ≡ length (flat (runs f n)) + length (flat (runs g n)) = rw (flat_append (runs f n) (runs g n)) (length-append (flat (runs f n)) (flat (runs g n))) in
      let e : length (flat (f n ++ g n)) ≡ length (flat (f n)) + length (flat (g n)) = rw (flat_append (f n) (g n)) (length-append (flat (f n)) (flat (g n))) in
      let p : suc n * m ≡ n * m + m = omega arith in
      rw (
        flat_append (runs f n ++ f n) (runs g n ++ g n),
        length-append (flat (runs f n ++ f n)) (flat (runs g n ++ g n)),
        flat_append (runs f n) (f n),
        length-append (flat (runs f n)) (flat (f n)),
        flat_append (runs g n) (g n),
        length-append (flat (runs g n)) (flat (g n)),
        p,
      ) (omega arith);
}

pub transition-small : (r a b : ℕ) → Small (transition r a b) 10
transition-small r a b = record { size = unfold transition flat encode in omega arith }

pub pair_small : (k a b : ℕ) → Small (pair k a b) 8
pair_small k a b = record { size = unfold pair flat encode in omega arith }

pub arc-small : (k p w : ℕ) → Small (arc k p w) 8
unfolding arc
arc-small k p w = either (eqb w 0) (more zero-le none-small) (record { size = unfold flat encode in omega arith })

pub mark-small : (w : ℕ) → Small (mark w) 6
mark-small w = record { size = unfold mark flat encode in omega arith }
