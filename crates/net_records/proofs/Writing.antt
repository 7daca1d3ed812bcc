-- Writing in turn: one writer after another, the turns of a loop, a test.
use Rattle.std.proofs.Common.{ℕ, suc, ◌+◌, ◌-◌, ◌≤◌, ◌≡◌, refl, ap, sym, ◌∙◌, subst, Bool, true, false, cond, List, [], ◌∷◌, ◌++◌, add-one, arith, length}
use Rattle.std.proofs.lemmas.List.Edits.{sets}
use Rattle.std.proofs.Math.Seq.{length-sets}
use Rattle.net_records.specs.declared.Writer.{Writer}
use Rattle.net_records.specs.Writing.{Records, encode, past, laid, reach, Wrote, runs, span}

laid-append : (xs ys : Records) (area : List ℕ) (at : ℕ) → laid area at (xs ++ ys) ≡ laid (laid area at xs) (reach at xs) ys
unfolding laid reach
laid-append [] ys area at = refl
laid-append (x ∷ xs) ys area at = laid-append xs ys (sets area at (encode x)) (past at (length (encode x)))

reach-append : (xs ys : Records) (at : ℕ) → reach at (xs ++ ys) ≡ reach (reach at xs) ys
unfolding reach
reach-append [] ys at = refl
reach-append (x ∷ xs) ys at = reach-append xs ys (past at (length (encode x)))

-- nothing written
pub still : (w : Writer) → Wrote w w []
unfolding laid reach
still w = record { area = refl; reached = refl; lender = refl }

-- one writer after another
infixl 20 ◌and_then◌
pub ◌and_then◌ : {a b c : Writer} {xs ys : Records} → Wrote a b xs → Wrote b c ys → Wrote a c (xs ++ ys)
◌and_then◌ {a} {b} {c} {xs} {ys} v w = record {
  area = w.area ∙ (ap (λ (l : List ℕ). laid l b.at ys) v.area ∙ (ap (λ (k : ℕ). laid (laid a.area.now a.at xs) k ys) v.reached ∙ sym (laid-append xs ys a.area.now a.at)));
  reached = w.reached ∙ (ap (λ (k : ℕ). reach k ys) v.reached ∙ sym (reach-append xs ys a.at));
  lender = w.lender ∙ v.lender;
}

-- what was said of one list of records, of an equal one
pub same : {a b : Writer} {xs ys : Records} → xs ≡ ys → Wrote a b xs → Wrote a b ys
same {a} {b} e w = subst (Wrote a b) e w

-- a loop begins, has one more turn, and ends
pub runs-start : (f : ℕ → Records) (w : Writer) → Wrote w w (runs f 0)
unfolding runs
runs-start f w = still w

pub again : {a b c : Writer} (f : ℕ → Records) (k : ℕ) → Wrote a b (runs f k) → Wrote b c (f k) → Wrote a c (runs f (k + 1))
unfolding runs
again f k v w = rw add-one (v and_then w)

pub runs-done : {a b : Writer} (f : ℕ → Records) (k n : ℕ) → k ≡ n → Wrote a b (runs f k) → Wrote a b (runs f n)
runs-done f k n e w = same (ap (runs f) e) w

-- the same of a loop from `start` on
pub span-start : (f : ℕ → Records) (w : Writer) (start : ℕ) → Wrote w w (span f start start)
unfolding span runs
span-start f w start = let e : start - start ≡ 0 = omega arith in rw e (still w)

pub span-again : {a b c : Writer} (f : ℕ → Records) (start k : ℕ) → start ≤ k → Wrote a b (span f start k) → Wrote b c (f k) → Wrote a c (span f start (k + 1))
unfolding span runs
span-again {b = b} {c} f start k l v w =
    let e : k + 1 - start ≡ suc (k - start) = omega arith in
    let g : k ≡ start + (k - start) = omega arith in
    rw e (v and_then same (ap f g) w)

pub span-done : {a b : Writer} (f : ℕ → Records) (start stop k : ℕ) → stop ≤ k → k - start ≤ stop - start → Wrote a b (span f start k) → Wrote a b (span f start stop)
unfolding span
span-done f start stop k l m w = let e : k - start ≡ stop - start = omega arith in same (ap (runs (λ i. f (start + i))) e) w

-- a test that came out true, or false
pub yes : {a b : Writer} {xs : Records} {t : Bool} (ys : Records) → t ≡ true → Wrote a b xs → Wrote a b (cond t xs ys)
yes ys e w = rw e w

pub no : {a b : Writer} {ys : Records} {t : Bool} (xs : Records) → t ≡ false → Wrote a b ys → Wrote a b (cond t xs ys)
no xs e w = rw e w

laid-length : (rs : Records) (area : List ℕ) (at : ℕ) → length (laid area at rs) ≡ length area
unfolding laid
laid-length [] area at = refl
laid-length (r ∷ rs) area at = laid-length rs (sets area at (encode r)) (past at (length (encode r))) ∙ length-sets area at (encode r)

-- a writer keeps the area's length
pub wrote-length : {a b : Writer} {xs : Records} → Wrote a b xs → length b.area.now ≡ length a.area.now
wrote-length {a} {b} {xs} w = ap length w.area ∙ laid-length xs a.area.now a.at
