-- An AND's gives: entering the rows behind its BRANCH rows marks places that rise with them.
use Rattle.std.proofs.Common.{ℕ, zero, suc, ◌≤◌, ◌<◌, ◌≡◌, refl, ap, sym, ◌∙◌, ◌⊎◌, inl, inr, Bool, true, false, not, cond, ◌&&◌, [], ◌++◌, append_assoc, append-nil, arith, eqb, eqb-true, eq-eqb, ne_eqb}
use Rattle.effbd.specs.Ranges.{all_below, only}
use Rattle.ranges.specs.Tests.{decide, clash, and_left, and_right}
use Rattle.ranges.specs.RangeLaws.{all-intro, all-fail, only-refl}
use Rattle.net_records.specs.Writing.{Records, runs}

-- a set of numbers below n and, for each, itself or the number behind it, which then is not in the set
module _ (member : ℕ → Bool) (image : ℕ → ℕ) (n : ℕ) (write : ℕ → Records)
    (near : (b : ℕ) → b < n → member b ≡ true → (image b ≡ b) ⊎ ((image b ≡ suc b) × (member (suc b) ≡ false)))
    (inside : (b : ℕ) → b < n → member b ≡ true → image b < n) where
  -- q is the image of a member
  met : ℕ → Bool
  met q = not (all_below n (λ b. not (member b && only q (image b))))

  met-yes : (b : ℕ) → b < n → member b ≡ true → met (image b) ≡ true
  unfolding met
  met-yes b l m = rw (all-fail n (λ x. not (member x && only (image b) (image x))) b l (rw (m, only-refl (image b))))

  met-no : (q : ℕ) → ((b : ℕ) → b < n → member b ≡ true → image b ≡ q → ⊥) → met q ≡ false
  unfolding met
  met-no q h = rw (all-intro n (λ b. not (member b && only q (image b))) (λ b l. decide (member b && only q (image b))
      (λ e. absurd (h b l (and_left (member b) _ e) (eqb-true (image b) q (and_right (member b) _ e))))
      (λ e. rw e)))

  -- what a member before q still has to write at q
  pending : ℕ → Records
  pending zero = []
  pending (suc b) = cond (member b && eqb (image b) (suc b)) (write (suc b)) []

  one : ℕ → Records
  one q = cond (met q) (write q) []

  two : ℕ → Records
  two b = cond (member b) (write (image b)) []

  -- no member but b and the one before it has the image b
  only-near : (b q : ℕ) → b < n → member b ≡ true → image b ≡ q → (b ≡ q) ⊎ (suc b ≡ q)
  only-near b q l m e = go (near b l m)
    where
      go : (image b ≡ b) ⊎ ((image b ≡ suc b) × (member (suc b) ≡ false)) → (b ≡ q) ⊎ (suc b ≡ q)
      go (inl z) = inl (sym z ∙ e)
      go (inr z) = inr (sym z.0 ∙ e)

  -- at b, where nothing is pending
  fresh-turn : (b : ℕ) → b < n → ((a : ℕ) → suc a ≡ b → member a ≡ true → image a ≡ b → ⊥) → one b ++ pending (suc b) ≡ two b
  unfolding one two pending
  fresh-turn b l h = decide (member b)
      (λ m. go m (near b l m))
      (λ m. rw (m, met-no b (λ a k w e. case a k m w (only-near a b k w e) e)))
    where
      case : (a : ℕ) → a < n → member b ≡ false → member a ≡ true → (a ≡ b) ⊎ (suc a ≡ b) → image a ≡ b → ⊥
      case a k m w (inl z) e = clash w (rw z m)
      case a k m w (inr z) e = h a z w e

      go : member b ≡ true → (image b ≡ b) ⊎ ((image b ≡ suc b) × (member (suc b) ≡ false)) → cond (met b) (write b) [] ++ cond (member b && eqb (image b) (suc b)) (write (suc b)) [] ≡ cond (member b) (write (image b)) []
      go m (inl z) =
          let y : met b ≡ true = ap met (sym z) ∙ met-yes b l m in
          rw (y, m, z, ne_eqb b (suc b) (omega arith), append-nil)
      go m (inr z) =
          let y : met b ≡ false = met-no b (λ a k w e. other a k w m (only-near a b k w e) e) in
          rw (y, m, z.0, eq-eqb (suc b) (suc b) refl)
        where
          other : (a : ℕ) → a < n → member a ≡ true → member b ≡ true → (a ≡ b) ⊎ (suc a ≡ b) → image a ≡ b → ⊥
          other a k w m (inl y) e = let x : image b ≡ b = ap image (sym y) ∙ e in let v = z.0 in absurd (omega arith)
          other a k w m (inr y) e = h a y w e

  turn : (b : ℕ) → b < n → one b ++ pending (suc b) ≡ pending b ++ two b
  unfolding pending
  turn zero l = fresh-turn zero l (λ a e m i. absurd (omega arith))
  turn (suc a) l = decide (member a && eqb (image a) (suc a))
      (λ e. let m = and_left (member a) _ e in let i = eqb-true (image a) (suc a) (and_right (member a) _ e) in
      rw e (due m i (near a (omega arith) m)))
      (λ e. rw e (fresh-turn (suc a) l (λ x y m i. let z : x ≡ a = omega arith in
      clash (rw (sym z) (rw (m, eq-eqb (image x) (suc x) (i ∙ sym y)))) e)))
    where
      due : member a ≡ true → image a ≡ suc a → (image a ≡ a) ⊎ ((image a ≡ suc a) × (member (suc a) ≡ false)) → one (suc a) ++ pending (suc (suc a)) ≡ write (suc a) ++ two (suc a)
      due m i (inl z) = absurd (omega arith)
      due m i (inr z) = unfold one two pending in (
          let y : met (suc a) ≡ true = ap met (sym i) ∙ met-yes a (omega arith) m in rw (y, z.1))

  upto : (b : ℕ) → b ≤ n → runs one b ++ pending b ≡ runs two b
  unfolding runs pending
  upto zero l = refl
  upto (suc b) l = append_assoc (runs one b) (one b) (pending (suc b))
      ∙ (ap (λ (x : Records). runs one b ++ x) (turn b l) ∙ (sym (append_assoc (runs one b) (pending b) (two b)) ∙ ap (λ (x : Records). x ++ two b) (upto b (omega arith))))

  none_left : pending n ≡ []
  none_left = go n refl
    where
      go : (m : ℕ) → n ≡ m → pending m ≡ []
      go zero e = unfold pending in refl
      go (suc b) e = unfold pending in decide (member b && eqb (image b) (suc b))
          (λ z. let i = eqb-true (image b) (suc b) (and_right (member b) _ z) in let l = inside b (omega arith) (and_left (member b) _ z) in absurd (omega arith))
          (λ z. rw z)

  pub images : runs (λ q. cond (not (all_below n (λ b. not (member b && only q (image b))))) (write q) []) n ≡ runs (λ b. cond (member b) (write (image b)) []) n
  unfolding one two met
  images = sym (append-nil (runs one n)) ∙ (ap (λ (x : Records). runs one n ++ x) (sym none_left) ∙ upto n (omega arith))
