-- Loops over a run: a turn of the check and of the writing, and their ends. Both ways alike: `fault` tells what is off at a telegram, `made` what it becomes.
use Prim.Native.Nat.{ℕ, zero, suc, ◌+◌, ◌-◌, ◌*◌, ◌≤◌, ◌<◌}
use native.Mathlib.Nat.{mul-suc}
use mathlib.Core.Path.{◌≡◌, refl, sym, ◌∙◌, ap, ap₂}
use mathlib.Core.Logic.{◌≢◌}
use mathlib.Core.List.{List, [], ◌∷◌, ◌++◌, append-nil, append_assoc}
use native.Mathlib.Omega.{arith}
use native.Mathlib.Numerals.{add-one}
use lib.ListN.{length, take, drop, length-append, length-take, length-drop}
use lib.Seq.{take_at, drop_at, take_all, drop-length, drop-drop}
use lib.Dec.{ltb, eqb}
use borrow.Author.Tests.{ltb-true, ltb-false, eqb-true, eqb-false}
use mathlib.Core.Bool.{Bool, true, false}
use borrow.Rule.Slice.PartMut.{mid_of, put_mid}
use Rattle.effbd.specs.Answers.{Outcome, accepted, refused, unless}
use Rattle.effbd.specs.Editions.{joined, convert_from, telegram_count, stopping}
use Rattle.ranges.specs.Outcomes.{unless-refused}
use Rattle.ranges.specs.Tests.{decide}
use Rattle.agreement.specs.ByteLaws.{next-inv}
use Rattle.edition_laws.specs.Runs.{joined-inv, joined-joined}
use Rattle.words.specs.Stores.{copied}
use Rattle.telegrams.proofs.Written.{has_room}
use Rattle.editions.specs.Checks.{checked}
use Rattle.editions.specs.Conversions.{Counts}

-- something is left, or nothing
pub some-left : (b : Bool) (n : ℕ) → b ≡ eqb n 0 → b ≡ false → 0 < n
some-left b n e f = let z = eqb-false n 0 (sym e ∙ f) in omega (arith, z)

pub none_left : (b : Bool) (n : ℕ) → b ≡ eqb n 0 → b ≡ true → n ≤ 0
none_left b n e t = let z = eqb-true n 0 (sym e ∙ t) in omega arith

-- nothing is left
empty : (run : List ℕ) → length run ≤ 0 → run ≡ []
empty [] h = refl
empty (x ∷ run) h = absurd (omega arith)

-- a check tells no bytes
pub checked-joined : (bytes : List ℕ) (o : Outcome (List ℕ)) → checked (joined bytes o) ≡ checked o
checked-joined bytes (accepted later) = refl
checked-joined bytes (refused n v) = refl

module _ (size : ℕ) (fault : ℕ → List ℕ → ℕ) (made : ℕ → List ℕ → List ℕ) (counts : Counts size) (none : telegram_count size [] ≡ 0) where
  -- what the rest of a run is converted to
  abbrev pub rest_of : (number index : ℕ) → List ℕ → Outcome (List ℕ)
  rest_of number index run = convert_from size fault made number index (telegram_count size run) run

  -- the first telegram of it, by itself
  one : (number index : ℕ) (run : List ℕ) → 0 < length run
      → rest_of number index run ≡ unless (fault number (take size run)) index (joined (made number (take size run)) (rest_of (suc number) (suc index) (drop size run)))
  unfolding convert_from
  one number index run h = ap (λ n. convert_from size fault made number index n run) (counts run h)

  last : (number index : ℕ) (run : List ℕ) → length run ≤ 0 → rest_of number index run ≡ accepted []
  unfolding convert_from
  last number index run h = ap (rest_of number index) (empty run h) ∙ ap (λ n. convert_from size fault made number index n []) none

  -- the check, with what its loop knows: `whole` is what is to be told of the whole run
  module _ (whole : Outcome ℕ) (first index f : ℕ) (run t : List ℕ) (at : t ≡ take size run) (tells : f ≡ fault (first + index) t) (h : 0 < length run)
      (inv : checked (rest_of (first + index) index run) ≡ whole) where
    here : fault (first + index) (take size run) ≡ f
    here = ap (fault (first + index)) (sym at) ∙ sym tells

    pub check-again : (rest : List ℕ) → f ≡ 0 → rest ≡ drop size run → checked (rest_of (first + (index + 1)) (index + 1) rest) ≡ whole
    check-again rest z e =
        ap₂ (λ (n : ℕ) (l : List ℕ). checked (rest_of n (index + 1) l)) (let y : first + (index + 1) ≡ suc (first + index) = omega arith in y) e
        ∙ (ap (λ i. checked (rest_of (suc (first + index)) i (drop size run))) (add-one index)
        ∙ (sym (ap checked (one (first + index) index run h
        ∙ ap (λ g. unless g index (joined (made (first + index) (take size run)) (rest_of (suc (first + index)) (suc index) (drop size run)))) (here ∙ z))
        ∙ checked-joined (made (first + index) (take size run)) (rest_of (suc (first + index)) (suc index) (drop size run)))
        ∙ inv))

    pub check-off : (v : ℕ) → f ≢ 0 → v ≡ stopping index → refused f v ≡ whole
    check-off v z e = ap₂ (λ (x y : ℕ). refused x y) (sym here) e
        ∙ (sym (ap checked (one (first + index) index run h
        ∙ unless-refused (fault (first + index) (take size run)) index (joined (made (first + index) (take size run)) (rest_of (suc (first + index)) (suc index) (drop size run))) (λ q. z (sym here ∙ q))))
        ∙ inv)

  pub check-begun : (first : ℕ) (run : List ℕ) → checked (rest_of (first + 0) 0 run) ≡ checked (rest_of first 0 run)
  check-begun first run = ap (λ n. checked (rest_of n 0 run)) (let y : first + 0 ≡ first = omega arith in y)

  pub check_done : (whole : Outcome ℕ) (number index : ℕ) (run : List ℕ) → length run ≤ 0 → checked (rest_of number index run) ≡ whole → accepted 0 ≡ whole
  check_done whole number index run h inv = sym (ap checked (last number index run h)) ∙ inv

  module _ (out : ℕ) (sized : (n : ℕ) (t : List ℕ) → fault n t ≡ 0 → length t ≡ size) (made-sized : (n : ℕ) (t : List ℕ) → length (made n t) ≡ out) where
    -- as many telegrams come out as go in, and nothing is left over
    pub lengths : (number index n : ℕ) (run bytes : List ℕ) → convert_from size fault made number index n run ≡ accepted bytes → length run ≤ size * n
        → (length bytes ≡ out * n) × (length run ≡ size * n)
    unfolding convert_from
    lengths number index zero run bytes e l = let b : bytes ≡ [] = cc in let z : length bytes ≡ 0 = ap length b in
        let x : out * 0 ≡ 0 = omega arith in let y : size * 0 ≡ 0 = omega arith in (omega arith, omega arith)
    lengths number index (suc n) run bytes e l =
        let w = next-inv (fault number (take size run)) index (joined (made number (take size run)) (convert_from size fault made (suc number) (suc index) n (drop size run))) bytes e in
        let v = joined-inv (made number (take size run)) (convert_from size fault made (suc number) (suc index) n (drop size run)) bytes w.1 in
        let s = sized number (take size run) w.0 in let t = length-take size run in let d = length-drop size run in
        let m = mul-suc size n in let k = mul-suc out n in
        let ih = lengths (suc number) (suc index) n (drop size run) v.0 v.1 (omega arith) in
        let b = ap length v.2 ∙ length-append (made number (take size run)) v.0 in let q = made-sized number (take size run) in let r = ih.0 in let p = ih.1 in
        (omega arith, omega arith)

    -- the writing of `whole`, at byte `at` of the area, where the next telegram is to have this number
    module _ (whole : Outcome (List ℕ)) (area₀ : List ℕ) where
      pub record Underway (area rest : List ℕ) (number at : ℕ) : Type 0 where
        pub index : ℕ
        pub bytes : List ℕ
        pub done : List ℕ
        pub is : whole ≡ accepted bytes
        pub room : length bytes ≤ length area₀
        pub left : joined done (rest_of number index rest) ≡ accepted bytes
        pub reached : length done ≡ at
        pub lies : area ≡ done ++ drop at area₀

      pub begun : (number : ℕ) (run bytes : List ℕ) → whole ≡ accepted bytes → length bytes ≤ length area₀ → rest_of number 0 run ≡ whole → Underway area₀ run number 0
      begun number run bytes e r h = record { index = 0; bytes = bytes; done = []; is = e; room = r; left = ap (joined []) (h ∙ e); reached = refl; lies = refl }

      pub same_length : (area rest : List ℕ) (number at : ℕ) → Underway area rest number at → length area ≡ length area₀
      same_length area rest number at u =
          let w = joined-inv u.done (rest_of number u.index rest) u.bytes u.left in
          let b = ap length w.2 ∙ length-append u.done w.0 in let r = u.reached in let o = u.room in
          let a = ap length u.lies ∙ length-append u.done (drop at area₀) in let d = length-drop at area₀ in omega arith

      -- while telegrams are left, nothing is off at the next one, and what it becomes has room
      pub record Next (area rest : List ℕ) (number at : ℕ) (u : Underway area rest number at) : Type 0 where
        pub fine : fault number (take size rest) ≡ 0
        pub fits : at + out ≤ length area
        pub on : joined (u.done ++ made number (take size rest)) (rest_of (suc number) (suc u.index) (drop size rest)) ≡ accepted u.bytes

      pub next : (area rest : List ℕ) (number at : ℕ) (u : Underway area rest number at) → 0 < length rest → Next area rest number at u
      next area rest number at u h =
          let w = joined-inv u.done (rest_of number u.index rest) u.bytes u.left in
          let v = next-inv (fault number (take size rest)) u.index (joined (made number (take size rest)) (rest_of (suc number) (suc u.index) (drop size rest))) w.0
          (sym (one number u.index rest h) ∙ w.1) in
          let x = joined-inv (made number (take size rest)) (rest_of (suc number) (suc u.index) (drop size rest)) w.0 v.1 in
          let lb = ap length w.2 ∙ length-append u.done w.0 in
          let ll = ap length x.2 ∙ length-append (made number (take size rest)) x.0 in
          let m = made-sized number (take size rest) in let r = u.reached in let o = u.room in
          let k = same_length area rest number at u in
          record {
            fine = v.0;
            fits = omega arith;
            on = sym (joined-joined u.done (made number (take size rest)) (rest_of (suc number) (suc u.index) (drop size rest)))
                ∙ (ap (joined u.done) (v.1 ∙ sym w.1) ∙ u.left);
          }

      -- the area with a telegram written into its rest
      put : (area t last : List ℕ) (at : ℕ) → length t ≡ out → at + out ≤ length area → last ≡ copied t (mid_of at (length area - at) area)
          → put_mid at (length area - at) area last ≡ take at area ++ (t ++ drop out (drop at area))
      put area t last at l h e =
          let m : mid_of at (length area - at) area ≡ drop at area = take_all (length area - at) (drop at area) (let d = length-drop at area in omega arith) in
          let d : drop (length area - at) (drop at area) ≡ [] = ap (λ (k : ℕ). drop k (drop at area)) (sym (length-drop at area)) ∙ drop-length (drop at area) in
          let c : last ≡ t ++ drop out (drop at area) = e ∙ (ap (copied t) m ∙ sym (has_room out t (drop at area) l (let y = length-drop at area in omega arith))) in
          ap₂ (λ (x y : List ℕ). take at area ++ (x ++ y)) c d ∙ ap (λ (x : List ℕ). take at area ++ x) (append-nil (t ++ drop out (drop at area)))

      -- one turn of the writing
      pub turn : (area rest more t last : List ℕ) (number following at : ℕ) (u : Underway area rest number at) → 0 < length rest → more ≡ drop size rest
          → t ≡ made number (take size rest) → last ≡ copied t (mid_of at (length area - at) area) → following ≡ suc number
          → Underway (put_mid at (length area - at) area last) more following (at + out)
      turn area rest more t last number following at u h d is e f =
          let n = next area rest number at u h in
          let m : length t ≡ out = ap length is ∙ made-sized number (take size rest) in
          record {
            index = suc u.index;
            bytes = u.bytes;
            done = u.done ++ t;
            is = u.is;
            room = u.room;
            left = ap₂ (λ (x y : List ℕ). joined (u.done ++ x) (rest_of following (suc u.index) y)) is d
                ∙ (ap (λ k. joined (u.done ++ made number (take size rest)) (rest_of k (suc u.index) (drop size rest))) f ∙ n.on);
            reached = length-append u.done t ∙ (let r = u.reached in let z : length u.done + length t ≡ at + out = omega arith in z);
            lies = put area t last at m n.fits e
                ∙ (ap (λ (x : List ℕ). take at x ++ (t ++ drop out (drop at x))) u.lies
                ∙ (ap₂ (λ (x y : List ℕ). x ++ (t ++ drop out y)) (take_at u.done (drop at area₀) at u.reached) (drop_at u.done (drop at area₀) at u.reached)
                ∙ (sym (append_assoc u.done t (drop out (drop at area₀)))
                ∙ ap (λ (x : List ℕ). (u.done ++ t) ++ x) (drop-drop out at area₀))));
          }

      -- the end of the writing: bytes left over would be off
      pub ended : (area rest : List ℕ) (number at : ℕ) → length rest < size → (u : Underway area rest number at) → area ≡ u.bytes ++ drop (length u.bytes) area₀
      ended area rest number at h u = decide (ltb 0 (length rest))
          (λ e. let l = ltb-true 0 (length rest) e in let n = next area rest number at u l in
          absurd (let s = sized number (take size rest) n.fine in let t = length-take size rest in omega arith))
          (λ e. let l = ltb-false 0 (length rest) e in
          let z : accepted (u.done ++ []) ≡ accepted u.bytes = sym (ap (joined u.done) (last number u.index rest l)) ∙ u.left in
          let y : u.done ++ [] ≡ u.bytes = cc in
          let b : u.bytes ≡ u.done = sym y ∙ append-nil u.done in
          u.lies ∙ ap₂ (λ (x : List ℕ) (n : ℕ). x ++ drop n area₀) (sym b) (sym u.reached ∙ ap length (sym b)))
