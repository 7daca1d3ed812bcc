-- The structure pass finds what the stack says.
use Prim.Native.Nat.{ℕ, zero, suc, ◌+◌, ◌≤◌, ◌<◌}
use mathlib.Core.Path.{◌≡◌, refl, sym, ◌∙◌, ap, ap₂, subst}
use mathlib.Core.Logic.{◌≢◌}
use mathlib.Core.Bool.{Bool, true, false, ◌&&◌}
use mathlib.Core.List.{List, [], ◌∷◌}
use native.Mathlib.Omega.{arith}
use native.Mathlib.Numerals.{add-one}
use lib.ListN.{length, get_or, set, length-set}
use lib.Seq.{get_or-set_same, get_or-set_other}
use lib.Dec.{eqb}
use borrow.Author.Tests.{eqb-true, eqb-false, eq-eqb, ne_eqb}
use Rattle.effbd.specs.Diagrams.{most_rows, lp_open, number_of, Diagram, row_count, kind}
use Rattle.effbd.specs.Frames.{Frame, turn_to, innermost_open, latest_branch}
use Rattle.effbd.specs.Nesting.{stack, owner, branch_ended, innermost, loop, close, is_close, nesting_fault}
use Rattle.ranges.specs.Tests.{decide, clash}
use Rattle.ranges.specs.RangeLaws.{least-is, least-none}
use Rattle.diagram_structure.specs.declared.Around.{Around}
use Rattle.nesting.specs.declared.Part.{Part}
use Rattle.nesting.specs.declared.Part.TheVariants.{Opens, Turns, Closes, Stays}
use Rattle.nesting.specs.Runs.{part_of}
use Rattle.diagram_table.specs.Cells.{cell_of, item_cell, cell_total}
use Rattle.diagram_table.specs.CellStores.{cell}
use Rattle.diagram_structure.specs.Structure.{structure_cells, put_structure, AroundAt, looping_in, followed_as, followed, structured}
use Rattle.diagram_table.proofs.CellStores.{put-long, put-away, put-at}
use Rattle.nesting.proofs.Rules.{closing, ending, stack-next}
use Rattle.nesting.proofs.Stacks.{does, popped-is, owner-low, closes_of, close-part, not-closing, closes-once, held, last-stays}

-- ---- the code's turns

-- with the table u, and around the next row what b says, what follows row q is written
pub record Following (rows q : ℕ) (t u : List ℕ) (b : Around) : Type 0 where
  pub long : length u ≡ length t
  pub written : put_structure rows (q + 1) b.owner b.latest b.looping u ≡ followed rows q t

module _ (t : List ℕ) (rows q kind : ℕ) (a : Around) (part : Part) (ek : kind ≡ get_or t q 0) (here : AroundAt t q a) (ep : part ≡ part_of kind) where
  by : (p : Part) → part ≡ p → followed_as p rows q t ≡ followed rows q t
  unfolding followed
  by p e = ap (λ (x : Part). followed_as x rows q t) (sym e ∙ (ep ∙ ap part_of ek))

  -- from the table v and the numbers of c
  following : {u : List ℕ} {b : Around} (v : List ℕ) (c : Around) → u ≡ v → b ≡ c → length v ≡ length t
      → put_structure rows (q + 1) c.owner c.latest c.looping v ≡ followed rows q t → Following rows q t u b
  following v c eu eb l w = record {
    long = ap length eu ∙ l;
    written = ap₂ (λ (x : List ℕ) (y : Around). put_structure rows (q + 1) y.owner y.latest y.looping x) eu eb ∙ w;
  }

  pub follow-opens : {u : List ℕ} {b : Around} (inner : ℕ) → inner ≡ looping_in kind q a.looping → part ≡ Opens
      → u ≡ t → b ≡ record { owner = q; latest = q + 1; looping = inner } → Following rows q t u b
  follow-opens inner ei e eu eb = following t (record { owner = q; latest = q + 1; looping = inner }) eu eb refl (go inner a.looping ei here.looping)
    where
      go : (x y : ℕ) → x ≡ looping_in kind q y → y ≡ get_or t (cell_of 8 q) 0 → put_structure rows (q + 1) q (q + 1) x t ≡ followed rows q t
      go x y ex ey = rw (ex, ek, ey) (by Opens e)

  pub follow-turns : {u : List ℕ} {b : Around} → part ≡ Turns → u ≡ t → b ≡ record { owner = a.owner; latest = q; looping = a.looping } → Following rows q t u b
  follow-turns e eu eb = following t (record { owner = a.owner; latest = q; looping = a.looping }) eu eb refl (go a.owner a.looping here.owner here.looping)
    where
      go : (o p : ℕ) → o ≡ get_or t (cell_of 5 q) 0 → p ≡ get_or t (cell_of 8 q) 0 → put_structure rows (q + 1) o q p t ≡ followed rows q t
      go o p eo ep = rw (eo, ep) (by Turns e)

  pub follow-closes : {u : List ℕ} {b : Around} (c : Around) → AroundAt t a.owner c → part ≡ Closes → u ≡ set t (cell_of 7 a.owner) q → b ≡ c → Following rows q t u b
  follow-closes c there e eu eb = following (set t (cell_of 7 a.owner) q) c eu eb (length-set t (cell_of 7 a.owner) q)
      (go a.owner c.owner c.latest c.looping here.owner there.owner there.latest there.looping)
    where
      go : (own o b p : ℕ) → own ≡ get_or t (cell_of 5 q) 0 → o ≡ get_or t (cell_of 5 own) 0 → b ≡ get_or t (cell_of 6 own) 0 → p ≡ get_or t (cell_of 8 own) 0
          → put_structure rows (q + 1) o b p (set t (cell_of 7 own) q) ≡ followed rows q t
      go own o b p ew eo eb ep = rw (eo, eb, ep, ew) (by Closes e)

  pub follow-stays : {u : List ℕ} {b : Around} → part ≡ Stays → u ≡ t → b ≡ a → Following rows q t u b
  follow-stays e eu eb = following t a eu eb refl (go a.owner a.latest a.looping here.owner here.latest here.looping)
    where
      go : (o b p : ℕ) → o ≡ get_or t (cell_of 5 q) 0 → b ≡ get_or t (cell_of 6 q) 0 → p ≡ get_or t (cell_of 8 q) 0 → put_structure rows (q + 1) o b p t ≡ followed rows q t
      go o b p eo eb ep = rw (eo, eb, ep) (by Stays e)

-- ---- the cells of the table
module _ (rows r o b p : ℕ) (t : List ℕ) where
  put_other : (j : ℕ) → j ≢ cell_of 5 r → j ≢ cell_of 6 r → j ≢ cell_of 7 r → j ≢ cell_of 8 r → get_or (put_structure rows r o b p t) j 0 ≡ get_or t j 0
  unfolding put_structure
  put_other j x y z w = put-away (structure_cells rows r o b p) t j (x, (y, (z, (w, tt))))

  put-length : length (put_structure rows r o b p t) ≡ length t
  unfolding put_structure
  put-length = put-long (structure_cells rows r o b p) t

  put-cells : r < most_rows → length t ≡ cell_total → (get_or (put_structure rows r o b p t) (cell_of 5 r) 0 ≡ o) × (get_or (put_structure rows r o b p t) (cell_of 6 r) 0 ≡ b)
      × (get_or (put_structure rows r o b p t) (cell_of 7 r) 0 ≡ rows) × (get_or (put_structure rows r o b p t) (cell_of 8 r) 0 ≡ p)
  unfolding put_structure
  put-cells h n =
      let x = cell (cell_of 5 r) o in let y = cell (cell_of 6 r) b in let z = cell (cell_of 7 r) rows in let w = cell (cell_of 8 r) p in (
        put-at [] x (y ∷ z ∷ w ∷ []) t (omega arith) (λ e. omega arith, (λ e. omega arith, (λ e. omega arith, tt))),
        put-at (x ∷ []) y (z ∷ w ∷ []) t (omega arith) (λ e. omega arith, (λ e. omega arith, tt)),
        put-at (x ∷ y ∷ []) z (w ∷ []) t (omega arith) (λ e. omega arith, tt),
        put-at (x ∷ y ∷ z ∷ []) w [] t (omega arith) tt,
      )

-- the columns below 5 and the items' cells stay
pub record Same (t u : List ℕ) : Type 0 where
  pub long : length u ≡ length t
  pub below : (j : ℕ) → j < cell_of 5 0 → get_or u j 0 ≡ get_or t j 0
  pub above : (j : ℕ) → item_cell 0 0 ≤ j → get_or u j 0 ≡ get_or t j 0

same_self : (t : List ℕ) → Same t t
same_self t = record { long = refl; below = λ j l. refl; above = λ j l. refl }

same-put : (t u : List ℕ) (rows r o b p : ℕ) → r < most_rows → Same t u → Same t (put_structure rows r o b p u)
same-put t u rows r o b p h s = record {
  long = put-length rows r o b p u ∙ s.long;
  below = λ j l. put_other rows r o b p u j (λ z. omega arith) (λ z. omega arith) (λ z. omega arith) (λ z. omega arith) ∙ s.below j l;
  above = λ j l. put_other rows r o b p u j (λ z. omega arith) (λ z. omega arith) (λ z. omega arith) (λ z. omega arith) ∙ s.above j l;
}

same_set : (t u : List ℕ) (o v : ℕ) → o < most_rows → Same t u → Same t (set u (cell_of 7 o) v)
same_set t u o v h s = record {
  long = length-set u (cell_of 7 o) v ∙ s.long;
  below = λ j l. get_or-set_other u (cell_of 7 o) j v 0 (λ z. omega arith) ∙ s.below j l;
  above = λ j l. get_or-set_other u (cell_of 7 o) j v 0 (λ z. omega arith) ∙ s.above j l;
}

module _ (d : Diagram) (rows : ℕ) (er : rows ≡ row_count d) (fine : (q : ℕ) → q < row_count d → nesting_fault d q ≡ 0) (few : rows ≤ most_rows) where
  -- v is the close of row o as far as the rows below m tell: none so far, or the first
  pub record CloseBelow (m o v : ℕ) : Type 0 where
    pub none : v ≡ rows → (c : ℕ) → c < m → closes_of d o c ≡ false
    pub first : v ≢ rows → (v < m) × (closes_of d o v ≡ true) × ((c : ℕ) → c < v → closes_of d o c ≡ false)

  below_next : (m : ℕ) (f : ℕ → Bool) → ((c : ℕ) → c < m → f c ≡ false) → f m ≡ false → (c : ℕ) → c < m + 1 → f c ≡ false
  below_next m f h e c l = decide (eqb c m) (λ z. ap f (eqb-true c m z) ∙ e) (λ z. let ne : c ≢ m = eqb-false c m z in h c (omega arith))

  close-on : (m o v : ℕ) → CloseBelow m o v → closes_of d o m ≡ false → CloseBelow (m + 1) o v
  close-on m o v k e = record {
    none = λ z. below_next m (closes_of d o) (k.none z) e;
    first = λ z. let w = k.first z in let l = w.0 in (omega arith, w.1, w.2);
  }

  -- what the pass has found: the structure of the rows up to n, their closes among the rows below m
  pub record Sound (start : List ℕ) (n m : ℕ) (t : List ℕ) : Type 0 where
    pub same : Same start t
    pub owners : (q : ℕ) → q ≤ n → get_or t (cell_of 5 q) 0 ≡ owner d q
    pub branches : (q : ℕ) → q ≤ n → get_or t (cell_of 6 q) 0 ≡ branch_ended d q
    pub loops : (q : ℕ) → q ≤ n → get_or t (cell_of 8 q) 0 ≡ loop d q
    pub closes : (q : ℕ) → q ≤ n → CloseBelow m q (get_or t (cell_of 7 q) 0)

  module _ (start : List ℕ) (long : length start ≡ cell_total) (kinds : (q : ℕ) → q < rows → get_or start q 0 ≡ number_of (kind d q)) where
    -- the next row's cells
    hung : (n o b p : ℕ) (t : List ℕ) → n + 1 < rows → Sound start n (n + 1) t → o ≡ owner d (n + 1) → b ≡ branch_ended d (n + 1) → p ≡ loop d (n + 1)
        → Sound start (n + 1) (n + 1) (put_structure rows (n + 1) o b p t)
    hung n o b p t l s eo eb ep =
        let put = put-cells rows (n + 1) o b p t (omega arith) (s.same.long ∙ long) in
        record {
          same = same-put start t rows (n + 1) o b p (omega arith) s.same;
          owners = λ q h. decide (eqb q (n + 1)) (λ e. let z = eqb-true q (n + 1) e in rw z (put.0 ∙ eo))
              (λ e. let z : q ≢ n + 1 = eqb-false q (n + 1) e in put_other rows (n + 1) o b p t (cell_of 5 q) (λ w. z (omega arith)) (λ w. omega arith) (λ w. omega arith) (λ w. omega arith) ∙ s.owners q (omega arith));
          branches = λ q h. decide (eqb q (n + 1)) (λ e. let z = eqb-true q (n + 1) e in rw z (put.1 ∙ eb))
              (λ e. let z : q ≢ n + 1 = eqb-false q (n + 1) e in put_other rows (n + 1) o b p t (cell_of 6 q) (λ w. omega arith) (λ w. z (omega arith)) (λ w. omega arith) (λ w. omega arith) ∙ s.branches q (omega arith));
          loops = λ q h. decide (eqb q (n + 1)) (λ e. let z = eqb-true q (n + 1) e in rw z (put.3 ∙ ep))
              (λ e. let z : q ≢ n + 1 = eqb-false q (n + 1) e in put_other rows (n + 1) o b p t (cell_of 8 q) (λ w. omega arith) (λ w. omega arith) (λ w. omega arith) (λ w. z (omega arith)) ∙ s.loops q (omega arith));
          closes = λ q h. decide (eqb q (n + 1))
              (λ e. let z = eqb-true q (n + 1) e in rw z (subst (CloseBelow (n + 1) (n + 1)) (sym put.2) (fresh (n + 1))))
              (λ e. let z : q ≢ n + 1 = eqb-false q (n + 1) e in
              subst (CloseBelow (n + 1) q) (sym (put_other rows (n + 1) o b p t (cell_of 7 q) (λ w. omega arith) (λ w. omega arith) (λ w. z (omega arith)) (λ w. omega arith))) (s.closes q (omega arith)));
        }
      where
        -- no row before a row closes it
        fresh : (m : ℕ) → CloseBelow m m rows
        fresh m = record {
          none = λ z c l. let w = owner-low d c in rw (ne_eqb (owner d c) m (λ y. absurd (omega arith))) (false_right (is_close d c));
          first = λ z. absurd (z refl);
        }
          where
            false_right : (a : Bool) → (a && false) ≡ false
            false_right true = refl
            false_right false = refl

    -- row n is met: it closes nothing, or its owner
    met-other : (n : ℕ) (t : List ℕ) → closing (does d n) ≡ false → Sound start n n t → Sound start n (n + 1) t
    met-other n t h s = record {
      same = s.same;
      owners = s.owners;
      branches = s.branches;
      loops = s.loops;
      closes = λ q l. close-on n q (get_or t (cell_of 7 q) 0) (s.closes q l) (not-closing d q n h);
    }

    met-close : (n : ℕ) (t : List ℕ) → n < rows → does d n ≡ Closes → Sound start n n t → Sound start n (n + 1) (set t (cell_of 7 (owner d n)) n)
    met-close n t l e s = let low = owner-low d n in record {
      same = same_set start t (owner d n) n (omega arith) s.same;
      owners = λ q h. get_or-set_other t (cell_of 7 (owner d n)) (cell_of 5 q) n 0 (λ z. omega arith) ∙ s.owners q h;
      branches = λ q h. get_or-set_other t (cell_of 7 (owner d n)) (cell_of 6 q) n 0 (λ z. omega arith) ∙ s.branches q h;
      loops = λ q h. get_or-set_other t (cell_of 7 (owner d n)) (cell_of 8 q) n 0 (λ z. omega arith) ∙ s.loops q h;
      closes = λ q h. decide (eqb q (owner d n))
          (λ x. let z = eqb-true q (owner d n) x in
          rw z (subst (CloseBelow (n + 1) (owner d n)) (sym (get_or-set_same t (cell_of 7 (owner d n)) n 0 (omega (arith, s.same.long)))) here))
          (λ x. let z : q ≢ owner d n = eqb-false q (owner d n) x in
          subst (CloseBelow (n + 1) q) (sym (get_or-set_other t (cell_of 7 (owner d n)) (cell_of 7 q) n 0 (λ w. z (omega arith))))
          (close-on n q (get_or t (cell_of 7 q) 0) (s.closes q h) (rw (ne_eqb (owner d n) q (λ w. z (sym w)), close-part d n, e))));
    }
      where
        shut : is_close d n ≡ true
        shut = close-part d n ∙ ap closing e

        once : (c : ℕ) → c < n → closes_of d (owner d n) c ≡ false
        once c h = decide (is_close d c)
            (λ x. rw (x, ne_eqb (owner d c) (owner d n) (λ y. absurd (closes-once d (owner d c) c n h (closing-is (does d c) (sym (close-part d c) ∙ x)) refl (held d fine n (omega arith) (ap ending e)) (sym y)))))
            (λ x. rw x)
          where
            closing-is : (p : Part) → closing p ≡ true → p ≡ Closes
            closing-is Opens z = clash z refl
            closing-is Turns z = clash z refl
            closing-is Closes z = refl
            closing-is Stays z = clash z refl

        here : CloseBelow (n + 1) (owner d n) n
        here = record {
          none = λ z. absurd (omega arith);
          first = λ z. (omega arith, rw (shut, eq-eqb (owner d n) (owner d n) refl), once);
        }

    module _ (n : ℕ) (t : List ℕ) (l : n + 1 < rows) (s : Sound start n n t) where
      kind-here : get_or t n 0 ≡ number_of (kind d n)
      kind-here = s.same.below n (omega arith) ∙ kinds n (omega arith)

      turned : (fs : List Frame) → (fs ≡ [] → ⊥) → (innermost_open (turn_to n fs) ≡ innermost_open fs) × (latest_branch (turn_to n fs) ≡ n) × (innermost d lp_open (turn_to n fs) ≡ innermost d lp_open fs)
      turned [] h = absurd (h refl)
      turned (f ∷ fs) h = (refl, refl, refl)

      next_as : (p : Part) → does d n ≡ p → Sound start (n + 1) (n + 1) (followed_as p rows n t)
      unfolding owner loop
      next_as Opens e =
          let k = stack-next d n Opens e in
          hung n n (n + 1) (looping_in (get_or t n 0) n (get_or t (cell_of 8 n) 0)) t l (met-other n t (ap closing e) s)
          (sym (ap innermost_open k)) (add-one n ∙ sym (ap latest_branch k))
          (rw (kind-here, s.loops n (omega arith)) (sym (ap (innermost d lp_open) k)))
      next_as Turns e =
          let k = stack-next d n Turns e in
          let w = turned (stack d n) (held d fine n (omega arith) (ap ending e)) in
          hung n (get_or t (cell_of 5 n) 0) n (get_or t (cell_of 8 n) 0) t l (met-other n t (ap closing e) s)
          (s.owners n (omega arith) ∙ sym (ap innermost_open k ∙ w.0)) (sym (ap latest_branch k ∙ w.1)) (s.loops n (omega arith) ∙ sym (ap (innermost d lp_open) k ∙ w.2))
      next_as Closes e =
          let k = stack-next d n Closes e ∙ popped-is d n in
          let o = s.owners n (omega arith) in
          let low = owner-low d n in
          rw o (hung n (get_or t (cell_of 5 (owner d n)) 0) (get_or t (cell_of 6 (owner d n)) 0) (get_or t (cell_of 8 (owner d n)) 0) (set t (cell_of 7 (owner d n)) n) l (met-close n t (omega arith) e s)
          (s.owners (owner d n) low ∙ sym (ap innermost_open k)) (s.branches (owner d n) low ∙ sym (ap latest_branch k)) (s.loops (owner d n) low ∙ sym (ap (innermost d lp_open) k)))
      next_as Stays e =
          let k = stack-next d n Stays e in
          hung n (get_or t (cell_of 5 n) 0) (get_or t (cell_of 6 n) 0) (get_or t (cell_of 8 n) 0) t l (met-other n t (ap closing e) s)
          (s.owners n (omega arith) ∙ sym (ap innermost_open k)) (s.branches n (omega arith) ∙ sym (ap latest_branch k)) (s.loops n (omega arith) ∙ sym (ap (innermost d lp_open) k))

      next : Sound start (n + 1) (n + 1) (followed rows n t)
      unfolding followed
      next = subst (λ (p : Part). Sound start (n + 1) (n + 1) (followed_as p rows n t)) (ap part_of (sym kind-here)) (next_as (does d n) refl)

    -- THEOREM: the pass is sound
    pub sound : (n : ℕ) → n < rows → Sound start n n (structured rows n (put_structure rows 0 0 0 0 start))
    unfolding structured
    sound zero l =
        let put = put-cells rows 0 0 0 0 start (omega arith) long in
        let at : (q : ℕ) → q ≤ 0 → q ≡ 0 = λ q h. omega arith in
        record {
          same = same-put start start rows 0 0 0 0 (omega arith) (same_self start);
          owners = λ q h. rw (at q h) (put.0 ∙ (unfold owner stack in refl));
          branches = λ q h. rw (at q h) (put.1 ∙ (unfold stack in refl));
          loops = λ q h. rw (at q h) (put.3 ∙ (unfold loop stack in refl));
          closes = λ q h. rw (at q h) (record { none = λ z c y. absurd (omega arith); first = λ z. absurd (z put.2) });
        }
    sound (suc n) l = subst (λ (m : ℕ). Sound start m m (followed rows n (structured rows n (put_structure rows 0 0 0 0 start)))) (add-one n)
        (next n (structured rows n (put_structure rows 0 0 0 0 start)) (omega arith) (sound n (omega arith)))

    -- THEOREM: behind the last row the closes are the definition's
    pub close-is : (n : ℕ) → suc n ≡ rows → (t : List ℕ) → Sound start n n t → (q : ℕ) → q < rows → get_or t (cell_of 7 q) 0 ≡ close d q
    unfolding close
    close-is n e t s q l =
        let k = close-on n q (get_or t (cell_of 7 q) 0) (s.closes q (omega arith)) (not-closing d q n ended) in
        decide (eqb (get_or t (cell_of 7 q) 0) rows)
        (λ x. let z = eqb-true (get_or t (cell_of 7 q) 0) rows x in z ∙ (er ∙ sym (least-none (row_count d) (closes_of d q) (λ c h. k.none z c (omega arith)))))
        (λ x. let z = eqb-false (get_or t (cell_of 7 q) 0) rows x in let w = k.first z in let h = w.0 in
        sym (least-is (row_count d) (closes_of d q) (get_or t (cell_of 7 q) 0) (omega arith) w.1 w.2))
      where
        ended : closing (does d n) ≡ false
        ended = ap closing (last-stays d fine n (e ∙ er))
