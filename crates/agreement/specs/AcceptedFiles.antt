-- What an accepted diagram file gives: sizes, fields that fit, an accepted nesting.
use Rattle.std.specs.Prelude.{ℕ, zero, suc, ◌-◌, ◌/◌, ◌≤◌, ◌<◌, ◌≡◌, refl, ◌≢◌, Bool, false, not, cond, ◌&&◌, ◌||◌, List, [], ◌∷◌, length, get_or, drop, ltb}
use Rattle.std.proofs.Common.{zero-le, ap, subst, arith}
use Rattle.std.proofs.Math.Bool.{true}
use Rattle.std.proofs.Math.Dec.{leb, eqb}
use borrow.Author.Tests.{leb-true, eqb-true, eqb-false, lt-ltb}
use Rattle.effbd.specs.Answers.{accepted}
use Rattle.effbd.specs.Diagrams.{Diagram, Item, Kind, Row, Use, and_close, and_open, box_close, box_exit, box_open, branch, end, function, head_fault, is_kind, it_close, it_open, item, item_at, item_fault, item_total, kind, loop_exit, lp_close, lp_open, no_item, or_close, or_open, plain, row, row_at, row_count, row_fault, row_fault_in, row_fine, row_right, triggers_fine, uses_at}
use Rattle.effbd.specs.Frames.{Frame}
use Rattle.effbd.specs.Nesting.{after_items, after_rows, box, box_exit_misplaced, branch_of, exit_misplaced, follows, in_and_or, in_scenario, innermost_is, innermost_scenario, killer_empty, leads, loop_fault, nested, nesting_broken, nesting_fault, not_one_to_one, outlet, outlet_fault, own_scenario, read_diagram, scenario_fault, some_open, some_scenario, stack, stands_as, thirteenth_open, unless_row}
use Rattle.effbd.specs.Records.{Got, are_bytes, kind_at, length_at, length_of, read_many, word}
use Rattle.effbd.specs.Ranges.{all_below, how_many, only}
use Rattle.ranges.specs.Tests.{and_intro, and_left, and_right, clash, decide, not-false, not-true, or_left, or_right, or_split}
use Rattle.ranges.specs.RangeLaws.{all-elim, all-intro, least-found, many-find, many-le, only-refl}
use Rattle.ranges.specs.Outcomes.{else-none}
use Rattle.agreement.specs.ByteLaws.{Clean, adding-inv, bind_inv, bytes_drop, next-inv, none-clean, word_fits}
use Rattle.agreement.specs.Nested.{may_stand, walked, well_nested}
use Rattle.agreement.specs.Basics.{kind-in, not-kind, same-eq}
use Rattle.agreement.specs.RowFaults.{rows-clean}

-- every element of a list
abbrev pub AllOf : {A : Type 0} → (A → Type 0) → List A → Type 0
AllOf Q [] = Unit {0}
AllOf Q (a ∷ l) = Q a × AllOf Q l

pub all-at : {A : Type 0} (Q : A → Type 0) (l : List A) (z : A) → AllOf Q l → Q z → (i : ℕ) → Q (get_or l i z)
all-at Q [] z h q zero = q
all-at Q [] z h q (suc i) = q
all-at Q (a ∷ l) z h q zero = h.0
all-at Q (a ∷ l) z h q (suc i) = all-at Q l z h.1 q i

pub record Read (A : Type 0) (Q : A → Type 0) (n : ℕ) (g : Got (List A)) : Type 0 where
  pub each : AllOf Q g.value
  pub many : length g.value ≡ n
  pub rest : are_bytes g.rest ≡ true

pub many_read : {A : Type 0} (Q : A → Type 0) (fault : List ℕ → ℕ) (value : List ℕ → A) (total n : ℕ) (l : List ℕ) (g : Got (List A))
    → ((l : List ℕ) → are_bytes l ≡ true → fault l ≡ 0 → Q (value l)) → are_bytes l ≡ true → read_many fault value total n l ≡ accepted g → Read A Q n g
unfolding read_many
many_read {A} Q fault value total zero l g h b e = subst (Read A Q zero) (let y : record { value = []; rest = l } ≡ g = cc in y) (record { each = tt; many = refl; rest = b })
many_read {A} Q fault value total (suc n) l g h b e =
    let a = next-inv (fault l) (total - length l) _ g e in
    let w = adding-inv (value l) _ g a.1 in
    let r = many_read Q fault value total n (drop (length_at l) l) w.0 h (bytes_drop (length_at l) l b) w.1 in
    subst (Read A Q (suc n)) w.2 (record { each = (h l b a.0, r.each); many = ap suc r.many; rest = r.rest })

-- a row as the file has it: its fields are words
pub record RowOk (items : List Item) (r : Row) : Type 0 where
  pub first : r.first ≤ 65535
  pub second : r.second ≤ 65535
  pub uses : AllOf (λ (u : Use). (u.take ≤ 65535) × (u.give ≤ 65535)) r.uses
  pub fine : row_fine (length items) r ≡ true
  pub triggers : triggers_fine items r.uses ≡ true

uses-fit : (u : ℕ) (l : List ℕ) → are_bytes l ≡ true → AllOf (λ (u : Use). (u.take ≤ 65535) × (u.give ≤ 65535)) (uses_at u l)
unfolding uses_at
uses-fit zero l b = tt
uses-fit (suc u) l b = ((word_fits l b 2, word_fits l b 4), uses-fit u (drop 6 l) (bytes_drop 6 l b))

cond-fits : (b : Bool) (x y : ℕ) → x ≤ 65535 → y ≤ 65535 → cond b x y ≤ 65535
cond-fits true x y h g = h
cond-fits false x y h g = g

row_ok : (items : List Item) (l : List ℕ) → are_bytes l ≡ true → row_fault_in items l ≡ 0 → RowOk items (row_at l)
unfolding row_fault_in row_fault
row_ok items l b e = record {
  first = unfold row_at in cond-fits (eqb (kind_at l) 16 || eqb (kind_at l) 22 || eqb (kind_at l) 31) (word l 4) _ (word_fits l b 4) (cond-fits (eqb (kind_at l) 28) 1 0 (omega arith) zero-le);
  second = unfold row_at in cond-fits (eqb (kind_at l) 16) (word l 6) 0 (word_fits l b 6) zero-le;
  uses = unfold row_at in (decide (eqb (kind_at l) 16) (λ z. rw z (uses-fit ((length_at l - 8) / 6) (drop 8 l) (bytes_drop 8 l b))) (λ z. rw z tt));
  fine = (none-clean l (leb 16 (kind_at l) && leb (kind_at l) 31) (row_right (length items) l) (row_fine (length items) (row_at l)) 4 none.0).is_fine;
  triggers = go (triggers_fine items (row_at l).uses) none.1;
}
  where
    none : (row_fault (length items) l ≡ 0) × (◌≡◌ {A = ℕ} (cond (triggers_fine items (row_at l).uses) 0 43) 0)
    none = else-none (row_fault (length items) l) (cond (triggers_fine items (row_at l).uses) 0 43) e

    go : (b : Bool) → ◌≡◌ {A = ℕ} (cond b 0 43) 0 → b ≡ true
    go true z = refl
    go false z = absurd (omega arith)

plain_ok : (items : List Item) → RowOk items (plain end)
unfolding row_fine triggers_fine
plain_ok items = record { first = zero-le; second = zero-le; uses = tt; fine = refl; triggers = refl }

pub record Held (d : Diagram) : Type 0 where
  pub some : 1 ≤ row_count d
  pub rows : row_count d ≤ 64
  pub works : how_many (row_count d) (is_kind d function) ≤ 63
  pub items : item_total d ≤ 16
  pub acc : well_nested d ≡ true
  pub each : (q : ℕ) → RowOk d.items (row d q)
  pub stocks : (k : ℕ) → (item d k).initial ≤ 65535

module _ (d : Diagram) where
  nest-none : (a b c e f : Bool) → ◌≡◌ {A = ℕ} (cond a 7 (cond b 44 (cond c 8 (cond e 48 (cond f 9 0))))) 0 → (a ≡ false) × (b ≡ false) × (c ≡ false) × (e ≡ false)
  nest-none true b c e f h = absurd (omega arith)
  nest-none false true c e f h = absurd (omega arith)
  nest-none false false true e f h = absurd (omega arith)
  nest-none false false false true f h = absurd (omega arith)
  nest-none false false false false f h = (refl, refl, refl, refl)

  pub record Stands (q : ℕ) : Type 0 where
    pub follow : follows d q ≡ true
    pub stand : stands_as d (kind d q) q (stack d q) ≡ true
    pub ends : (not (eqb (suc q) (row_count d)) || is_kind d end q) ≡ true
    pub full : killer_empty d q ≡ false
    pub exits : exit_misplaced d q ≡ false
    pub outs : box_exit_misplaced d q ≡ false

  stands : (q : ℕ) → nesting_fault d q ≡ 0 → Stands q
  unfolding nesting_fault nesting_broken
  stands q e =
      let z = nest-none (not (follows d q && (stands_as d (kind d q) q (stack d q) && (not (eqb (suc q) (row_count d)) || is_kind d end q)))) (killer_empty d q) (exit_misplaced d q) (box_exit_misplaced d q) (thirteenth_open d q) e in
      let a = not-false _ z.0 in
      let b = and_right (follows d q) (stands_as d (kind d q) q (stack d q) && (not (eqb (suc q) (row_count d)) || is_kind d end q)) a in
      record {
        follow = and_left (follows d q) _ a;
        stand = and_left (stands_as d (kind d q) q (stack d q)) _ b;
        ends = and_right (stands_as d (kind d q) q (stack d q)) _ b;
        full = z.1;
        exits = z.2;
        outs = z.3;
      }

  -- an LP that is open in a row's own scenario is open
  own_open : (fs : List Frame) → some_open d lp_open (own_scenario d fs) ≡ true → some_open d lp_open fs ≡ true
  own_open [] h = h
  own_open (f ∷ fs) h = decide (in_scenario d f)
      (λ e. clash (rw e at h) refl)
      (λ e. or_split (is_kind d lp_open f.opened) (some_open d lp_open (own_scenario d fs)) (rw e at h) (λ z. or_left _ z) (λ n z. or_right (is_kind d lp_open f.opened) (own_open fs z)))

  box-there : (fs : List Frame) → some_scenario d fs ≡ true → is_kind d box_open (innermost_scenario d fs) ≡ true
  box-there [] h = clash h refl
  box-there (f ∷ fs) h = decide (in_scenario d f) (λ e. rw e (and_left (is_kind d box_open f.opened) _ e)) (λ e. rw e (box-there fs (rw e at h)))

  module _ (all : (q : ℕ) → q < row_count d → Stands q) where
    -- a row that is not END is not the last one
    inner : (q : ℕ) → q < row_count d → is_kind d end q ≡ false → suc q < row_count d
    inner q l e = or_split (not (eqb (suc q) (row_count d))) (is_kind d end q) (all q l).ends
        (λ z. let n : suc q ≢ row_count d = eqb-false (suc q) (row_count d) (not-true (eqb (suc q) (row_count d)) z) in omega arith)
        (λ z y. clash y e)

    opened : (q : ℕ) → q < row_count d → is_kind d end q ≡ false → (is_kind d and_open q || is_kind d or_open q) ≡ true → is_kind d branch (suc q) ≡ true
    opened q l e o = let f = (all (suc q) (inner q l e)).follow in go (is_kind d and_open q || is_kind d or_open q) (is_kind d branch (suc q)) o f
      where
        go : (a b : Bool) → a ≡ true → (not a || b) ≡ true → b ≡ true
        go true b p h = h
        go false b p h = clash p refl

    exited : (q : ℕ) → q < row_count d → is_kind d loop_exit q ≡ true → some_open d lp_open (stack d q) ≡ true
    unfolding exit_misplaced
    exited q l k = own_open (stack d q) (and_left (some_open d lp_open (own_scenario d (stack d q))) _ (and_right (in_and_or d (stack d q)) _
        (not-false _ (rw k at (all q l).exits))))

    -- an EXIT is in a scenario
    leaving : (q : ℕ) → q < row_count d → is_kind d box_exit q ≡ true → some_scenario d (stack d q) ≡ true
    unfolding box_exit_misplaced
    leaving q l k = and_left (some_scenario d (stack d q)) _ (not-false _ (rw k at (all q l).outs))

    may_as : (q : ℕ) (k : Kind) → q < row_count d → kind d q ≡ k → stands_as d k q (stack d q) ≡ true → may_stand d k q (stack d q) ≡ true
    may_as q function l e h = h
    may_as q and_open l e h = opened q l (rw e) (rw e)
    may_as q branch l e h = and_intro (and_left (in_and_or d (stack d q) || innermost_is d box_open (stack d q)) _ h) (rw (all q l).full)
    may_as q and_close l e h = and_left (innermost_is d and_open (stack d q)) _ h
    may_as q or_open l e h = opened q l (rw e) (rw e)
    may_as q or_close l e h = and_left (innermost_is d or_open (stack d q)) _ h
    may_as q it_open l e h = h
    may_as q it_close l e h = h
    may_as q lp_open l e h = h
    may_as q lp_close l e h = h
    may_as q loop_exit l e h = exited q l (rw e)
    may_as q end l e h = h
    may_as q box_open l e h = h
    may_as q box_close l e h = and_left (innermost_is d box_open (stack d q)) _ h
    may_as q box_exit l e h = leaving q l (rw e)

    walk-accepted : 1 ≤ row_count d → walked d ≡ true
    walk-accepted s = and_intro (all-intro (row_count d) (λ q. may_stand d (kind d q) q (stack d q)) (λ q l. may_as q (kind d q) l refl (all q l).stand))
        (and_intro (lt-ltb 0 (row_count d) s)
        (or_split (not (eqb (suc (row_count d - 1)) (row_count d))) (is_kind d end (row_count d - 1)) (all (row_count d - 1) (omega arith)).ends
        (λ z. absurd (eqb-false (suc (row_count d - 1)) (row_count d) (not-true _ z) (omega arith))) (λ z y. y)))

  pub well-walked : ((q : ℕ) → q < row_count d → nesting_fault d q ≡ 0) → 1 ≤ row_count d → walked d ≡ true
  well-walked fine some = walk-accepted (λ q l. stands q (fine q l)) some

  cond-none : (b : Bool) (n : ℕ) → cond b (suc n) 0 ≡ 0 → b ≡ false
  cond-none true n h = absurd (omega arith)
  cond-none false n h = refl

  module _ (fine : (q : ℕ) → q < row_count d → nesting_fault d q ≡ 0) (matched : (q : ℕ) → q < row_count d → outlet_fault d q ≡ 0) where
    led : (q : ℕ) → q < row_count d → is_kind d box_exit q ≡ true → leads d q (outlet d q) ≡ true
    unfolding outlet not_one_to_one
    led q l k = let w = many-find (row_count d) (leads d q) (λ z. let y = eqb-true (how_many (row_count d) (leads d q)) 1 once in absurd (omega arith)) in
        (least-found (row_count d) (leads d q) w.0 w.1 w.2).0
      where
        o : is_kind d box_open (box d q) ≡ true
        o = unfold box in box-there (stack d q) (leaving (λ x y. stands x (fine x y)) q l k)

        once : eqb (how_many (row_count d) (leads d q)) 1 ≡ true
        once = let m = cond-none (not_one_to_one d (box d q)) 48 (matched (box d q) (kind-in d (box d q) (not-kind d (box d q) (same-eq (kind d (box d q)) box_open o) end refl))) in
            let both = not-false _ (rw o at m) in
            rw (k, only-refl (box d q)) at (all-elim (row_count d) (λ r. not (is_kind d box_exit r && only (box d q) (box d r)) || eqb (how_many (row_count d) (leads d r)) 1)
            (and_right (all_below (row_count d) (λ b. not (branch_of d (box d q) b) || eqb (how_many (row_count d) (λ r. leads d r b)) 1)) _ both) q l)

    pub well-nested : 1 ≤ row_count d → well_nested d ≡ true
    well-nested some = and_intro (well-walked fine some) (all-intro (row_count d) (λ r. not (is_kind d box_exit r) || leads d r (outlet d r))
        (λ r l. decide (is_kind d box_exit r) (λ e. rw e (led r l e)) (λ e. rw e)))

  -- the diagram is the one that was judged; no row is at fault in the walk, and behind it no box and no LP
  pub record Clear (e : Diagram) : Type 0 where
    pub same : d ≡ e
    pub walk : (q : ℕ) → q < row_count d → nesting_fault d q ≡ 0
    pub outlets : (q : ℕ) → q < row_count d → outlet_fault d q ≡ 0
    pub scenarios : (q : ℕ) → q < row_count d → scenario_fault d q ≡ 0
    pub loops : (q : ℕ) → q < row_count d → loop_fault d q ≡ 0

  pub nested-clear : (e : Diagram) → nested d ≡ accepted e → Clear e
  unfolding nested
  nested-clear e h =
      let w = rows-clean d (nesting_fault d) (unless_row d (outlet_fault d) (unless_row d (scenario_fault d) (unless_row d (loop_fault d) (accepted d)))) e h in
      let o = rows-clean d (outlet_fault d) (unless_row d (scenario_fault d) (unless_row d (loop_fault d) (accepted d))) e w.1 in
      let s = rows-clean d (scenario_fault d) (unless_row d (loop_fault d) (accepted d)) e o.1 in
      let l = rows-clean d (loop_fault d) (accepted d) e s.1 in
      record { same = (let z : accepted d ≡ accepted e = l.1 in cc); walk = w.0; outlets = o.0; scenarios = s.0; loops = l.0 }

-- the last of 64 rows is END, so that 63 may be FUNCTIONs
few-works : (d : Diagram) → well_nested d ≡ true → row_count d ≤ 64 → how_many (row_count d) (is_kind d function) ≤ 63
few-works d acc few = go (row_count d) refl few
  where
    go : (n : ℕ) → n ≡ row_count d → n ≤ 64 → how_many n (is_kind d function) ≤ 63
    go zero z l = zero-le
    go (suc n) z l = let a = many-le n (is_kind d function) in let y : row_count d - 1 ≡ n = omega arith in
        let k : kind d n ≡ end = subst (λ x. kind d x ≡ end) y
        (same-eq (kind d (row_count d - 1)) end (and_right (ltb 0 (row_count d)) _ (and_right (all_below (row_count d) (λ q. may_stand d (kind d q) q (stack d q))) _ (and_left (walked d) _ acc)))) in
        rw k (omega arith)

-- THEOREM: what an accepted file gives
pub held : (file : List ℕ) (d : Diagram) → are_bytes file ≡ true → read_diagram file ≡ accepted d → Held d
unfolding read_diagram after_items after_rows
held file d b e =
    let a = next-inv (head_fault file) 0 _ d e in
    let i = bind_inv (read_many item_fault item_at (length file) (word file 8) (drop 10 file)) (after_items file) d a.1 in
    let ir = many_read (λ (x : Item). x.initial ≤ 65535) item_fault item_at (length file) (word file 8) (drop 10 file) i.0 (λ l c z. word_fits l c 4) (bytes_drop 10 file b) i.1 in
    let r = bind_inv (read_many (row_fault_in i.0.value) row_at (length file) (word file 6) i.0.rest) (after_rows file i.0.value) d i.2 in
    let rr = many_read (RowOk i.0.value) (row_fault_in i.0.value) row_at (length file) (word file 6) i.0.rest r.0 (λ l c z. row_ok i.0.value l c z) ir.rest r.1 in
    let n = next-inv (cond (eqb (length r.0.rest) 0) 0 6) (length file - length r.0.rest) _ d r.2 in
    whole i.0.value r.0.value a.0 ir.each ir.many rr.each rr.many n.1
  where
    whole : (items : List Item) (rows : List Row) → head_fault file ≡ 0 → AllOf (λ (x : Item). x.initial ≤ 65535) items → length items ≡ word file 8
        → AllOf (RowOk items) rows → length rows ≡ word file 6 → nested (record { rows = rows; items = items }) ≡ accepted d → Held d
    whole items rows h i m r n e =
        subst Held z.same (record {
          some = rw n (leb-true 1 (word file 6) (and_left (leb 1 (word file 6)) _ f));
          rows = few;
          works = few-works d' acc few;
          items = rw m (leb-true (word file 8) 16 (and_right (leb (word file 6) 64) _ (and_right (leb 1 (word file 6)) _ f)));
          acc = acc;
          each = λ q. all-at (RowOk items) rows (plain end) r (plain_ok items) q;
          stocks = λ k. all-at (λ (x : Item). x.initial ≤ 65535) items no_item i zero-le k;
        })
      where
        d' : Diagram
        d' = record { rows = rows; items = items }

        z : Clear d' d
        z = nested-clear d' d e

        c : Clean file (eqb (kind_at file) 1) (eqb (length_at file) (length_of 1)) (eqb (word file 4) 1 && (leb 1 (word file 6) && (leb (word file 6) 64 && leb (word file 8) 16)))
        c = none-clean file (eqb (kind_at file) 1) (eqb (length_at file) (length_of 1)) (eqb (word file 4) 1 && (leb 1 (word file 6) && (leb (word file 6) 64 && leb (word file 8) 16))) 3 (unfold head_fault in h)

        f : (leb 1 (word file 6) && (leb (word file 6) 64 && leb (word file 8) 16)) ≡ true
        f = and_right (eqb (word file 4) 1) _ c.is_fine

        few : row_count d' ≤ 64
        few = rw n (leb-true (word file 6) 64 (and_left (leb (word file 6) 64) _ (and_right (leb 1 (word file 6)) _ f)))

        acc : well_nested d' ≡ true
        acc = well-nested d' z.walk z.outlets (rw n (leb-true 1 (word file 6) (and_left (leb 1 (word file 6)) _ f)))
