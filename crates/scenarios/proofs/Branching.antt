-- The branches of a construct, row by row: those that end behind a row add nothing before it, and behind the construct's close none ends.
use Prim.Native.Nat.{ℕ, zero, suc, ◌+◌, ◌≤◌, ◌<◌}
use mathlib.Core.Path.{◌≡◌, refl, sym, ◌∙◌, ap, subst}
use mathlib.Core.Logic.{◌≢◌}
use mathlib.Core.Bool.{Bool, true, false, not, ◌&&◌, ◌||◌, and-true, and-false, and_comm}
use mathlib.Core.List.{List, [], ◌∷◌}
use native.Mathlib.Omega.{arith}
use native.Mathlib.Numerals.{add-one}
use lib.Dec.{eqb}
use borrow.Author.Tests.{eqb-true, eqb-false, ne_eqb, lt-ltb, le-ltb}
use Rattle.effbd.specs.Ranges.{all_below, only}
use Rattle.effbd.specs.Diagrams.{Kind, function, and_open, branch, and_close, or_open, or_close, it_open, it_close, lp_open, lp_close, loop_exit, end, box_open, box_close, box_exit, number_of, same_kind, Diagram, row_count, kind, is_kind, kills}
use Rattle.effbd.specs.Frames.{Frame, role, is_closing, latest_branch}
use Rattle.effbd.specs.Nesting.{stack, owner, branch_ended, is_close, ends_branch, falls_into}
use Rattle.ranges.specs.Tests.{decide, clash}
use Rattle.ranges.specs.RangeLaws.{all-intro}
use Rattle.agreement.specs.AcceptedFiles.{well-walked}
use Rattle.agreement.specs.NestingLaws.{shutting}
use Rattle.diagram_table.specs.Cells.{first_in, owner_in}
use Rattle.nesting.specs.declared.Part.{Part}
use Rattle.nesting.specs.declared.Part.TheVariants.{Opens, Turns, Closes, Stays}
use Rattle.nesting.specs.Runs.{part_of}
use Rattle.nesting.proofs.Rules.{passing_by, closing, ending, stack-next}
use Rattle.nesting.proofs.Stacks.{does, closes-once, close-part, held}
use Rattle.diagram_structure.specs.Walked.{Walked}
use Rattle.scenarios.specs.declared.Branches.{Branches}
use Rattle.scenarios.specs.Scenarios.{ends, ends_in, killer_in, with_branch, implied, all_fall, none_falls, no_killer_falls, BranchesTo, FallsRead, BranchesRead}

-- where every number from j on passes, those below j decide
pub all-grow : (m j : ℕ) (f : ℕ → Bool) → j ≤ m → ((i : ℕ) → j ≤ i → i < m → f i ≡ true) → all_below m f ≡ all_below j f
all-grow zero j f l h = let e : j ≡ 0 = omega arith in rw e
all-grow (suc m) j f l h = decide (eqb j (suc m)) (λ e. rw (eqb-true j (suc m) e))
    (λ e. let ne : j ≢ suc m = eqb-false j (suc m) e in rw (h m (omega arith) (omega arith)) (all-grow m j f (omega arith) (λ i a b. h i a (omega arith))))

-- a BRANCH or close, by its number
part-ends : (k : Kind) → (same_kind k branch || is_closing (role k)) ≡ ends (part_of (number_of k))
unfolding part_of
part-ends function = refl
part-ends and_open = refl
part-ends branch = refl
part-ends and_close = refl
part-ends or_open = refl
part-ends or_close = refl
part-ends it_open = refl
part-ends it_close = refl
part-ends lp_open = refl
part-ends lp_close = refl
part-ends loop_exit = refl
part-ends end = refl
part-ends box_open = refl
part-ends box_close = refl
part-ends box_exit = refl

part-ending : (p : Part) → ends p ≡ ending p
part-ending Opens = refl
part-ending Turns = refl
part-ending Closes = refl
part-ending Stays = refl

closing-is : (p : Part) → closing p ≡ true → p ≡ Closes
closing-is Opens z = clash z refl
closing-is Turns z = clash z refl
closing-is Closes z = refl
closing-is Stays z = clash z refl

module _ (d : Diagram) where
  -- the row behind an open ends no branch, nor any row before it
  early : (o e : ℕ) → e ≤ suc o → ends_branch d o e ≡ false
  unfolding ends_branch
  early o e l = rw (le-ltb (suc o) e l, and-false (only o (owner d e)), and-false (is_kind d branch e || is_close d e))

  -- no latest BRANCH is behind the row
  abbrev Low : ℕ → List Frame → Type 0
  Low q [] = Unit {0}
  Low q (f ∷ fs) = (f.latest ≤ q) × Low q fs

  low-on : (q : ℕ) (fs : List Frame) → Low q fs → Low (q + 1) fs
  low-on q [] g = tt
  low-on q (f ∷ fs) g = let l = g.0 in (omega arith, low-on q fs g.1)

  low-passed : (part : Part) (q : ℕ) (fs : List Frame) → Low q fs → Low (q + 1) (passing_by part q fs)
  low-passed Opens q fs g = (omega arith, low-on q fs g)
  low-passed Turns q [] g = tt
  low-passed Turns q (f ∷ fs) g = (omega arith, low-on q fs g.1)
  low-passed Closes q [] g = tt
  low-passed Closes q (f ∷ fs) g = low-on q fs g.1
  low-passed Stays q fs g = low-on q fs g

  low : (q : ℕ) → Low q (stack d q)
  low zero = unfold stack in tt
  low (suc q) = subst (λ (n : ℕ). Low n (stack d n)) (add-one q)
      (subst (Low (q + 1)) (sym (stack-next d q (does d q) refl)) (low-passed (does d q) q (stack d q) (low q)))

  latest-low : (q : ℕ) → branch_ended d q ≤ q
  latest-low q = go (stack d q) (low q)
    where
      go : (fs : List Frame) → Low q fs → latest_branch fs ≤ q
      go [] g = omega arith
      go (f ∷ fs) g = g.0

  module _ (falls : ℕ → Bool) (o : ℕ) where
    pub none_yet : BranchesTo d falls o (o + 2) (record { all = true; some = false; killing = false })
    none_yet = record {
      all = sym (all-intro (o + 2) (λ e. implied (ends_branch d o e) (falls e)) (λ e l. rw (early o e (omega arith))));
      some = sym (ap not (all-intro (o + 2) (λ e. implied (ends_branch d o e) (not (falls e))) (λ e l. rw (early o e (omega arith)))));
      killing = sym (ap not (all-intro (o + 2) (λ e. implied (ends_branch d o e && kills d (branch_ended d e)) (not (falls e))) (λ e l. rw (early o e (omega arith)))));
    }

    module _ (e : ℕ) (b : Branches) (s : BranchesTo d falls o e b) where
      pub one_more : ends_branch d o e ≡ true → BranchesTo d falls o (e + 1) (with_branch (falls e) (kills d (branch_ended d e)) b)
      one_more h = rw (add-one e) (record {
        all = rw h (all-with (falls e) (kills d (branch_ended d e)));
        some = rw h (some_with (falls e) (kills d (branch_ended d e)));
        killing = rw h (killing-with (falls e) (kills d (branch_ended d e)));
      })
        where
          all-with : (f k : Bool) → (with_branch f k b).all ≡ (f && all_fall d falls o e)
          all-with true k = s.all
          all-with false k = refl

          some_with : (f k : Bool) → (with_branch f k b).some ≡ not (not f && none_falls d falls o e)
          some_with true k = refl
          some_with false k = s.some

          killing-with : (f k : Bool) → (with_branch f k b).killing ≡ not (implied k (not f) && no_killer_falls d falls o e)
          killing-with true true = refl
          killing-with true false = s.killing
          killing-with false true = s.killing
          killing-with false false = s.killing

      pub no_more : ends_branch d o e ≡ false → BranchesTo d falls o (e + 1) b
      no_more h = rw (add-one e) (record { all = rw h s.all; some = rw h s.some; killing = rw h s.killing })

    -- no branch ends from row j on
    grown : (m j : ℕ) (b : Branches) → j ≤ m → ((e : ℕ) → j ≤ e → e < m → ends_branch d o e ≡ false) → BranchesTo d falls o j b → BranchesTo d falls o m b
    grown m j b l h s = record {
      all = s.all ∙ sym (all-grow m j (λ e. implied (ends_branch d o e) (falls e)) l (λ e x y. rw (h e x y)));
      some = s.some ∙ sym (ap not (all-grow m j (λ e. implied (ends_branch d o e) (not (falls e))) l (λ e x y. rw (h e x y))));
      killing = s.killing ∙ sym (ap not (all-grow m j (λ e. implied (ends_branch d o e && kills d (branch_ended d e)) (not (falls e))) l (λ e x y. rw (h e x y))));
    }

-- ---- the table's rows
module _ (d : Diagram) (rows : ℕ) (table : List ℕ) (w : Walked d rows table) where
  -- from the second row behind its open on
  pub ends_is : (o e : ℕ) → e < rows → suc o < e → ends_in table o e ≡ ends_branch d o e
  unfolding ends_in ends_branch
  ends_is o e l h = rw (w.owners e l, w.kinds.cell e l, lt-ltb (suc o) e h, part-ends (kind d e), and-true (eqb (owner d e) o)) (and_comm (eqb (owner d e) o) (ends (part_of (number_of (kind d e)))))

  pub killer-is : (e : ℕ) → e < rows → killer_in table e ≡ kills d (branch_ended d e)
  unfolding killer_in
  killer-is e l = let z = latest-low d e in ap (λ (b : ℕ). eqb (first_in table b) 1) (w.branches e l) ∙ ap (λ (n : ℕ). eqb n 1) (w.kinds.first (branch_ended d e) (omega arith))

  -- behind its close no branch of a construct ends
  late : (c e : ℕ) → c < e → e < rows → is_close d c ≡ true → ends_branch d (owner d c) e ≡ false
  unfolding ends_branch
  late c e l h z = let n = w.kinds.count in
      decide (is_kind d branch e || is_close d e)
      (λ x. rw (
        x,
        ne_eqb (owner d e) (owner d c) (closes-once d (owner d c) c e l (closing-is (does d c) (sym (close-part d c) ∙ z)) refl
            (held d w.fine e (omega arith) (sym (part-ending (does d e)) ∙ (sym (part-ends (kind d e)) ∙ x)))),
      ))
      (λ x. rw x)

  -- a close stands behind its open
  pub earlier : (c : ℕ) → is_close d c ≡ true → owner d c < c
  earlier c z = let n = w.kinds.count in let a = w.some in (shutting d (well-walked d w.fine (omega arith)) c z).earlier

  pub closed : (c m : ℕ) (falls : ℕ → Bool) (b : Branches) → c < rows → is_close d c ≡ true → c < m → m ≤ c + 1 → BranchesTo d falls (owner d c) m b → BranchesTo d falls (owner d c) (row_count d) b
  closed c m falls b l z a h s = let k = w.kinds.count in grown d falls (owner d c) (row_count d) m b (omega arith) (λ e x y. late c e (omega arith) (omega arith) z) s

-- ---- the loop over the rows of a construct: those before `row` are judged
pub record SoFar (table : List ℕ) (close row : ℕ) (b : Branches) : Type 0 where
  pub from : owner_in table close + 2 ≤ row
  pub judged : (d : Diagram) (rows : ℕ) → Walked d rows table → close < rows → is_close d close ≡ true → (n : ℕ) → close ≤ n
      → (row ≤ close + 1) × BranchesTo d (falls_into d n) (owner d close) row b

module _ (table : List ℕ) (close o : ℕ) (eo : o ≡ owner_in table close) where
  pub so-start : SoFar table close (o + 2) (record { all = true; some = false; killing = false })
  so-start = record {
    from = omega (arith, eo);
    judged = λ d rows w l z n h. let e = eo ∙ w.owners close l in let y = earlier d rows table w close z in
        (omega arith, subst (λ (x : ℕ). BranchesTo d (falls_into d n) (owner d close) (x + 2) (record { all = true; some = false; killing = false })) (sym e) (none_yet d (falls_into d n) (owner d close)));
  }

  module _ (row : ℕ) (b : Branches) (s : SoFar table close row b) where
    -- what the table says of the row
    ends-here : (d : Diagram) (rows : ℕ) → Walked d rows table → close < rows → row ≤ close → ends_in table o row ≡ ends_branch d (owner d close) row
    ends-here d rows w l h = let e = eo ∙ w.owners close l in let f = s.from in
        ap (λ (x : ℕ). ends_in table x row) e ∙ ends_is d rows table w (owner d close) row (omega arith) (omega arith)

    pub so-more : (f k : Bool) → row ≤ close → ends_in table o row ≡ true → FallsRead table row f → k ≡ killer_in table row → SoFar table close (row + 1) (with_branch f k b)
    so-more f k l x r e = record {
      from = let h = s.from in omega arith;
      judged = λ d rows w c z n h. (
        omega arith,
        subst (λ (y : Bool). BranchesTo d (falls_into d n) (owner d close) (row + 1) (with_branch y k b)) (sym (r.judged d rows w (omega arith) n (omega arith)))
            (subst (λ (y : Bool). BranchesTo d (falls_into d n) (owner d close) (row + 1) (with_branch (falls_into d n row) y b)) (sym (e ∙ killer-is d rows table w row (omega arith)))
            (one_more d (falls_into d n) (owner d close) row b (s.judged d rows w c z n h).1 (sym (ends-here d rows w c l) ∙ x))),
      );
    }

    pub so-same : row ≤ close → ends_in table o row ≡ false → SoFar table close (row + 1) b
    so-same l x = record {
      from = let h = s.from in omega arith;
      judged = λ d rows w c z n h. (omega arith, no_more d (falls_into d n) (owner d close) row b (s.judged d rows w c z n h).1 (sym (ends-here d rows w c l) ∙ x));
    }

    pub so-done : close < row → BranchesRead table close b
    so-done l = record {
      judged = λ d rows w c z n h. let y = s.judged d rows w c z n h in closed d rows table w close row (falls_into d n) b c z l y.0 y.1;
    }
