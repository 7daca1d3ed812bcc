-- THEOREM (row_is): the records of a row over the table are those of its patterns.
use Rattle.std.proofs.Common.{ℕ, suc, ◌+◌, ◌*◌, ◌-◌, ◌≤◌, ◌<◌, ◌≡◌, refl, ap, sym, ◌∙◌, subst, ◌≢◌, ◌⊎◌, inl, inr, Bool, true, false, cond, List, [], ◌∷◌, ◌++◌, append-nil, arith, add-one, eqb-true}
use Rattle.effbd.specs.Ranges.{only, nobody}
use Rattle.effbd.specs.Diagrams.{Kind, function, and_open, branch, and_close, or_open, or_close, it_open, it_close, lp_open, lp_close, loop_exit, end, box_open, box_close, box_exit, Diagram, number_of, row_count, kind, is_kind}
use Rattle.effbd.specs.Nesting.{owner, close, branch_of}
use Rattle.effbd.specs.States.{ends_killer, entered_row, branch_entries}
use Rattle.effbd.specs.Nets.{take_arc, give_arc}
use Rattle.effbd.specs.Patterns.{none, marks_p, passes, passes_to, patterns_as}
use Rattle.ranges.specs.Tests.{decide, and_left, and_right}
use Rattle.agreement.specs.Basics.{same-eq, not-kind}
use Rattle.agreement.specs.AcceptedFiles.{Held}
use Rattle.agreement.specs.Structure.{Laws, opens}
use Rattle.agreement.specs.NestingLaws.{laws}
use Rattle.agreement.proofs.Reach.{close-in, next-in}
use Rattle.agreement.proofs.Reach.{behind-branch as unkilled}
use Rattle.diagram_table.specs.Cells.{close_in, is_branch}
use Rattle.diagram_table.specs.Held.{Holds, HoldsUses, HoldsCopies, HoldsRanks}
use Rattle.diagram_table.proofs.HeldCells.{kind-cell, owner-cell, owner-kind, close-cell, branch-cell}
use Rattle.net_records.specs.Writing.{Records, runs, span}
use Rattle.net_records.specs.Records.{transition, arc}
use Rattle.net_entries.specs.Entering.{entry, entering}
use Rattle.net_rows.specs.Rows.{token, branch_place, branch_arc, branch_arcs, and_open_records, and_close_records, or_token, branch_token, or_close_records, onward, back, row_as, row_records}
use Rattle.net_records.proofs.Runs.{runs_same, runs-span}
use Rattle.net_rows.proofs.ConstructWalks.{walk-span}
use Rattle.net_rows.proofs.ConstructRows.{behind-branch, branch-inside, owner-inside}
use Rattle.net_rows.proofs.BranchGives.{images}
use Rattle.net_clears.proofs.Weights.{weights, count_none, mark-P, mark-each}
use Rattle.net_clears.proofs.PatternRecords.{all_patterns, unclearing}
use Rattle.net_entries.proofs.Entries.{next-entry, next-entered}
use Rattle.net_entries.proofs.EnteringRecords.{sparing, no_rows, enter-is}
use Rattle.net_loops.proofs.LoopRecords.{it-open-is, loop-exit-is, box-exit-is}
use Rattle.net_uses.proofs.FunctionRecords.{function-is}

-- one token from P of row x to P of row y
token-is : (d : Diagram) (r x y : ℕ) → x < row_count d → y < row_count d → token r (3 * x) (3 * y) ≡ all_patterns d r (passes d (only x) nobody (only y) ∷ [])
unfolding token all_patterns
token-is d r x y l m = sym (rw (append-nil, no_rows d) (unclearing d r 0 0 (marks_p (only x)) (marks_p (only y)) (arc take_arc (3 * x) 1) (arc give_arc (3 * y) 1) (mark-P d take_arc x l) (mark-P d give_arc y m)))

module _ (d : Diagram) (rows items : ℕ) (table file : List ℕ) (h : Holds d rows items table) (u : HoldsUses file d table) (copied : HoldsCopies d table) (ranked : HoldsRanks d table)
    (held : Held d) where
  law : Laws d
  law = laws d held.acc

  -- the arcs of a construct's BRANCH rows
  pub branches-are : (o k : ℕ) (place : ℕ → ℕ) → o < row_count d → opens d o ≡ true → ((q : ℕ) → branch_of d o q ≡ true → branch_place table k q ≡ place q)
      → runs (λ q. cond (branch_of d o q) (arc k (place q) 1) []) (row_count d) ≡ branch_arcs table o k
  unfolding branch_arc span
  branches-are o k place l opened same = runs-span f o (close d o) (row_count d) low (let c = close-in d held.acc o opened in omega arith)
      (λ q m. rw (off q (λ e. let b = h.owner_low q in let w = owned q e in absurd (omega arith))))
      (λ q m. rw (off q (λ e. let w = inside q e in absurd (omega arith))))
      ∙ (runs_same _ _ (close d o - o) (λ i m. turn (o + i) (let c = close-in d held.acc o opened in omega arith)) ∙ sym walked)
    where
      f : ℕ → Records
      f q = cond (branch_of d o q) (arc k (place q) 1) []

      off : (q : ℕ) → (branch_of d o q ≡ true → ⊥) → branch_of d o q ≡ false
      off q n = decide (branch_of d o q) (λ e. absurd (n e)) (λ e. e)

      owned : (q : ℕ) → branch_of d o q ≡ true → owner d q ≡ o
      owned q e = eqb-true (owner d q) o (and_right (is_kind d branch q) (only o (owner d q)) (unfold branch_of in e))

      low : o ≤ close d o
      low = let w = (law.shut o opened).1 in let b = h.owner_low (close d o) in omega arith

      inside : (q : ℕ) → branch_of d o q ≡ true → q < close d o
      inside q e = subst (λ x. q < close d x) (owned q e)
          (branch-inside d held.acc q (same-eq (kind d q) branch (and_left (is_kind d branch q) (only o (owner d q)) (unfold branch_of in e))))

      turn : (q : ℕ) → q < row_count d → f q ≡ cond (is_branch table o q) (arc k (branch_place table k q) 1) []
      turn q m = rw (branch-cell d rows items table h o q m) (decide (branch_of d o q) (λ e. rw (e, same q e)) (λ e. rw e))

      -- the rows of a construct in this one are none of its BRANCH rows
      jumped : (p q : ℕ) → o ≤ p → p < q → q ≤ close_in table p → close_in table p < close d o → branch_arc table o k q ≡ []
      jumped p q i j m n =
          let c = close-in d held.acc o opened in
          let e = close-cell d rows items table h p (omega arith) in
          let ne : o ≢ p = λ z. let y : close_in table p ≡ close d o = rw (← z) (close-cell d rows items table h o l) in absurd (omega arith) in
          rw (branch-cell d rows items table h o q (omega arith), off q (λ b. let w = owned q b in let v = owner-inside d held.acc p q (omega arith) j (omega arith) (omega arith) in absurd (omega arith)))

      walked : branch_arcs table o k ≡ span (branch_arc table o k) o (close d o)
      walked = unfold branch_arcs in rw (close-cell d rows items table h o l) (walk-span table (close d o) (branch_arc table o k) o jumped (close d o) o (omega arith) (omega arith))

  -- a transition at once that enters the next row, and gives nothing else
  next-is : (r : ℕ) (S : ℕ → Bool) (ts : Records) → kind d r ≢ end → weights d take_arc (marks_p S) ≡ ts
      → transition r 0 0 ++ ts ++ entering table (r + 1) ≡ all_patterns d r (passes_to d S nobody (suc r) ∷ [])
  unfolding all_patterns
  next-is r S ts n e = sym (append-nil _ ∙ (enter-is d rows items table h held (suc r) (next-in d held.acc r n) r 0 0 (marks_p S) none ts [] e (count_none d give_arc) ∙ rw (append-nil, add-one r)))

  and-close-is : (r : ℕ) → r < row_count d → kind d r ≡ and_close → and_close_records table r ≡ all_patterns d r (patterns_as d and_close r)
  unfolding and_close_records
  and-close-is r l e = rw (owner-cell d rows items table h r l) (next-is r (branch_of d o) (branch_arcs table o take_arc) (not-kind d r e end refl)
      (mark-each d take_arc (branch_of d o) ∙ branches-are o take_arc (λ q. 3 * q) (let b = h.owner_low r in omega arith) (law.kin r (rw e)) (λ q m. unfold branch_place in refl)))
    where
      o : ℕ
      o = owner d r

  or-close-is : (r : ℕ) → r < row_count d → kind d r ≢ end → or_close_records table r ≡ all_patterns d r (passes_to d (only r) nobody (suc r) ∷ [])
  unfolding or_close_records
  or-close-is r l n = next-is r (only r) (arc take_arc (3 * r) 1) n (mark-P d take_arc r l)

  and-open-is : (r : ℕ) → r < row_count d → kind d r ≡ and_open → and_open_records table r ≡ all_patterns d r (patterns_as d and_open r)
  unfolding and_open_records all_patterns
  and-open-is r l e = rw (no_rows d) (sym (append-nil _ ∙ unclearing d r 0 0 _ _ (arc take_arc (3 * r) 1) (branch_arcs table r give_arc) (mark-P d take_arc r l)
      (mark-each d give_arc (branch_entries d r) ∙ (unfold branch_entries in images (branch_of d r) (λ b. entered_row d (suc b)) (row_count d) (λ q. arc give_arc (3 * q) 1) near inside
      ∙ branches-are r give_arc (λ q. 3 * entered_row d (suc q)) l (rw e) (λ q m. unfold branch_place in next-entry d rows items table h held q (no_end q m))))))
    where
      is-branch : (b : ℕ) → branch_of d r b ≡ true → kind d b ≡ branch
      is-branch b m = same-eq (kind d b) branch (and_left (is_kind d branch b) (only r (owner d b)) (unfold branch_of in m))

      no_end : (b : ℕ) → branch_of d r b ≡ true → kind d b ≢ end
      no_end b m = not-kind d b (is-branch b m) end refl

      owned : (b : ℕ) → branch_of d r b ≡ true → kind d (owner d b) ≡ and_open
      owned b m = rw (eqb-true (owner d b) r (and_right (is_kind d branch b) (only r (owner d b)) (unfold branch_of in m))) e

      near : (b : ℕ) → b < row_count d → branch_of d r b ≡ true → (entered_row d (suc b) ≡ b) ⊎ ((entered_row d (suc b) ≡ suc b) × (branch_of d r (suc b) ≡ false))
      near b k m = go (behind-branch d held.acc b (is-branch b m) (owned b m))
        where
          go : (entered_row d (suc b) ≡ b) ⊎ ((entered_row d (suc b) ≡ suc b) × (is_kind d branch (suc b) ≡ false)) → (entered_row d (suc b) ≡ b) ⊎ ((entered_row d (suc b) ≡ suc b) × (branch_of d r (suc b) ≡ false))
          go (inl z) = inl z
          go (inr z) = inr (z.0, unfold branch_of in rw z.1)

      inside : (b : ℕ) → b < row_count d → branch_of d r b ≡ true → entered_row d (suc b) < row_count d
      inside b k m = next-entered d rows items table h held b (no_end b m)

  -- a token to the next row, where entering that ends no branch that kills
  spared-is : (r x : ℕ) → x < row_count d → kind d r ≢ end → ends_killer d (suc r) ≡ false → token r (3 * x) (entry table (r + 1)) ≡ all_patterns d r (passes_to d (only x) nobody (suc r) ∷ [])
  spared-is r x l n k = let s = sparing d (suc r) k in
      rw (s.0, s.1, next-entry d rows items table h held r n) (token-is d r x (entered_row d (suc r)) l (next-entered d rows items table h held r n))

  onward-is : (r : ℕ) → r < row_count d → kind d r ≡ lp_open → onward table r ≡ all_patterns d r (patterns_as d lp_open r)
  unfolding onward
  onward-is r l e = spared-is r r l (not-kind d r e end refl) (law.quiet r (rw e) (not-kind d r e and_open refl))

  back_is : (r : ℕ) → r < row_count d → back table r ≡ all_patterns d r (passes d (only r) nobody (only (owner d r)) ∷ [])
  unfolding back
  back_is r l = rw (owner-cell d rows items table h r l) (token-is d r r (owner d r) l (let b = h.owner_low r in omega arith))

  branch-is : (r : ℕ) → r < row_count d → kind d r ≡ branch → branch_token table r ≡ all_patterns d r (patterns_as d branch r)
  unfolding branch_token or_token
  branch-is r l e = rw (owner-kind d rows items table h r l, owner-cell d rows items table h r l) (decide (is_kind d or_open (owner d r))
      (λ z. rw z (spared-is r (owner d r) (let b = h.owner_low r in omega arith) (not-kind d r e end refl) (unkilled d held.acc r e)))
      (λ z. rw z (unfold all_patterns in refl)))

  row_is_of : (k : Kind) (r : ℕ) → r < row_count d → kind d r ≡ k → row_as table file rows r (number_of k) ≡ all_patterns d r (patterns_as d k r)
  unfolding row_as
  row_is_of function r l e = function-is d rows items table file h u copied ranked held r l e
  row_is_of and_open r l e = and-open-is r l e
  row_is_of branch r l e = branch-is r l e
  row_is_of and_close r l e = and-close-is r l e
  row_is_of or_open r l e = unfold all_patterns in refl
  row_is_of or_close r l e = or-close-is r l (not-kind d r e end refl)
  row_is_of it_open r l e = it-open-is d rows items table h held r l e
  row_is_of it_close r l e = back_is r l
  row_is_of lp_open r l e = onward-is r l e
  row_is_of lp_close r l e = back_is r l
  row_is_of loop_exit r l e = loop-exit-is d rows items table h held r l e
  row_is_of end r l e = unfold all_patterns in refl
  row_is_of box_open r l e = or-close-is r l (not-kind d r e end refl)
  row_is_of box_close r l e = or-close-is r l (not-kind d r e end refl)
  row_is_of box_exit r l e = box-exit-is d rows items table h held r l e

  pub row_is : (r : ℕ) → r < row_count d → row_records table file rows r ≡ all_patterns d r (patterns_as d (kind d r) r)
  unfolding row_records
  row_is r l = ap (row_as table file rows r) (kind-cell d rows items table h r l) ∙ row_is_of (kind d r) r l refl
