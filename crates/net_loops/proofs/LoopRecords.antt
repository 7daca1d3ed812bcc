-- THEOREM (it-open-is, loop-exit-is, box-exit-is): the records of an IT open, of an LE and of an EXIT over the table are those of their patterns.
use Rattle.std.proofs.Common.{ℕ, suc, ◌+◌, ◌*◌, ◌-◌, ◌≤◌, ◌<◌, ◌≡◌, refl, ap, ap₂, sym, ◌∙◌, ◌≢◌, ◌⊎◌, inl, inr, Bool, true, false, List, [], ◌++◌, append_assoc, append-nil, arith, add-one, leb, ltb, eqb-true, leb-true, le-leb, ltb-true, ltb-false, ne_eqb}
use Rattle.std.proofs.Math.Path.{fun_ext}
use Rattle.std.proofs.lemmas.Bool.{lt-leb}
use Rattle.effbd.specs.Ranges.{only, within, nobody, either}
use Rattle.effbd.specs.Diagrams.{Diagram, and_open, branch, it_open, loop_exit, end, box_exit, row_count, kind, is_kind, turn_limit}
use Rattle.effbd.specs.Layout.{Place, by_place}
use Rattle.effbd.specs.Nesting.{owner, close, branch_of, loop, in_loop, box, first_outlet, scenario, outlet}
use Rattle.effbd.specs.States.{ends_killer, entered_row, killed, entered}
use Rattle.effbd.specs.Nets.{take_arc, give_arc}
use Rattle.effbd.specs.Patterns.{none, one_at, weight_of, nowhere, at_once, clears_rows, marks_p, restores_r, passes_to, patterns_as}
use Rattle.ranges.specs.Tests.{decide, and_left, and_right}
use Rattle.ranges.specs.RangeLaws.{only-refl, least-low}
use Rattle.agreement.specs.Basics.{not-kind}
use Rattle.agreement.specs.AcceptedFiles.{Held}
use Rattle.agreement.specs.Structure.{Laws, opens}
use Rattle.agreement.specs.NestingLaws.{laws}
use Rattle.agreement.proofs.Reach.{beyond, behind-branch, close-in, covered, entered-in, next-in, outside}
use Rattle.agreement.proofs.TokenSteps.{branch_in, branch-kind, branch-owner}
use Rattle.diagram_table.specs.Cells.{entered_in}
use Rattle.diagram_table.specs.Held.{Holds}
use Rattle.diagram_table.proofs.HeldCells.{in_rows, kind-cell, owner-cell, first_cell, close-cell, entered-cell}
use Rattle.net_records.specs.Writing.{Records, runs, span}
use Rattle.net_records.specs.Records.{arc}
use Rattle.net_records.proofs.Runs.{runs_same, runs-span}
use Rattle.net_loops.specs.LoopTransitions.{early, late, it_turn, kill_turn, it_over, it_open_records, leave, exit_turn, loop_exit_records, box_exit_records}
use Rattle.net_clears.specs.Clearing.{restore}
use Rattle.net_clears.proofs.Weights.{arc-none, weights, count_none, at-P, mark-P}
use Rattle.net_clears.proofs.PatternRecords.{pattern_records, all_patterns, one-clear, unclearing}
use Rattle.net_entries.proofs.Entries.{entry-cell, next-entry, next-entered}
use Rattle.net_entries.proofs.EnteringRecords.{sparing, no_rows, kills-is, owner-is, entering-kill, enter-is}
use Rattle.net_loops.proofs.EntryGives.{entry-among, it-gives}

-- an IT open: P and what it takes at Q or R; what it gives there, and the entry
turn_is : (d : Diagram) (r e from into weight : ℕ) (tb tc gb gc : ℕ → ℕ) → r < row_count d → e < row_count d
    → ((q : ℕ) → q ≢ r → (tb q ≡ 0) × (tc q ≡ 0)) → ((q : ℕ) → q ≢ r → (gb q ≡ 0) × (gc q ≡ 0))
    → arc take_arc (3 * r + 1) (tb r) ++ arc take_arc (3 * r + 2) (tc r) ≡ arc take_arc from weight
    → arc give_arc (3 * r + 1) (gb r) ++ arc give_arc (3 * r + 2) (gc r) ≡ arc give_arc into weight
    → pattern_records d r (at_once (by_place (one_at (only r)) tb tc none) nowhere (by_place (one_at (only e)) gb gc none)) ≡ it_turn r from into weight (3 * e)
unfolding it_turn
turn_is d r e from into weight tb tc gb gc l m t g a b = unclearing d r 0 0 _ _ (arc take_arc (3 * r) 1 ++ arc take_arc from weight)
    (arc give_arc (3 * e) (early (3 * e) (3 * r)) ++ (arc give_arc into weight ++ arc give_arc (3 * e) (late (3 * e) (3 * r))))
    (at-P d take_arc r tb tc none l t ∙ rw (count_none d take_arc, append-nil, a))
    (it-gives d gb gc e r m l g ∙ rw b) ∙ simp append_assoc

-- a set that another covers adds nothing to it; the empty one adds nothing
merged : (S W : ℕ → Bool) → ((x : ℕ) → S x ≡ true → W x ≡ true) → either S W ≡ W
merged S W h = fun_ext (λ x. decide (S x) (λ e. rw (e, h x e)) (λ e. rw e))

alone : (S : ℕ → Bool) → either S nobody ≡ S
alone S = fun_ext (λ x. decide (S x) (λ e. rw e) (λ e. rw e))

module _ (d : Diagram) (rows items : ℕ) (table : List ℕ) (h : Holds d rows items table) (held : Held d) where
  law : Laws d
  law = laws d held.acc

  -- a transition of an IT open or LE that ends a branch that kills
  module _ (r q : ℕ) (l : r < row_count d) (m : q < row_count d) (e : ends_killer d q ≡ true) where
    kill-turn-is : (take : Place → ℕ) (weight : ℕ) → weights d take_arc take ≡ arc take_arc (3 * r) 1 ++ arc take_arc (3 * r + 1) weight
        → pattern_records d r (at_once take (clears_rows d (killed d q)) (by_place (one_at (entered d q)) none (restores_r d (killed d q)) none)) ≡ kill_turn table r weight (owner d q)
    unfolding kill_turn
    kill-turn-is take weight takes = enter-is d rows items table h held q m r 0 0 take none (arc take_arc (3 * r) 1 ++ arc take_arc (3 * r + 1) weight) [] takes (count_none d give_arc)
        ∙ rw (entering-kill d rows items table h held q m e, append-nil) (simp append_assoc)

  pub it-open-is : (r : ℕ) → r < row_count d → kind d r ≡ it_open → it_open_records table r ≡ all_patterns d r (patterns_as d it_open r)
  unfolding it_open_records all_patterns
  it-open-is r l e = sym (ap₂ ◌++◌ (first ∙ ap (it_turn r (3 * r + 2) (3 * r + 1) 1) (sym (next-entry d rows items table h held r no_end)))
      (append-nil _ ∙ (second ∙ ap (it_over table r) (sym (rw (close-cell d rows items table h r l, add-one (close d r)))))))
    where
      no_end : kind d r ≢ end
      no_end = not-kind d r e end refl

      q : ℕ
      q = suc (close d r)

      behind : q < row_count d
      behind = close-in d held.acc r (rw e)

      first : pattern_records d r (at_once (by_place (one_at (only r)) none (one_at (only r)) none) (clears_rows d (killed d (suc r))) (by_place (one_at (entered d (suc r))) (one_at (only r)) (restores_r d (killed d (suc r))) none))
          ≡ it_turn r (3 * r + 2) (3 * r + 1) 1 (3 * entered_row d (suc r))
      first = let s = sparing d (suc r) (law.quiet r (rw e) (not-kind d r e and_open refl)) in
          rw (s.0, s.1, no_rows d)
          (turn_is d r (entered_row d (suc r)) (3 * r + 2) (3 * r + 1) 1 none (one_at (only r)) (one_at (only r)) none l (next-entered d rows items table h held r no_end)
          (λ x n. (refl, rw (ne_eqb x r n))) (λ x n. (rw (ne_eqb x r n), refl))
          (rw (arc-none take_arc (3 * r + 1) refl, only-refl r)) (rw (arc-none give_arc (3 * r + 2) refl, only-refl r, append-nil)))

      own : restores_r d (only r) ≡ weight_of r (turn_limit d r)
      own = fun_ext (λ x. decide (only r x) (λ z. rw (z, eqb-true x r z, e)) (λ z. rw z))

      -- its own rows are among those that it kills
      mine : ends_killer d q ≡ true → (x : ℕ) → only r x ≡ true → killed d q x ≡ true
      mine k x z = covered d held.acc r x (rw e) k (let w = (law.shut r (rw e)).1 in let b = h.owner_low (close d r) in let y = eqb-true x r z in rw (le-leb r x (omega arith), le-leb x (close d r) (omega arith)))

      second : pattern_records d r (at_once (by_place (one_at (only r)) (weight_of r (turn_limit d r)) none none) (clears_rows d (killed d q)) (by_place (one_at (entered d q)) none (restores_r d (either (only r) (killed d q))) none))
          ≡ it_over table r (entered_in table q)
      second = unfold it_over in decide (ends_killer d q)
          (λ k. rw (merged (only r) (killed d q) (mine k), kills-is d rows items table h held q behind, k, owner-is d rows items table h held q behind k, first_cell d rows items table h r l)
          (kill-turn-is r q l behind k _ (turn_limit d r)
          (at-P d take_arc r (weight_of r (turn_limit d r)) none none l (λ x n. (rw (ne_eqb x r n), refl)) ∙ rw (arc-none take_arc (3 * r + 2) refl, only-refl r, count_none d take_arc, append-nil, append-nil))))
          (λ k. let s = sparing d q k in
          rw (s.0, s.1, alone (only r), own, no_rows d, kills-is d rows items table h held q behind, k, entered-cell d rows items table h q behind, first_cell d rows items table h r l)
          (turn_is d r (entered_row d q) (3 * r + 1) (3 * r + 2) (turn_limit d r) (weight_of r (turn_limit d r)) none none (weight_of r (turn_limit d r)) l (entered-in d held.acc q behind)
          (λ x n. (rw (ne_eqb x r n), refl)) (λ x n. (refl, rw (ne_eqb x r n)))
          (rw (arc-none take_arc (3 * r + 2) refl, only-refl r, append-nil)) (rw (arc-none give_arc (3 * r + 1) refl, only-refl r))))

  -- an LE or EXIT r that leaves the rows o to c and enters none of them, but row t
  module _ (r o c t : ℕ) (l : r < row_count d) (low : o ≤ c) (cl : c < row_count d) (tl : t < row_count d) (past : o < t → c < t) where
    out : (q : ℕ) → (q < o) ⊎ (c < q) → within o c q ≡ false
    out q (inl m) = rw (lt-leb o q m)
    out q (inr m) = rw (le-leb o q (omega arith), lt-leb q c m)

    g : ℕ → Records
    g q = arc give_arc (3 * q + 1) 0 ++ arc give_arc (3 * q + 2) (restores_r d (within o c) q)

    turn : (q : ℕ) → o ≤ q → q ≤ c → g q ≡ restore table q
    unfolding g restore
    turn q a b = rw (arc-none give_arc (3 * q + 1) refl, le-leb o q a, le-leb q c b, kind-cell d rows items table h q (omega arith), first_cell d rows items table h q (omega arith))
        (decide (is_kind d it_open q) (λ z. rw z) (λ z. rw z (arc-none give_arc (3 * q + 2) refl)))

    off : (q : ℕ) → within o c q ≡ false → g q ≡ []
    unfolding g
    off q z = rw (arc-none give_arc (3 * q + 1) refl, z) (arc-none give_arc (3 * q + 2) refl)

    restores : runs g (row_count d) ≡ span (restore table) o (c + 1)
    restores = unfold span in (runs-span g o (c + 1) (row_count d) (omega arith) (omega arith) (λ q m. off q (out q (inl m))) (λ q m. off q (out q (inr (omega arith))))
        ∙ (unfold span in runs_same _ _ (c + 1 - o) (λ i m. turn (o + i) (omega arith) (omega arith))))

    gives : weights d give_arc (by_place (one_at (only t)) none (restores_r d (within o c)) none)
        ≡ arc give_arc (3 * t) (early (3 * t) (3 * o)) ++ (span (restore table) o (c + 1) ++ arc give_arc (3 * t) (late (3 * t) (3 * o)))
    gives = entry-among d none (restores_r d (within o c)) t o tl
        (λ m q k. (refl, rw (out q (inl (omega arith))))) (λ m q k. (refl, let w = past m in rw (out q (inr (omega arith)))))
        ∙ (unfold g in rw restores)

    leave-is : pattern_records d r (at_once (marks_p (only r)) (clears_rows d (within o c)) (by_place (one_at (only t)) none (restores_r d (within o c)) none)) ≡ leave table r o c (3 * t)
    leave-is = unfold leave pattern_records in rw (mark-P d take_arc r l, one-clear d o c low cl held.rows, gives) (simp append_assoc)

  pub loop-exit-is : (r : ℕ) → r < row_count d → kind d r ≡ loop_exit → loop_exit_records table r ≡ all_patterns d r (patterns_as d loop_exit r)
  unfolding loop_exit_records all_patterns
  loop-exit-is r l e = rw (h.loops r (in_rows d rows items table h r l) (rw e), close-cell d rows items table h o ol, add-one c, append-nil) (sym left)
    where
      o : ℕ
      o = loop d r

      c : ℕ
      c = close d o

      ol : o < row_count d
      ol = let b = h.loop_low r in omega arith

      opened : opens d o ≡ true
      opened = rw (law.looped r e).0

      cl : suc c < row_count d
      cl = close-in d held.acc o opened

      low : o ≤ c
      low = let w = (law.shut o opened).1 in let b = h.owner_low c in omega arith

      t : ℕ
      t = entered_row d (suc c)

      -- the entry is not in the loop
      past : o < t → c < t
      past m = go (beyond d held.acc o opened)
        where
          go : (t < o) ⊎ (c < t) → c < t
          go (inl z) = absurd (omega arith)
          go (inr z) = z

      left : pattern_records d r (passes_to d (only r) (in_loop d r) (suc c)) ≡ exit_turn table r o c (entered_in table (suc c))
      left = unfold exit_turn in decide (ends_killer d (suc c))
          (λ k. rw (merged (in_loop d r) (killed d (suc c)) (λ x z. covered d held.acc o x opened k z), kills-is d rows items table h held (suc c) cl, k, owner-is d rows items table h held (suc c) cl k)
          (kill-turn-is r (suc c) l cl k _ 0 (mark-P d take_arc r l ∙ rw (arc-none take_arc (3 * r + 1) refl, append-nil))))
          (λ k. let s = sparing d (suc c) k in
          rw (s.0, s.1, alone (in_loop d r), kills-is d rows items table h held (suc c) cl, k, entered-cell d rows items table h (suc c) cl)
          (leave-is r o c t l low (let w = cl in omega arith) (entered-in d held.acc (suc c) cl) past))

  -- the last row of a scenario is there
  pub last-in : (o : ℕ) → first_outlet d o - 1 < row_count d
  unfolding first_outlet
  last-in o = let a = h.records.some_row in let b = h.records.rows_are in let w = least-low (row_count d) (branch_of d o) in omega arith

  pub box-exit-is : (r : ℕ) → r < row_count d → kind d r ≡ box_exit → box_exit_records table r ≡ all_patterns d r (patterns_as d box_exit r)
  unfolding box_exit_records all_patterns
  box-exit-is r l e = rw (h.outlets r (in_rows d rows items table h r l) (rw e), owner-cell d rows items table h b bl, own, h.scenario_lasts r (in_rows d rows items table h r l) (rw e), entry-cell d rows items table h b ql, append-nil) (sym left)
    where
      o : ℕ
      o = box d r

      b : ℕ
      b = outlet d r

      c : ℕ
      c = first_outlet d o - 1

      led : branch_of d o b ≡ true
      led = (law.led r e).1

      kb : kind d b ≡ branch
      kb = branch-kind d o b led

      own : owner d b ≡ o
      own = branch-owner d o b led

      bl : b < row_count d
      bl = branch_in d o b led

      ql : suc b < row_count d
      ql = next-in d held.acc b (not-kind d b kb end refl)

      t : ℕ
      t = entered_row d (suc b)

      begun : (o ≤ r) × (r < first_outlet d o)
      begun = (leb-true o r (and_left (leb o r) _ (law.boxed r e)), ltb-true r (first_outlet d o) (and_right (leb o r) _ (law.boxed r e)))

      rows_of : scenario d o ≡ within o c
      rows_of = fun_ext (λ x. decide (ltb x (first_outlet d o))
          (λ z. let w = ltb-true x (first_outlet d o) z in rw (z, le-leb x c (omega arith)))
          (λ z. let w = ltb-false x (first_outlet d o) z in let v = begun.1 in rw (z, lt-leb x c (omega arith))))

      left : pattern_records d r (passes_to d (only r) (scenario d o) (suc b)) ≡ leave table r o c (3 * t)
      left = let s = sparing d (suc b) (behind-branch d held.acc b kb) in let v = begun.0 in let w = begun.1 in
          rw (s.0, s.1, alone (scenario d o), rows_of)
          (leave-is r o c t l (omega arith) (last-in o) (entered-in d held.acc (suc b) ql) (λ m. let x = outside d held.acc r e in omega arith))
