-- How many bytes the records of a row have at most.
use Rattle.std.proofs.Common.{ℕ, suc, ◌+◌, ◌-◌, ◌*◌, ◌≤◌, ◌<◌, zero-le, ◌≡◌, refl, ap, ap₂, sym, ◌∙◌, subst, ◌≢◌, true, cond, List, [], ◌++◌, append_assoc, append-nil, arith, add-one, leb, eqb, leb-true, leb-false}
use Rattle.std.proofs.Math.Bool.{and-false}
use Rattle.effbd.specs.Ranges.{between}
use Rattle.effbd.specs.Diagrams.{Kind, function, and_open, branch, and_close, or_open, or_close, it_open, it_close, lp_open, lp_close, loop_exit, end, box_open, box_close, box_exit, Diagram, number_of, row_count, kind}
use Rattle.effbd.specs.Counts.{count_total}
use Rattle.effbd.specs.Nesting.{owner, close, loop, branch_of, box}
use Rattle.effbd.specs.Nets.{take_arc, clear_arc, give_arc}
use Rattle.effbd.specs.States.{ends_killer, entered_row}
use Rattle.effbd.specs.Patterns.{none, one_at, restores_r}
use Rattle.ranges.specs.Tests.{decide}
use Rattle.agreement.specs.Basics.{not-kind}
use Rattle.agreement.specs.AcceptedFiles.{Held}
use Rattle.agreement.specs.NestingLaws.{laws}
use Rattle.agreement.proofs.Reach.{close-in, next-in, killer-around}
use Rattle.agreement.proofs.TokenSteps.{branch-kind, branch-owner}
use Rattle.diagram_table.specs.Cells.{kind_in, owner_in, close_in, is_branch, kills_in, entered_in}
use Rattle.diagram_table.specs.Held.{Holds, HoldsUses, HoldsCopies, HoldsRanks}
use Rattle.diagram_table.proofs.HeldCells.{in_rows, kind-cell, owner-cell, close-cell}
use Rattle.net_records.specs.Writing.{Records, runs, span}
use Rattle.net_records.specs.Records.{pair, arc}
use Rattle.net_records.proofs.Small.{Small, none-small, more, ◌then◌, either, when, turns, apart, together, transition-small, pair_small, arc-small}
use Rattle.net_clears.specs.Clearing.{restore, revive, kill}
use Rattle.net_entries.specs.Entering.{entering}
use Rattle.net_clears.proofs.Weights.{arc-none, row_arcs, Idle, idle-row}
use Rattle.net_clears.proofs.Kills.{kill-gives, kill-is}
use Rattle.net_entries.proofs.EnteringRecords.{kills-is, owner-is, entering-kill, entering-one}
use Rattle.net_loops.specs.LoopTransitions.{it_turn, kill_turn, it_over, it_open_records, leave, exit_turn, loop_exit_records, box_exit_records}
use Rattle.net_loops.proofs.LoopRecords.{last-in}
use Rattle.net_uses.specs.FunctionTransitions.{function_start, function_end, function_of, function_records}
use Rattle.net_uses.proofs.UseSizes.{few-uses, takes-small, gives-small}
use Rattle.net_rows.specs.Rows.{token, branch_place, branch_arc, branch_arcs, and_open_records, and_close_records, or_token, branch_token, or_close_records, onward, back, row_as, row_records, most_row_bytes}
use Rattle.net_rows.proofs.ConstructWalks.{walk-small}
use Rattle.net_rows.proofs.RowRecords.{branches-are}

token-small : (r p q : ℕ) → Small (token r p q) 26
unfolding token
token-small r p q = transition-small r 0 0 then arc-small take_arc p 1 then arc-small give_arc q 1

turn_small : (r p q w t : ℕ) → Small (it_turn r p q w t) 50
unfolding it_turn
turn_small r p q w t = transition-small r 0 0 then arc-small take_arc (3 * r) 1 then arc-small take_arc p w then arc-small give_arc t _ then arc-small give_arc q w then arc-small give_arc t _

-- one of the two bounds
module _ (rows items counts : ℕ) where
  working : {xs : Records} → Small xs (8 * rows + (52 + 16 * items + 8 * counts)) → Small xs (most_row_bytes rows items counts)
  unfolding most_row_bytes
  working s = decide (leb (52 + 16 * items + 8 * counts) 100) (λ e. rw e (more (let m = leb-true (52 + 16 * items + 8 * counts) 100 e in omega arith) s)) (λ e. rw e s)

  passing : {xs : Records} {n : ℕ} → n ≤ 8 * rows + 100 → Small xs n → Small xs (most_row_bytes rows items counts)
  unfolding most_row_bytes
  passing l s = decide (leb (52 + 16 * items + 8 * counts) 100) (λ e. rw e (more l s)) (λ e. rw e (more (let m = leb-false (52 + 16 * items + 8 * counts) 100 e in omega arith) s))

-- with so many rows, items and counts as can be
pub row-most : (rows items counts : ℕ) → rows ≤ 64 → items ≤ 16 → counts ≤ 1024 → most_row_bytes rows items counts ≤ 9012
unfolding most_row_bytes
row-most rows items counts l m n = decide (leb (52 + 16 * items + 8 * counts) 100) (λ e. rw e (omega arith)) (λ e. rw e (omega arith))

module _ (table file : List ℕ) (rows : ℕ) where
  branch-small : (o k q : ℕ) → Small (branch_arc table o k q) 8
  unfolding branch_arc
  branch-small o k q = either (is_branch table o q) (arc-small k _ 1) (more zero-le none-small)

  branches-small : (o k : ℕ) → close_in table o ≤ rows → Small (branch_arcs table o k) (8 * rows)
  unfolding branch_arcs
  branches-small o k l = more (omega arith) (walk-small table (close_in table o) (branch_arc table o k) 8 (close_in table o) o (branch-small o k))

  restore-small : (q : ℕ) → Small (restore table q) 8
  unfolding restore
  restore-small q = either (eqb (kind_in table q) (number_of it_open)) (arc-small give_arc _ _) (more zero-le none-small)

  revive-small : (o q : ℕ) → Small (revive table o q) 8
  unfolding revive
  revive-small o q = either (is_branch table o q) (arc-small give_arc _ 1) (restore-small q)

  kill-small : (o : ℕ) → close_in table o ≤ rows → Small (kill table o) (8 + 8 * rows)
  unfolding kill span
  kill-small o l = more (omega arith) (pair_small clear_arc _ _ then turns _ 8 (close_in table o - (o + 1)) (λ i m. revive-small o (o + 1 + i)))

  kill-turn-small : (r weight o : ℕ) → close_in table o ≤ rows → Small (kill_turn table r weight o) (34 + 8 * rows)
  unfolding kill_turn
  kill-turn-small r weight o l = more (omega arith) (transition-small r 0 0 then arc-small take_arc (3 * r) 1 then arc-small take_arc (3 * r + 1) weight then kill-small o l)

  restores-small : (o c : ℕ) → c < rows → Small (span (restore table) o (c + 1)) (8 * rows)
  unfolding span
  restores-small o c l = more (omega arith) (turns _ 8 (c + 1 - o) (λ i m. restore-small (o + i)))

  exit_small : (r o c t : ℕ) → c < rows → Small (leave table r o c t) (42 + 8 * rows)
  unfolding leave
  exit_small r o c t l = more (omega arith) (transition-small r 0 0 then arc-small take_arc (3 * r) 1 then pair_small clear_arc _ _ then arc-small give_arc t _
      then restores-small o c l then arc-small give_arc t _)

module _ (d : Diagram) (rows items : ℕ) (table file : List ℕ) (h : Holds d rows items table) (u : HoldsUses file d table) (copied : HoldsCopies d table) (ranked : HoldsRanks d table)
    (held : Held d) where
  -- the AND of a branch that kills is one of the rows
  module _ (q : ℕ) (l : q < row_count d) where
    kill-low : kills_in table (entered_in table q) ≡ true → close_in table (owner_in table (entered_in table q)) ≤ rows
    kill-low e = let k = sym (kills-is d rows items table h held q l) ∙ e in
        rw (owner-is d rows items table h held q l k, close-cell d rows items table h (owner d q) (let b = h.owner_low q in omega arith)) (h.close_low (owner d q))

    entering-small : Small (entering table q) (8 + 8 * rows)
    unfolding entering
    entering-small = when (kills_in table (entered_in table q)) (λ e. kill-small table file rows _ (kill-low e)) (more (omega arith) (arc-small give_arc _ 1))

  next_small : (r : ℕ) → kind d r ≢ end → Small (entering table (r + 1)) (8 + 8 * rows)
  next_small r n = let b = next-in d held.acc r n in rw (add-one r) (entering-small (suc r) b)

  function-small : (r : ℕ) → r < row_count d → kind d r ≡ function → Small (function_records table file rows r) (8 * rows + (52 + 16 * items + 8 * count_total d))
  unfolding function_records function_of function_start function_end
  function-small r l e =
      let few = few-uses d rows items table file h u copied ranked held r l e in
      let a = h.records.items_are in
      more (omega arith)
      ((transition-small r 0 0 then arc-small take_arc (3 * r) 1 then takes-small table rows r _ then arc-small give_arc (3 * r + 1) 1)
      then (transition-small r _ _ then arc-small take_arc (3 * r + 1) 1 then next_small r (not-kind d r e end refl) then gives-small d rows items table file h u copied ranked held r l e))

  -- an AND close that kills: no row is both one of its own BRANCH rows and one that the kill gives to
  module _ (r : ℕ) (l : r < row_count d) (e : kind d r ≡ and_close) (k : ends_killer d (suc r) ≡ true) where
    o : ℕ
    o = owner d r

    A : ℕ
    A = owner d (suc r)

    killer : (kind d A ≡ and_open) × (branch_of d A (entered_row d (suc r)) ≡ true)
    unfolding A
    killer = (laws d held.acc).killer (suc r) k

    own : ℕ → Records
    own q = cond (branch_of d o q) (arc take_arc (3 * q) 1) []

    given : ℕ → Records
    given = row_arcs give_arc (one_at (branch_of d A)) none (restores_r d (between A (close d A)))

    given-small : (q : ℕ) → Small (given q) 8
    unfolding given row_arcs
    given-small q = rw (arc-none give_arc (3 * q + 1) refl) (decide (branch_of d A q)
        (λ b. rw (b, branch-kind d A q b, and-false (between A (close d A) q), arc-none give_arc (3 * q + 2) refl, append-nil) (arc-small give_arc _ 1))
        (λ b. rw (b, arc-none give_arc (3 * q) refl) (arc-small give_arc _ _)))

    one_of : (q : ℕ) → Small (own q ++ given q) 8
    unfolding own given
    one_of q = decide (branch_of d o q)
        (λ b. rw (b, idle-row give_arc (idle b), append-nil) (arc-small take_arc _ 1))
        (λ b. rw b (given-small q))
      where
        idle : branch_of d o q ≡ true → Idle (one_at (branch_of d A)) none (restores_r d (between A (close d A))) q
        idle b = record {
          at_p = decide (branch_of d A q)
              (λ z. absurd (killer-around d held.acc r (rw e) k (unfold o A in (sym (branch-owner d A q z) ∙ branch-owner d o q b))))
              (λ z. rw z);
          at_q = refl;
          at_r = rw (branch-kind d o q b, and-false (between A (close d A) q));
        }

    close-small : Small (branch_arcs table o take_arc ++ kill table A) (8 + 8 * rows)
    unfolding own given o A
    close-small = let n = h.records.rows_are in
        subst (λ x. Small x (8 + 8 * rows)) (ap₂ ◌++◌
        (branches-are d rows items table file h u copied ranked held (owner d r) take_arc (λ q. 3 * q) (let b = h.owner_low r in omega arith) ((laws d held.acc).kin r (rw e)) (λ q m. unfold branch_place in refl))
        (ap (λ (x : Records). pair clear_arc (3 * (owner d (suc r) + 1)) (3 * (close d (owner d (suc r)) - 1) + 2) ++ x) (kill-gives d rows items table h held (owner d (suc r)) killer.0)
        ∙ sym (kill-is d rows items table h held (owner d (suc r)) killer.0)))
        (more (omega arith) (apart (runs own (row_count d)) _ (runs given (row_count d)) (together own given 8 (row_count d) (λ q b. one_of q)) (pair_small clear_arc _ _)))

  close-all : (r : ℕ) → r < row_count d → kind d r ≡ and_close → Small (branch_arcs table (owner d r) take_arc ++ entering table (suc r)) (8 + 8 * rows)
  close-all r l e = let b = next-in d held.acc r (not-kind d r e end refl) in decide (ends_killer d (suc r))
      (λ k. rw (entering-kill d rows items table h held (suc r) b k) (unfold o A in close-small r l e k))
      (λ k. rw (entering-one d rows items table h held (suc r) b k) (more (omega arith) (branches-small table file rows (owner d r) take_arc
      (rw (close-cell d rows items table h (owner d r) (let a = h.owner_low r in omega arith)) (h.close_low (owner d r))) then arc-small give_arc _ 1)))

  most : ℕ
  most = most_row_bytes rows items (count_total d)

  other : {xs : Records} {n : ℕ} → n ≤ 8 * rows + 100 → Small xs n → Small xs most
  unfolding most
  other l s = passing rows items (count_total d) l s

  onward-small : (r : ℕ) → kind d r ≢ end → Small (or_close_records table r) most
  unfolding or_close_records
  onward-small r n = other (omega arith) (transition-small r 0 0 then arc-small take_arc (3 * r) 1 then next_small r n)

  row_small_of : (k : Kind) (r : ℕ) → r < row_count d → kind d r ≡ k → Small (row_as table file rows r (number_of k)) most
  unfolding row_as and_open_records and_close_records branch_token or_token or_close_records onward back it_open_records it_over loop_exit_records exit_turn box_exit_records
  row_small_of function r l e = unfold most in working rows items (count_total d) (function-small r l e)
  row_small_of and_open r l e = other (omega arith) (transition-small r 0 0 then arc-small take_arc (3 * r) 1 then branches-small table file rows r give_arc (rw (close-cell d rows items table h r l) (h.close_low r)))
  row_small_of branch r l e = other (omega arith) (either (eqb (kind_in table (owner_in table r)) (number_of or_open)) (token-small r _ _) (more zero-le none-small))
  row_small_of and_close r l e = rw (owner-cell d rows items table h r l, add-one r, append_assoc) (other (omega arith) (transition-small r 0 0 then close-all r l e))
  row_small_of or_open r l e = other zero-le none-small
  row_small_of or_close r l e = onward-small r (not-kind d r e end refl)
  row_small_of it_open r l e = let b = close-in d held.acc r (rw e) in
      rw (close-cell d rows items table h r l, add-one (close d r)) (other (omega arith) (turn_small r _ _ _ _
      then when (kills_in table (entered_in table (suc (close d r)))) (λ k. more {n = 50 + 8 * rows} (omega arith) (kill-turn-small table file rows r _ _ (kill-low (suc (close d r)) b k))) (more (omega arith) (turn_small r _ _ _ _))))
  row_small_of it_close r l e = other (omega arith) (token-small r _ _)
  row_small_of lp_open r l e = other (omega arith) (token-small r _ _)
  row_small_of lp_close r l e = other (omega arith) (token-small r _ _)
  row_small_of loop_exit r l e =
      let a = h.loop_low r in
      let c = close-in d held.acc (loop d r) (rw ((laws d held.acc).looped r e).0) in
      let b = h.records.rows_are in
      rw (h.loops r (in_rows d rows items table h r l) (rw e), close-cell d rows items table h (loop d r) (omega arith), add-one (close d (loop d r)))
      (other (omega arith) (when (kills_in table (entered_in table (suc (close d (loop d r))))) (λ k. more {n = 42 + 8 * rows} (omega arith) (kill-turn-small table file rows r _ _ (kill-low (suc (close d (loop d r))) c k)))
      (exit_small table file rows r (loop d r) (close d (loop d r)) _ (omega arith))))
  row_small_of end r l e = other zero-le none-small
  row_small_of box_open r l e = onward-small r (not-kind d r e end refl)
  row_small_of box_close r l e = onward-small r (not-kind d r e end refl)
  row_small_of box_exit r l e =
      let c = last-in d rows items table h held (box d r) in
      let b = h.records.rows_are in
      rw (h.scenario_lasts r (in_rows d rows items table h r l) (rw e)) (other (omega arith) (exit_small table file rows r _ _ _ (omega arith)))

  pub row_small : (r : ℕ) → r < row_count d → Small (row_records table file rows r) (most_row_bytes rows items (count_total d))
  unfolding row_records most
  row_small r l = rw (kind-cell d rows items table h r l) (row_small_of (kind d r) r l refl)
