-- What the call answers, and what it leaves in the number lent for t: at a file's refusal, at 40 and 41, at 42, and where the log stood.
use Rattle.std.specs.Prelude.{ℕ, zero, suc, ◌%◌, ◌≤◌, ◌≡◌, ◌≢◌, Bool, true, false, not, cond, ◌&&◌, List, [], ◌++◌, length, drop, leb, ltb, eqb, Option, Some, None, Err}
use Rattle.std.specs.Option.{option_or}
use Rattle.std.proofs.Common.{refl, sym, ◌∙◌, ap, ap₂, subst, arith}
use mathlib.Core.List.{append-nil}
use lib.ListN.{drop_of_length-le}
use borrow.Author.Tests.{eqb-true, ne_eqb, leb-true, ltb-true, ltb-false}
use Rattle.effbd.specs.declared.refusals.Reason.{Reason}
use Rattle.effbd.specs.declared.refusals.Refusal.{Refusal}
use Rattle.effbd.specs.Answers.{Outcome, accepted, refused, is_accepted, unless, and_then, number, fault}
use Rattle.ranges.specs.Reasons.{number-some}
use Rattle.effbd.specs.Diagrams.{Diagram, function, row, is_kind}
use Rattle.effbd.specs.States.{fresh_words}
use Rattle.effbd.specs.Logs.{Setpoint, setpoints, move_count, most_moves, log_fault, played}
use Rattle.effbd.specs.Starts.{Start, starts_from, starts, times_of, Busiest, busiest, starts_of, starts_told_as, log_starts}
use Rattle.ranges.specs.Tests.{decide, and_right, clash}
use Rattle.agreement.specs.Basics.{kind-past}
use Rattle.diagram_table.specs.Cells.{kind_in}
use Rattle.diagram_table.specs.Held.{HoldsPlant}
use Rattle.diagram_file.specs.Tables.{DiagramOf}
use Rattle.diagram_file.proofs.Promises.{turned-away}
use Rattle.log_laws.specs.LogMoves.{setpoints-many}
use Rattle.log_laws.specs.Spans.{Most, most-one, log-busiest}
use Rattle.logs.specs.Walk.{Walk}
use Rattle.logs.proofs.Walking.{walk_ends}
use Rattle.starts.specs.Faults.{not_function, starts_fault}
use Rattle.starts.specs.Windows.{best_of}
use Rattle.starts.specs.declared.spans.Window.{Window}
use Rattle.starts.specs.Counting.{no_gaps, no_window, Counting}
use Rattle.starts.proofs.CountTurns.{count-begins}

-- the first of two faults
pub first-fault : (a b o : Option Reason) {f n : ℕ} → o ≡ option_or a b → fault a ≡ f → fault b ≡ n → fault o ≡ cond (eqb f 0) n f
first-fault a b o e ea eb = ap fault e ∙ (either a ∙ ap₂ (λ (x y : ℕ). cond (eqb x 0) y x) ea eb)
  where
    either : (a : Option Reason) → fault (option_or a b) ≡ cond (eqb (fault a) 0) (fault b) (fault a)
    either None = refl
    either (Some r) = rw (ne_eqb (number r) 0 (number-some r))

-- what a call is told and leaves
abbrev pub Tells : (file log : List ℕ) (row before : ℕ) (answer : Outcome ℕ) (after : ℕ) → Type 0
Tells file log row before answer after = (answer ≡ (log_starts file log row before).answer) × (after ≡ (log_starts file log row before).at)

module _ (file log : List ℕ) (r before : ℕ) where
  tells : (o : Outcome (List Start)) → starts_of file log r ≡ o → Tells file log r before (starts_told_as before o).answer (starts_told_as before o).at
  unfolding log_starts
  tells o e = (sym (ap (λ (x : Outcome (List Start)). (starts_told_as before x).answer) e), sym (ap (λ (x : Outcome (List Start)). (starts_told_as before x).at) e))

  -- a refusal leaves the number
  tells-refused : (n v : ℕ) → starts_of file log r ≡ refused n v → Tells file log r before (refused n v) before
  tells-refused n v e = tells (refused n v) e

  -- THEOREM: a file's own refusal
  pub file-off : (e : Refusal) → DiagramOf file (Err e) → Tells file log r before (refused (number e.reason) e.value) before
  file-off e w = tells-refused (number e.reason) e.value (unfold starts_of in rw (turned-away file e w))

  module _ (rows items : ℕ) (table : List ℕ) (h : HoldsPlant file rows items table) where
    abbrev d : Diagram
    d = h.held.diagram

    -- the table's kind is the diagram's; a number that no row has stands for an END
    function-is : not_function table rows r ≡ cond (is_kind d function r) 0 41
    unfolding not_function
    function-is = decide (ltb r rows)
        (λ y. rw (y, h.held.holds.records.kinds r (ltb-true r rows y)))
        (λ y. rw (y, kind-past d r (let z = ltb-false r rows y in let e = h.held.holds.records.rows_are in omega arith)))

    rest : Outcome (List Start)
    rest = and_then (played d log) (λ last. accepted (starts d r log))

    opened : starts_of file log r ≡ unless (log_fault log) 0 (unless (not_function table rows r) 0 rest)
    unfolding starts_of rest
    opened = rw (h.held.read, function-is)

    both : (f n : ℕ) → unless f 0 (unless n 0 rest) ≡ unless (cond (eqb f 0) n f) 0 rest
    both zero n = refl
    both (suc f) n = rw (ne_eqb (suc f) 0 (λ e. absurd (omega arith)))

    -- THEOREM: 40, then 41
    pub fault-off : (f : ℕ) → f ≡ starts_fault table rows log r → f ≢ 0 → Tells file log r before (refused f 0) before
    unfolding starts_fault
    fault-off f e n = tells-refused f 0 (opened ∙ (both (log_fault log) (not_function table rows r) ∙ (ap (λ (x : ℕ). unless x 0 rest) (sym e) ∙ off f n)))
      where
        off : (x : ℕ) → x ≢ 0 → unless x 0 rest ≡ refused x 0
        off zero m = absurd (m refl)
        off (suc x) m = refl

    clean-on : starts_fault table rows log r ≡ 0 → starts_of file log r ≡ rest
    unfolding starts_fault
    clean-on e = opened ∙ (both (log_fault log) (not_function table rows r) ∙ ap (λ (f : ℕ). unless f 0 rest) e)

    -- a log with no fault has at most 65,535 moves
    pub clean-few : starts_fault table rows log r ≡ 0 → move_count log ≤ most_moves
    unfolding starts_fault
    clean-few e = go (log_fault log) refl e
      where
        short : (b : Bool) → b ≡ (eqb (length log % 4) 0 && leb (move_count log) most_moves) → ◌≡◌ {A = ℕ} (cond b 0 40) 0 → move_count log ≤ most_moves
        short true z f = leb-true (move_count log) most_moves (and_right (eqb (length log % 4) 0) (leb (move_count log) most_moves) (sym z))
        short false z f = absurd (omega arith)

        go : (f : ℕ) → f ≡ log_fault log → cond (eqb f 0) (not_function table rows r) f ≡ 0 → move_count log ≤ most_moves
        go zero z y = short _ refl (unfold log_fault in sym z)
        go (suc f) z y = absurd (let w : cond (eqb (suc f) 0) (not_function table rows r) (suc f) ≡ suc f = rw (ne_eqb (suc f) 0 (λ q. absurd (omega arith))) in omega arith)

    -- a row with no fault is a FUNCTION
    clean-function : starts_fault table rows log r ≡ 0 → kind_in table r ≡ 16
    unfolding starts_fault not_function
    clean-function e = go (log_fault log) e
      where
        kind-is : (b : Bool) → ltb r rows ≡ b → ◌≡◌ {A = ℕ} (cond b (cond (eqb (kind_in table r) 16) 0 41) 41) 0 → kind_in table r ≡ 16
        kind-is true x y = decide (eqb (kind_in table r) 16) (λ z. eqb-true (kind_in table r) 16 z) (λ z. absurd (let k : ◌≡◌ {A = ℕ} 41 0 = rw z at y in omega arith))
        kind-is false x y = absurd (omega arith)

        go : (f : ℕ) → cond (eqb f 0) (cond (ltb r rows) (cond (eqb (kind_in table r) 16) 0 41) 41) f ≡ 0 → kind_in table r ≡ 16
        go zero y = kind-is (ltb r rows) refl y
        go (suc f) y = absurd (let z : cond (eqb (suc f) 0) (cond (ltb r rows) (cond (eqb (kind_in table r) 16) 0 41) 41) (suc f) ≡ suc f = rw (ne_eqb (suc f) 0 (λ q. absurd (omega arith))) in omega arith)

    -- THEOREM: from the fresh state, with an empty window, the walk may begin
    pub begins : (words gaps : List ℕ) → starts_fault table rows log r ≡ 0 → words ≡ fresh_words d → gaps ≡ no_gaps → Counting file log rows items table r 0 words gaps no_window
    begins words gaps c e none = count-begins file log rows items table r h words gaps c (clean-few c) (clean-function c) e none

    -- THEOREM: 42
    pub move-off : starts_fault table rows log r ≡ 0 → (n v : ℕ) → played d log ≡ refused n v → Tells file log r before (refused n v) before
    move-off c n v e = tells-refused n v (clean-on c ∙ (unfold rest in ap (λ (o : Outcome (List ℕ)). and_then o (λ last. accepted (starts d r log))) e))

    -- THEOREM: the log stood, its starts are counted
    pub stood : starts_fault table rows log r ≡ 0 → (last : List ℕ) → played d log ≡ accepted last → (b : Busiest) → Most (times_of (starts d r log)) b → Tells file log r before (accepted b.most) b.at
    stood c last e b m = subst (λ (x : Busiest). Tells file log r before (accepted x.most) x.at) (sym (most-one (times_of (starts d r log)) b (busiest (times_of (starts d r log))) m (log-busiest d r log)))
        (tells (accepted (starts d r log)) (clean-on c ∙ (unfold rest in ap (λ (o : Outcome (List ℕ)). and_then o (λ last. accepted (starts d r log))) e)))

  -- of the walk at its end, or where a move is refused
  module _ (rows items : ℕ) (table : List ℕ) where
    pub told-stopped : (h : HoldsPlant file rows items table) → starts_fault table rows log r ≡ 0 → (answer : Outcome ℕ) (flag : Bool) → flag ≡ not (is_accepted answer) → flag ≡ true
        → ((n v : ℕ) → answer ≡ refused n v → played h.held.diagram log ≡ refused n v) → Tells file log r before answer before
    told-stopped h c answer flag f y off = go answer refl (sym f ∙ y)
      where
        go : (o : Outcome ℕ) → answer ≡ o → not (is_accepted o) ≡ true → Tells file log r before o before
        go (accepted v) e z = clash z refl
        go (refused n v) e z = move-off rows items table h c n v (off n v e)

    pub told-stood : (i : ℕ) (words gaps : List ℕ) (w : Window) → Counting file log rows items table r i words gaps w → i ≡ move_count log → Tells file log r before (accepted w.most) w.at
    unfolding starts_from
    told-stood i words gaps w m e = stood rows items table m.holds m.clean words
        (walk_ends file log rows items table m.holds words (subst (λ (n : ℕ). Walk file log rows items table m.holds n words) e m.walk))
        (best_of w) (subst (λ (l : List ℕ). Most l (best_of w)) (sym (m.rest ∙ (ap (λ (l : List Setpoint). m.past ++ times_of (starts_from m.holds.held.diagram r i w.time l words)) none_left ∙ append-nil m.past))) m.walked.most)
      where
        none_left : drop i (setpoints log) ≡ []
        none_left = drop_of_length-le (setpoints log) {i = i} (let z = many in omega arith)
          where
            many : length (setpoints log) ≡ move_count log
            many = unfold setpoints in setpoints-many (move_count log) log
