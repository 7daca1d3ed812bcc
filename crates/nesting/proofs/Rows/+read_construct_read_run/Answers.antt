-- The cycle of calls of the run reader and the construct reader.
use Rattle.std.specs.Prelude.{ℕ, ◌+◌}
use Rattle.std.proofs.Common.{sym, ◌∙◌, ap, subst, subst₂, arith, rules}
use Rattle.std.proofs.lemmas.Result.{err_from_is_err_and}
use Rattle.nesting.specs.declared.Part.TheVariants.{Turns, Stays}
use Rattle.nesting.specs.declared.Open.{Open}
use Rattle.nesting.specs.Runs.{kind_in, first_in, is_and_or, inside_in, branch_fault, open_fault, RunRead}
use Rattle.nesting.proofs.Walks.{refuses, passes, part-is, run-last, run_end, run-fault, run-turned, run-closed, run-unclosed, run-stays, run-deep, run-over, run-judged, run_on, ConstructState, construct-start, construct-branched, construct-unbranched, construct-over, construct-judged, construct-turned, construct-closed, inside-depth}
use Rattle.nesting.proofs.Rows.+read_construct_read_run.Goals.{read_construct-then-is_and_or+in_ok-passes, read_construct-else-is_and_or}
use Rattle.nesting.proofs.Rows.+read_construct_read_run.Goals as goal

-- ---- a construct

pub read_construct-returns-in_err-passes : goal.read_construct-returns-in_err-passes
read_construct-returns-in_err-passes t c =
    let a = c.args in
    let p = err_from_is_err_and c.from_residual.result c.from_residual.ensures.1 in
    rw (p.1, p.2) (construct-unbranched a.self.now.table.now a.self.now.count a.opened a.around (omega arith) (sym (c.is_and_or.ensures ∙ ap is_and_or c.kind-kind.ensures) ∙ c.if-is_and_or.true) _ (c.open_fault.ensures ∙ ap (open_fault a.self.now.table.now a.self.now.count (a.opened + 1)) c.kind-kind.ensures) c.in_err-passes.field-0.0 (refuses c.passes.ensures c.in_err-passes.was))

pub read_construct-loop-branch-init : goal.read_construct-loop-branch-init
read_construct-loop-branch-init t c =
    let a = c.args in
    let kind = sym (c.is_and_or.ensures ∙ ap is_and_or c.kind-kind.ensures) in
    elim c.if-is_and_or.branch [
      | read_construct-then-is_and_or+in_ok-passes w ↦ subst₂ (ConstructState a.self.now.table.now a.self.now.count a.opened a.around) (sym w.branches-is) (sym w.from-is) (construct-branched a.self.now.table.now a.self.now.count a.opened a.around (omega arith) (kind ∙ w.if-is_and_or.true) _ (w.open_fault.ensures ∙ ap (open_fault a.self.now.table.now a.self.now.count (a.opened + 1)) c.kind-kind.ensures) (passes (a.opened + 1) w.passes.ensures w.in_ok-passes.was))
      | read_construct-else-is_and_or w ↦ subst₂ (ConstructState a.self.now.table.now a.self.now.count a.opened a.around) (sym w.branches-is) (sym w.from-is) (construct-start a.self.now.table.now a.self.now.count a.opened a.around (omega arith) (kind ∙ w.if-is_and_or.false))
    ]

pub read_construct-read_run-requires : goal.read_construct-read_run-requires
read_construct-read_run-requires t c = let d = inside-depth _ _ _ _ _ c.inside-within.ensures in let s = c.loop-branch.invariant in search rules

pub read_construct-returns-in_err-read_run : goal.read_construct-returns-in_err-read_run
read_construct-returns-in_err-read_run t c =
    let a = c.args in
    let s = c.loop-branch in
    let p = err_from_is_err_and c.from_residual-in_err-read_run.result c.from_residual-in_err-read_run.ensures.1 in
    rw (p.1, p.2) (construct-over a.self.now.table.now a.self.now.count a.opened a.around s.branches s.from s.invariant c.read_run.result
    (subst (λ (o : Open). RunRead a.self.now.table.now a.self.now.count s.from o c.read_run.result) (c.inside-within.ensures ∙ ap (λ (k : ℕ). inside_in k a.opened s.branches a.around) c.kind-kind.ensures) c.read_run.ensures)
    c.in_err-read_run.field-0.0 c.in_err-read_run.was)

pub read_construct-returns-in-Judged : goal.read_construct-returns-in-Judged
read_construct-returns-in-Judged t c =
    let a = c.args in
    let s = c.loop-branch in
    construct-judged a.self.now.table.now a.self.now.count a.opened a.around s.branches s.from s.invariant c.read_run.result
    (subst (λ (o : Open). RunRead a.self.now.table.now a.self.now.count s.from o c.read_run.result) (c.inside-within.ensures ∙ ap (λ (k : ℕ). inside_in k a.opened s.branches a.around) c.kind-kind.ensures) c.read_run.ensures)
    (cc (c.in_ok-read_run.was, c.in-Judged.is))

pub read_construct-loop-branch-preserved : goal.read_construct-loop-branch-preserved
read_construct-loop-branch-preserved t c =
    let a = c.args in
    let s = c.loop-branch in
    construct-turned a.self.now.table.now a.self.now.count a.opened a.around s.branches s.from s.invariant c.read_run.result
    (subst (λ (o : Open). RunRead a.self.now.table.now a.self.now.count s.from o c.read_run.result) (c.inside-within.ensures ∙ ap (λ (k : ℕ). inside_in k a.opened s.branches a.around) c.kind-kind.ensures) c.read_run.ensures)
    c.in-Turned.branch (cc (c.in_ok-read_run.was, c.in-Turned.is))

pub read_construct-returns-in-Closed : goal.read_construct-returns-in-Closed
read_construct-returns-in-Closed t c =
    let a = c.args in
    let s = c.loop-branch in
    construct-closed a.self.now.table.now a.self.now.count a.opened a.around s.branches s.from s.invariant c.read_run.result
    (subst (λ (o : Open). RunRead a.self.now.table.now a.self.now.count s.from o c.read_run.result) (c.inside-within.ensures ∙ ap (λ (k : ℕ). inside_in k a.opened s.branches a.around) c.kind-kind.ensures) c.read_run.ensures)
    c.in-Closed.close (cc (c.in_ok-read_run.was, c.in-Closed.is))

-- ---- a run

pub read_run-returns-then-around-ge-MOST_OPEN : goal.read_run-returns-then-around-ge-MOST_OPEN
read_run-returns-then-around-ge-MOST_OPEN t c =
    let a = c.args in
    let s = c.loop-row in
    run-deep a.self.now.table.now a.self.now.count a.from a.around s.row s.invariant (omega arith) (part-is c.part_of.ensures c.kind-kind.ensures c.in-Opens.is) (omega arith)

pub read_run-returns-in_err-close-in-Opens : goal.read_run-returns-in_err-close-in-Opens
read_run-returns-in_err-close-in-Opens t c =
    let a = c.args in
    let s = c.loop-row in
    let p = err_from_is_err_and c.from_residual.result c.from_residual.ensures.1 in
    rw (p.1, p.2) (run-over a.self.now.table.now a.self.now.count a.from a.around s.row s.invariant (omega arith) (part-is c.part_of.ensures c.kind-kind.ensures c.in-Opens.is) (omega arith) c.read_construct.result c.read_construct.ensures c.in_err-close-in-Opens.field-0.0 c.in_err-close-in-Opens.was)

pub read_run-returns-in_default : goal.read_run-returns-in_default
read_run-returns-in_default t c =
    let a = c.args in
    let s = c.loop-row in
    run-judged a.self.now.table.now a.self.now.count a.from a.around s.row s.invariant (omega arith) (part-is c.part_of.ensures c.kind-kind.ensures c.in-Opens.is) (omega arith) c.read_construct.result c.read_construct.ensures (cc (c.in_ok-close-in-Opens.was, c.in_default.is))

pub read_run-loop-row-preserved-in-Opens : goal.read_run-loop-row-preserved-in-Opens
read_run-loop-row-preserved-in-Opens t c =
    let a = c.args in
    let s = c.loop-row in
    run_on a.self.now.table.now a.self.now.count a.from a.around s.row s.invariant (omega arith) (part-is c.part_of.ensures c.kind-kind.ensures c.in-Opens.is) (omega arith) c.read_construct.result c.read_construct.ensures c.in-Some.close (cc (c.in_ok-close-in-Opens.was, c.in-Some.is))

pub read_run-returns-in_err-passes-in-Turns : goal.read_run-returns-in_err-passes-in-Turns
read_run-returns-in_err-passes-in-Turns t c =
    let a = c.args in
    let s = c.loop-row in
    let p = err_from_is_err_and c.from_residual-in_err-passes-in-Turns.result c.from_residual-in_err-passes-in-Turns.ensures.1 in
    rw (p.1, p.2) (run-fault a.self.now.table.now a.self.now.count a.from a.around s.row s.invariant (omega arith) Turns (part-is c.part_of.ensures c.kind-kind.ensures c.in-Turns.is) _ (c.branch_fault.ensures ∙ ap (branch_fault (first_in a.self.now.table.now s.row) (kind_in a.self.now.table.now a.self.now.count (s.row + 1))) c.top-top.ensures) c.in_err-passes-in-Turns.field-0.0 (refuses c.passes.ensures c.in_err-passes-in-Turns.was))

pub read_run-returns-in-Turns : goal.read_run-returns-in-Turns
read_run-returns-in-Turns t c =
    let a = c.args in
    let s = c.loop-row in
    run-turned a.self.now.table.now a.self.now.count a.from a.around s.row s.invariant (omega arith) (part-is c.part_of.ensures c.kind-kind.ensures c.in-Turns.is) (sym (passes s.row c.passes.ensures c.in_ok-passes-in-Turns.was) ∙ (c.branch_fault.ensures ∙ ap (branch_fault (first_in a.self.now.table.now s.row) (kind_in a.self.now.table.now a.self.now.count (s.row + 1))) c.top-top.ensures))

pub read_run-returns-then-closes : goal.read_run-returns-then-closes
read_run-returns-then-closes t c =
    let a = c.args in
    let s = c.loop-row in
    run-closed a.self.now.table.now a.self.now.count a.from a.around s.row s.invariant (omega arith) (part-is c.part_of.ensures c.kind-kind.ensures c.in-Closes.is) (sym (c.closes.ensures ∙ rw (c.kind-kind.ensures, c.top-top.ensures)) ∙ c.if-closes.true)

pub read_run-returns-in-Closes : goal.read_run-returns-in-Closes
read_run-returns-in-Closes t c =
    let a = c.args in
    let s = c.loop-row in
    run-unclosed a.self.now.table.now a.self.now.count a.from a.around s.row s.invariant (omega arith) (part-is c.part_of.ensures c.kind-kind.ensures c.in-Closes.is) (sym (c.closes.ensures ∙ rw (c.kind-kind.ensures, c.top-top.ensures)) ∙ c.if-closes.false)

pub read_run-returns-in_err-passes-in-Stays : goal.read_run-returns-in_err-passes-in-Stays
read_run-returns-in_err-passes-in-Stays t c =
    let a = c.args in
    let s = c.loop-row in
    let p = err_from_is_err_and c.from_residual-in_err-passes-in-Stays.result c.from_residual-in_err-passes-in-Stays.ensures.1 in
    rw (p.1, p.2) (run-fault a.self.now.table.now a.self.now.count a.from a.around s.row s.invariant (omega arith) Stays (part-is c.part_of.ensures c.kind-kind.ensures c.in-Stays.is) _ (c.stay_fault.ensures ∙ rw (c.kind-kind.ensures, c.kind-next.ensures, c.top-top.ensures)) c.in_err-passes-in-Stays.field-0.0 (refuses c.passes-in-Stays.ensures c.in_err-passes-in-Stays.was))

pub read_run-loop-row-preserved : goal.read_run-loop-row-preserved
read_run-loop-row-preserved t c =
    let a = c.args in
    let s = c.loop-row in
    run-stays a.self.now.table.now a.self.now.count a.from a.around s.row s.invariant (omega arith) (part-is c.part_of.ensures c.kind-kind.ensures c.in-Stays.is) (sym (passes s.row c.passes-in-Stays.ensures c.in_ok-passes-in-Stays.was) ∙ (c.stay_fault.ensures ∙ rw (c.kind-kind.ensures, c.kind-next.ensures, c.top-top.ensures)))

pub read_run-returns-in_err-passes : goal.read_run-returns-in_err-passes
read_run-returns-in_err-passes t c =
    let a = c.args in
    let s = c.loop-row in
    let p = err_from_is_err_and c.from_residual-in_err-passes.result c.from_residual-in_err-passes.ensures.1 in
    rw (p.1, p.2) (run-last a.self.now.table.now a.self.now.count a.from a.around s.row s.invariant (omega arith) _ (c.last_fault.ensures ∙ rw (c.kind.ensures, c.top-top.ensures)) c.in_err-passes.field-0.0 (refuses c.passes-2.ensures c.in_err-passes.was))

pub read_run-returns : goal.read_run-returns
read_run-returns t c =
    let a = c.args in
    let s = c.loop-row in
    run_end a.self.now.table.now a.self.now.count a.from a.around s.row s.invariant (omega arith) _ (c.last_fault.ensures ∙ rw (c.kind.ensures, c.top-top.ensures)) (passes s.row c.passes-2.ensures c.in_ok-passes.was)
