use Rattle.std.specs.Prelude.{length}
use Rattle.std.proofs.Common.{rules, ap}
use Rattle.diagram_table.proofs.BranchRows.{row_given, before_some, before_none}
use Rattle.diagram_table.proofs.branches.BranchesIterator.next.Goals as goal

pub returns-then-not-self-clause-steps : goal.returns-then-not-self-clause-steps
returns-then-not-self-clause-steps c = let s = c.args.self.now in rw c.if-not-self.true (row_given s.table.now s.row)

pub returns-then-not-self-clause-goes : goal.returns-then-not-self-clause-goes
returns-then-not-self-clause-goes c = let s = c.args.self.now in let l = ap length (row_given s.table.now s.row) in
    record { on = rw c.if-not-self.true (search rules); keeps = search rules; rests = search rules }

pub returns-then-self-before-clause-steps : goal.returns-then-self-before-clause-steps
returns-then-self-before-clause-steps c = let s = c.args.self.now in let e = before_none s.table.now s.row c.cell-before.result c.cell-before.ensures c.if-self-before.true in
    (rw c.if-not-self.false e, rw c.if-not-self.false e)

pub returns-clause-steps : goal.returns-clause-steps
returns-clause-steps c = let s = c.args.self.now in rw c.if-not-self.false (before_some s.table.now s.row c.cell-before.result c.cell-before.ensures c.if-self-before.false)

pub returns-clause-goes : goal.returns-clause-goes
returns-clause-goes c = let s = c.args.self.now in let l = ap length (before_some s.table.now s.row c.cell-before.result c.cell-before.ensures c.if-self-before.false) in
    record { on = rw c.if-not-self.false (search rules); keeps = search rules; rests = search rules }
