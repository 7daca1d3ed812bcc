use mathlib.Core.Path.{sym, ◌∙◌}
use mathlib.Core.Bool.{and-true}
use Rattle.outlets.specs.Outlets.{matched_at}
use Rattle.outlets.proofs.Passes.{not-exit}
use Rattle.outlets.proofs.OpenBox.matched_at.Goals as goal

pub returns-then-is_branch : goal.returns-then-is_branch
unfolding matched_at
returns-then-is_branch c = rw (sym c.is_branch.ensures ∙ c.if-is_branch.true, not-exit c.args.self.now.table.now c.args.self.now.opened c.args.row (sym c.is_branch.ensures ∙ c.if-is_branch.true), ← c.branches_below-number.ensures, ← c.exits_for.ensures) (sym (and-true _))

pub returns-then-is_exit : goal.returns-then-is_exit
unfolding matched_at
returns-then-is_exit c = rw (sym c.is_branch.ensures ∙ c.if-is_branch.false, sym c.is_exit.ensures ∙ c.if-is_exit.true, ← c.branches_below-outlets.ensures, ← c.cell.ensures)

pub returns : goal.returns
unfolding matched_at
returns c = rw (sym c.is_branch.ensures ∙ c.if-is_branch.false, sym c.is_exit.ensures ∙ c.if-is_exit.false)
