use mathlib.Core.Path.{◌≡◌, sym, ◌∙◌}
use native.Mathlib.Omega.{arith}
use Rattle.diagram_table.specs.Cells.{is_branch}
use Rattle.ranges.specs.RangeLaws.{many-le, least-none}
use Rattle.outlets.specs.Outlets.{branches_below, outlet_of}
use Rattle.outlets.proofs.Counting.{nth, count-more, count_same, below_next, nth-found, nth-other}
use Rattle.outlets.proofs.OpenBox.outlet.Goals.{then-is_branch+else-seen-number, else-is_branch}
use Rattle.outlets.proofs.OpenBox.outlet.Goals as goal

pub returns-then-seen-number : goal.returns-then-seen-number
unfolding outlet_of branches_below
returns-then-seen-number c = let s = c.loop-row in nth-found c.args.self.now.rows c.args.number s.row s.seen (is_branch c.args.self.now.table.now c.args.self.now.opened) (omega arith) (sym c.is_branch.ensures ∙ c.if-is_branch.true) s.invariant.0 c.if-seen-number.true s.invariant.1

pub overflow_add-seen : goal.overflow_add-seen
overflow_add-seen c = let s = c.loop-row in let l = many-le s.row (is_branch c.args.self.now.table.now c.args.self.now.opened) in omega (arith, s.invariant.0)

pub loop-row-preserved : goal.loop-row-preserved
loop-row-preserved c = let s = c.loop-row in
    elim c.if-is_branch.branch [
      | then-is_branch+else-seen-number w ↦ (w.seen-is ∙ count-more s.row (is_branch c.args.self.now.table.now c.args.self.now.opened) (sym c.is_branch.ensures ∙ w.if-is_branch.true) s.invariant.0, below_next s.row (nth c.args.number (is_branch c.args.self.now.table.now c.args.self.now.opened)) s.invariant.1 (nth-other c.args.number s.row s.seen (is_branch c.args.self.now.table.now c.args.self.now.opened) s.invariant.0 w.if-seen-number.false))
      | else-is_branch w ↦ (w.seen-is ∙ count_same s.row (is_branch c.args.self.now.table.now c.args.self.now.opened) (sym c.is_branch.ensures ∙ w.if-is_branch.false) s.invariant.0, below_next s.row (nth c.args.number (is_branch c.args.self.now.table.now c.args.self.now.opened)) s.invariant.1 (rw (sym c.is_branch.ensures ∙ w.if-is_branch.false)))
    ]

pub returns : goal.returns
unfolding outlet_of branches_below
returns c = let s = c.loop-row in let z : s.row ≡ c.args.self.now.rows = omega arith in sym (least-none c.args.self.now.rows (nth c.args.number (is_branch c.args.self.now.table.now c.args.self.now.opened)) (λ j l. s.invariant.1 j (omega (arith, z))))
