use Rattle.std.proofs.Common.{ℕ, refl, sym, ap, ◌≡◌, ◌∙◌, arith}
use Rattle.effbd.specs.Ranges.{how_many}
use Rattle.ranges.specs.RangeLaws.{many-le}
use Rattle.diagram_table.specs.Cells.{is_branch}
use Rattle.outlets.specs.Outlets.{branches_below}
use Rattle.outlets.proofs.Counting.{count-more, count_same}
use Rattle.outlets.proofs.branches_below.Goals.{then-is_branch, else-is_branch}
use Rattle.outlets.proofs.branches_below.Goals as goal

pub loop-row-init : goal.loop-row-init
loop-row-init c = refl

pub overflow_add-count : goal.overflow_add-count
overflow_add-count c = let s = c.loop-row in let l = many-le s.row (is_branch c.args.table.now c.args.owner) in omega (arith, s.invariant)

pub loop-row-preserved : goal.loop-row-preserved
loop-row-preserved c = let s = c.loop-row in let f = is_branch c.args.table.now c.args.owner in
    elim c.if-is_branch.branch [
      | then-is_branch w ↦ w.count-is ∙ count-more s.row f (sym c.is_branch.ensures ∙ w.if-is_branch.true) s.invariant
      | else-is_branch w ↦ w.count-is ∙ count_same s.row f (sym c.is_branch.ensures ∙ w.if-is_branch.false) s.invariant
    ]

pub returns : goal.returns
unfolding branches_below
returns c = let s = c.loop-row in let z : s.row ≡ c.args.end = omega arith in s.invariant ∙ ap (λ (x : ℕ). how_many x (is_branch c.args.table.now c.args.owner)) z
