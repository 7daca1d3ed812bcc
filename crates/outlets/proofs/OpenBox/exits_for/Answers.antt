use Rattle.std.proofs.Common.{ℕ, refl, sym, ap, ◌≡◌, ◌∙◌, arith}
use Rattle.effbd.specs.Ranges.{how_many}
use Rattle.ranges.specs.RangeLaws.{many-le}
use Rattle.outlets.specs.Outlets.{names_in, exits_for}
use Rattle.outlets.proofs.Counting.{count-more, count_same}
use Rattle.outlets.proofs.OpenBox.exits_for.Goals.{then-names, else-names}
use Rattle.outlets.proofs.OpenBox.exits_for.Goals as goal

pub loop-row-init : goal.loop-row-init
loop-row-init c = refl

pub overflow_add-count : goal.overflow_add-count
overflow_add-count c = let s = c.loop-row in let a = c.args.self.now in let l = many-le s.row (names_in a.table.now a.opened c.args.number) in omega (arith, s.invariant)

pub loop-row-preserved : goal.loop-row-preserved
loop-row-preserved c = let s = c.loop-row in let a = c.args.self.now in let f = names_in a.table.now a.opened c.args.number in
    elim c.if-names.branch [
      | then-names w ↦ w.count-is ∙ count-more s.row f (sym c.names.ensures ∙ w.if-names.true) s.invariant
      | else-names w ↦ w.count-is ∙ count_same s.row f (sym c.names.ensures ∙ w.if-names.false) s.invariant
    ]

pub returns : goal.returns
unfolding exits_for
returns c = let s = c.loop-row in let a = c.args.self.now in let z : s.row ≡ a.rows = omega arith in s.invariant ∙ ap (λ (x : ℕ). how_many x (names_in a.table.now a.opened c.args.number)) z
