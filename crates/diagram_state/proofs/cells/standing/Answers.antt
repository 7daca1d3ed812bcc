use Rattle.std.specs.Prelude.{◌≡◌, ◌-◌, length}
use Rattle.std.proofs.Common.{arith, ◌∙◌}
use Rattle.ranges.specs.Tests.{decide}
use borrow.Author.Tests.{leb-true, leb-false}
use Rattle.diagram_moves.specs.StandingCounts.{standing-all, standing-some}
use Rattle.diagram_moves.specs.Decisions.{count_place}
use Rattle.std.specs.Prelude.{leb, ◌+◌}
use Rattle.diagram_state.proofs.cells.standing.Goals as goal

pub returns : goal.returns
returns c = let a = c.args in decide (leb (count_place a.rows (a.first + a.count)) (length a.state.now))
    (λ y. let l = leb-true (count_place a.rows (a.first + a.count)) (length a.state.now) y in let e : c.min.result ≡ a.count = omega (arith, c.min.ensures, c.saturating_sub-left.ensures) in
    e ∙ standing-all a.rows a.first a.count a.state.now l)
    (λ y. let l = leb-false (count_place a.rows (a.first + a.count)) (length a.state.now) y in let e : c.min.result ≡ length a.state.now - count_place a.rows a.first = omega (arith, c.min.ensures, c.saturating_sub-left.ensures) in
    e ∙ standing-some a.rows a.first a.count a.state.now l)
