use Rattle.std.specs.Prelude.{◌+◌, ◌-◌, ltb}
use Rattle.std.proofs.Common.{arith, ◌∙◌}
use Rattle.std.proofs.Math.Nat.{min-eq_left, min-eq_right}
use Rattle.effbd.specs.Moves.{most_word}
use Rattle.ranges.specs.Tests.{decide}
use borrow.Author.Tests.{ltb-true, ltb-false}
use Rattle.words.specs.Sums.{added}
use Rattle.words.proofs.added.Goals as goal

pub returns : goal.returns
unfolding added
returns c = let a = c.args in c.saturating_add.ensures
    ∙ decide (ltb (most_word - a.more) a.number)
    (λ e. rw (e, min-eq_right {n = 65535} {m = a.number + a.more} (omega (arith, ltb-true _ _ e))))
    (λ e. rw (e, min-eq_left {n = a.number + a.more} {m = 65535} (omega (arith, ltb-false _ _ e))))
