use borrow.Author.Tests.{eq-eqb, ne_eqb}
use mathlib.Core.Path.{refl}
use Rattle.starts.specs.Gaps.{gap_at, size_at}
use Rattle.starts.proofs.spans.gap_at.Goals as goal

pub returns-then-high-eq0 : goal.returns-then-high-eq0
unfolding gap_at size_at
returns-then-high-eq0 c = rw (← c.byte-high.ensures.0, eq-eqb _ _ c.if-high-eq0.true) (refl, refl)

pub returns : goal.returns
unfolding gap_at size_at
returns c = rw (← c.byte-high.ensures.0, ne_eqb _ _ c.if-high-eq0.false, ← c.byte.ensures.0) (refl, refl)
