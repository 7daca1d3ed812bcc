use mathlib.Core.List.{List}
use Prim.Native.Nat.{ℕ, ◌+◌, ◌%◌}
use borrow.Author.Tests.{eq-eqb, ne_eqb}
use lib.ListN.{set}
use mathlib.Core.Path.{refl, ◌∙◌, ap}
use Rattle.starts.specs.Gaps.{gap_put}
use Rattle.starts.proofs.spans.put_gap.Goals as goal

pub returns-then-gap-eq0 : goal.returns-then-gap-eq0
unfolding gap_put
returns-then-gap-eq0 c = rw (eq-eqb _ _ c.if-gap-eq0.true) (record { value = refl; gaps_after = c.put_byte.ensures })

pub returns : goal.returns
unfolding gap_put
returns c = rw (ne_eqb _ _ c.if-gap-eq0.false) (record { value = refl; gaps_after = c.put_byte-3.ensures ∙ ap (λ (l : List ℕ). set l (c.args.at + 1) (c.args.gap % 256)) c.put_byte-2.ensures })
