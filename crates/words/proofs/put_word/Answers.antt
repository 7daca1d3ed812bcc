use Prim.Native.Nat.{ℕ, ◌+◌, ◌/◌}
use mathlib.Core.Path.{◌∙◌, ap}
use mathlib.Core.List.{List}
use lib.ListN.{set}
use Rattle.words.proofs.Ends.{word-put-out}
use Rattle.words.proofs.put_word.Goals as goal

pub returns-then-at-area : goal.returns-then-at-area
returns-then-at-area c = let a = c.args in c.put_byte-then-at-area.ensures ∙ ap (λ (l : List ℕ). set l (a.at + 1) (a.value / 256)) c.put_byte.ensures

pub returns-else-at-area : goal.returns-else-at-area
returns-else-at-area c = word-put-out c.args.area.now c.args.at c.args.value c.if-at-area.false
