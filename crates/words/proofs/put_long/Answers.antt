use Prim.Native.Nat.{ℕ, ◌+◌, ◌/◌}
use mathlib.Core.Path.{◌∙◌, ap}
use mathlib.Core.List.{List}
use Rattle.words.specs.Stores.{word_put}
use Rattle.words.proofs.Ends.{long-put-out}
use Rattle.words.proofs.put_long.Goals as goal

pub returns-then-at-area : goal.returns-then-at-area
returns-then-at-area c = let a = c.args in c.put_word-then-at-area.ensures ∙ ap (λ (l : List ℕ). word_put l (a.at + 2) (a.value / 65536)) c.put_word.ensures

pub returns-else-at-area : goal.returns-else-at-area
returns-else-at-area c = long-put-out c.args.area.now c.args.at c.args.value c.if-at-area.false
