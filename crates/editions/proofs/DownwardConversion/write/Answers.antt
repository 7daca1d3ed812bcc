use Rattle.std.proofs.Common.{List, ℕ, ap, ◌∙◌}
use Rattle.words.specs.Stores.{copied}
use Rattle.editions.proofs.Becomes.{old-of}
use Rattle.editions.proofs.DownwardConversion.write.Goals as goal

pub returns : goal.returns
returns c = let a = c.args in
    c.write_old_telegram.ensures ∙ ap (λ (t : List ℕ). copied t a.area.now) (old-of a.rest.now a._number c.word-code.result c.word-argument.result c.word-code.ensures c.word-argument.ensures)
