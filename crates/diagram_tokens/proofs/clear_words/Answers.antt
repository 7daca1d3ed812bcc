use Rattle.std.proofs.Common.{◌-◌, ◌∙◌, ap, replicate, drop, length-drop, arith}
use Rattle.std.proofs.lemmas.List.{length-take-le}
use borrow.Rule.Slice.PartMut.{put_mid}
use Rattle.diagram_tokens.proofs.Cleared.{cleared_is}
use Rattle.diagram_tokens.proofs.clear_words.Goals as goal

pub returns : goal.returns
returns c = let a = c.args in let from = c.min-from.result in let to = c.min-to.result in
    ap (put_mid from (to - from) a.state.now) (c.fill.ensures.after (λ y e. cc) ∙ ap (λ n. replicate n 0) (length-take-le (to - from) (drop from a.state.now) (simp length-drop (omega arith))))
    ∙ cleared_is a.first a.end from to a.state.now (omega arith) (omega arith) (omega arith) (omega arith) (λ h. omega arith) (λ h. omega arith)
