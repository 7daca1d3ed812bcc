use Rattle.std.proofs.Common.{◌+◌, ◌-◌, ◌*◌, ◌∙◌, ap, replicate, drop, length-drop, arith}
use Rattle.std.proofs.lemmas.List.{length-take-le}
use borrow.Rule.Slice.PartMut.{put_mid}
use Rattle.fresh_copies.proofs.Fills.{filled_is}
use Rattle.fresh_copies.proofs.put_run.Goals as goal

pub returns : goal.returns
returns c = let a = c.args in let from = c.min-from.result in let to = c.min-to.result in
    ap (put_mid from (to - from) a.state.now) (c.fill.ensures.after (λ y e. cc) ∙ ap (λ n. replicate n a.value) (length-take-le (to - from) (drop from a.state.now) (simp length-drop (omega arith)))) ∙ filled_is (3 * a.rows + a.first) a.many a.value from to a.state.now (omega arith) (omega arith) (omega arith) (λ h. omega arith) (omega arith) (λ h. omega arith)
