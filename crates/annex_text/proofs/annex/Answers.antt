use Rattle.std.proofs.Common.{arith, ap₂, refl, ◌∙◌, rules}
use Rattle.agreement.specs.ByteLaws.{bytes-are}
use Rattle.text.specs.LaidLaws.{same}
use Rattle.annex_text.specs.Printed.{annexed}
use Rattle.annex_text.specs.Lines.{answer_text}
use Rattle.annex_text.proofs.annex.Goals as goal

pub returns : goal.returns
returns c = let bytes = bytes-are c.args.file.now (λ i. omega (arith, c.type_inv.file i)) in
    let printed = annexed bytes refl (same (ap₂ answer_text c.translate-answer.ensures.result_value c.translate-answer.ensures.area_after) c.put_answer.ensures) in
    record { value = printed.long; text_after = (search rules) ∙ printed.area; net_after = c.translate-answer.ensures.area_after }
