use Rattle.std.proofs.Common.{sym, ◌∙◌}
use Rattle.text.specs.LaidLaws.{still, same, and_then}
use Rattle.call_lines.proofs.WrittenTexts.{fires, fires_none}
use Rattle.call_lines.proofs.put_call_answer.Goals as goal

pub returns-then-is_ok : goal.returns-then-is_ok
returns-then-is_ok c =
    let f = same (fires c.args.answer _ (sym c.is_ok.ensures.value ∙ c.if-is_ok.true)) c.put_transition.ensures in
    and_then c.put_gap.ensures (and_then c.put_answer.ensures f)

pub returns-else-is_ok : goal.returns-else-is_ok
returns-else-is_ok c =
    let f = same (fires_none c.args.answer _ (sym c.is_ok.ensures.value ∙ c.if-is_ok.false)) (still c.put_answer.new.text) in
    and_then c.put_gap.ensures (and_then c.put_answer.ensures f)
