use lib.ListN.{length, length-drop}
use native.Mathlib.Omega.{arith}
use mathlib.Core.Path.{ap, ◌∙◌}
use Rattle.row_records.proofs.Fields.{function-bad, function-good}
use Rattle.row_records.proofs.function_fine.Goals as goal

pub returns-then-word : goal.returns-then-word
returns-then-word c = let a = c.args in function-bad a.items a.bytes.now a.base a.behind c.word.result c.word-2.result c.word.ensures c.word-2.ensures c.if-word.true

pub uses_fine-requires : goal.uses_fine-requires
uses_fine-requires c = let a = c.args in
    let t = ap length c.tail.ensures ∙ length-drop a.behind a.bytes.now in
    let h = c.requires in
    omega (arith, t, h.0, h.1, c.word-3.ensures, c.use_count.ensures)

pub returns : goal.returns
returns c = let a = c.args in
    function-good a.items a.bytes.now a.base a.behind c.word.result c.word-2.result c.word-3.result c.use_count.result c.tail.result.now c.uses_fine.result c.word.ensures c.word-2.ensures c.if-word.false c.tail.ensures c.word-3.ensures c.use_count.ensures c.uses_fine.ensures
