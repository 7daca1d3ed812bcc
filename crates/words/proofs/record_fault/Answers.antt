use Rattle.std.proofs.Common.{ap, sym, ◌∙◌, cond}
use Rattle.words.proofs.FieldFaults.{told, none-before}
use Rattle.words.proofs.record_fault.Goals as goal

pub returns-in-Some : goal.returns-in-Some
returns-in-Some c = let a = c.args in c.number.ensures ∙ told a.bytes.now a.due a.right a.fine a.number c.in-Some.reason c.in-Some.ensures

pub returns-in-None : goal.returns-in-None
returns-in-None c = let a = c.args in sym (ap (λ b. cond b 0 a.number) c.if-fine.true) ∙ none-before a.bytes.now a.due a.right a.fine a.number c.in-None.ensures

pub returns-in-None-2 : goal.returns-in-None-2
returns-in-None-2 c = let a = c.args in sym (ap (λ b. cond b 0 a.number) c.if-fine.false) ∙ none-before a.bytes.now a.due a.right a.fine a.number c.in-None.ensures
