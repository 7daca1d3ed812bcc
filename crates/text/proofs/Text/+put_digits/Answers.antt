-- `put_digits` calls itself with one digit less to write. Assumes nothing.
use Rattle.std.proofs.Common.{sym, ap, ◌∙◌}
use Rattle.effbd.specs.Annex.{digits}
use Rattle.text.specs.LaidLaws.{still, same, and_then}
use Rattle.text.proofs.LettersAndDigits.{no-digits, one-digit, more-digits}
use Rattle.text.proofs.Text.+put_digits.Goals as goal

pub returns-then-most-eq0 : goal.returns-then-most-eq0
returns-then-most-eq0 t c =
    let a = c.args in
    same (sym (ap (λ m. digits m a.number) c.if-most-eq0.true ∙ no-digits a.number)) (still _)

pub returns-then-number-lt10 : goal.returns-then-number-lt10
returns-then-number-lt10 t c =
    let a = c.args in
    same (sym (one-digit a.most a.number c.if-most-eq0.false c.if-number-lt10.true)) c.put.ensures

pub returns : goal.returns
returns t c =
    let a = c.args in
    same (sym (more-digits a.most a.number c.if-most-eq0.false c.if-number-lt10.false)) (and_then c.put_digits.ensures c.put-2.ensures)
