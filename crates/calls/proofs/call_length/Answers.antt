use Rattle.std.proofs.Common.{arith, sym, ◌∙◌, ap, Some}
use Rattle.calls.specs.CallList.{least_of}
use Rattle.calls.proofs.Lengths.{no-head, too_long, no_kind, too_short, long_enough}
use Rattle.calls.proofs.call_length.Goals as goal

pub returns-then-rest-lt4 : goal.returns-then-rest-lt4
returns-then-rest-lt4 c = rw (no-head c.args.rest.now c.if-rest-lt4.true)

pub returns-then-rest-size : goal.returns-then-rest-size
returns-then-rest-size c = rw (too_long c.args.rest.now c.word-size.result c.word-size.ensures (omega arith) c.if-rest-size.true)

pub returns-in_err-least_length : goal.returns-in_err-least_length
returns-in_err-least_length c = let r = c.args.rest.now in
    c.from_residual.ensures ∙ rw (no_kind r c.word-size.result c.word-size.ensures (omega arith) (omega arith) (sym c.in_err-least_length.was ∙ c.least_length.ensures ∙ ap least_of c.word.ensures))

pub returns-then-branch : goal.returns-then-branch
returns-then-branch c = let r = c.args.rest.now in
    rw (too_short r c.word-size.result c.word-size.ensures (omega arith) (omega arith) c.in_ok-least_length.field-0 (sym c.in_ok-least_length.was ∙ c.least_length.ensures ∙ ap least_of c.word.ensures) c.if-branch.true)

pub returns : goal.returns
returns c = let r = c.args.rest.now in
    rw (long_enough r c.word-size.result c.word-size.ensures (omega arith) (omega arith) c.in_ok-least_length.field-0 (sym c.in_ok-least_length.was ∙ c.least_length.ensures ∙ ap least_of c.word.ensures) c.if-branch.false) (ap Some c.word-size.ensures)
