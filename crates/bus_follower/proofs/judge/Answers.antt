use Rattle.std.proofs.Common.{ℕ, sym, ap, ◌∙◌}
use Rattle.effbd.specs.Answers.{accepted, refused}
use Rattle.bus_follower.proofs.Judged.{no-telegram, other-station, at-or-below, too_far, is-due}
use Rattle.bus_follower.proofs.judge.Goals as goal

pub returns-then-not-is_telegram : goal.returns-then-not-is_telegram
returns-then-not-is_telegram c = no-telegram c.args.count c.args.station c.args.bytes.now (sym c.is_telegram.ensures ∙ c.if-not-is_telegram.true)

pub returns-then-from-station : goal.returns-then-from-station
returns-then-from-station c = ap (λ (x : ℕ). refused 31 x) c.word-from.ensures ∙ other-station c.args.count c.args.station c.args.bytes.now (sym c.is_telegram.ensures ∙ c.if-not-is_telegram.false) (λ e. c.if-from-station.true (c.word-from.ensures ∙ e))

pub returns-then-number-count : goal.returns-then-number-count
returns-then-number-count c = at-or-below c.args.count c.args.station c.args.bytes.now (sym c.is_telegram.ensures ∙ c.if-not-is_telegram.false) (sym c.word-from.ensures ∙ c.if-from-station.false) (rw (← c.long-number.ensures) c.if-number-count.true)

pub returns-then-number-count-gt1 : goal.returns-then-number-count-gt1
returns-then-number-count-gt1 c = too_far c.args.count c.args.station c.args.bytes.now (sym c.is_telegram.ensures ∙ c.if-not-is_telegram.false) (sym c.word-from.ensures ∙ c.if-from-station.false) (rw (← c.long-number.ensures) c.if-number-count.false) (rw (← c.long-number.ensures) c.if-number-count-gt1.true)

pub returns : goal.returns
returns c = ap accepted c.long-number.ensures ∙ is-due c.args.count c.args.station c.args.bytes.now (sym c.is_telegram.ensures ∙ c.if-not-is_telegram.false) (sym c.word-from.ensures ∙ c.if-from-station.false) (rw (← c.long-number.ensures) c.if-number-count.false) (rw (← c.long-number.ensures) c.if-number-count-gt1.false)
