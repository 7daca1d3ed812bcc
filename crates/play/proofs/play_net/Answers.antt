use Rattle.std.proofs.Common.{refl, sym, ◌∙◌}
use Rattle.std.proofs.lemmas.Result.{err_from_is_err_and}
use Rattle.effbd.specs.Answers.{number}
use Rattle.play.proofs.Starts.{unplayed, follower-off, leader-off, both-fresh, from-none}
use Rattle.play.specs.Played.{playable}
use Rattle.play.proofs.play_net.Goals as goal

pub returns-then-not-as_long : goal.returns-then-not-as_long
returns-then-not-as_long c = let g = c.args.line.now in let e = c.args.ends.now in
    let told = unplayed (playable g.file.now e.leader.now e.follower.now) 20 0
    (follower-off g.file.now g.net.now c.requires.net_of c.requires.bytes e.leader.now e.follower.now (sym c.if-not-as_long.true ∙ c.as_long.ensures))
    g.file.now g.station c.args.calls.now e.leader.now e.follower.now e.leader.now refl in
    record { answer_value = told.0; played_as = told.1; same = record { leader = refl; follower = refl } }

pub returns-in_err-fresh : goal.returns-in_err-fresh
returns-in_err-fresh c = let g = c.args.line.now in let e = c.args.ends.now in let r = c.in_err-fresh.field-0.0 in
    let t = leader-off g.file.now g.net.now c.requires.net_of c.requires.bytes e.leader.now e.follower.now c.fresh.new.state (number r.reason) r.value
    (sym c.if-not-as_long.false ∙ c.as_long.ensures) c.in_err-fresh.ensures.result_value c.in_err-fresh.ensures.state_after in
    let told = unplayed (playable g.file.now e.leader.now e.follower.now) (number r.reason) r.value t.0
    g.file.now g.station c.args.calls.now e.leader.now e.follower.now c.fresh.new.state t.1 in
    let p = err_from_is_err_and c.from_residual.result c.from_residual.ensures.1 in
    record { answer_value = rw (p.1, p.2) told.0; played_as = rw p.1 told.1; same = record { leader = refl; follower = refl } }

pub returns : goal.returns
returns c = let g = c.args.line.now in let e = c.args.ends.now in let s = c.start.new in
    let told = both-fresh g.file.now g.net.now c.requires.net_of c.requires.bytes g.station e.leader.now e.follower.now c.fresh.new.state c.args.calls.now
    s.ends.leader.now s.ends.follower.now s.calls s.ends.counts.sent s.ends.counts.taken c.in_ok-fresh.field-0
    (sym c.if-not-as_long.false ∙ c.as_long.ensures) c.in_ok-fresh.ensures.result_value c.in_ok-fresh.ensures.state_after
    (from-none c.requires.none_sent c.requires.none_taken c.start.ensures.called) in
    record { answer_value = told.0; played_as = told.1; same = record { leader = c.start.ensures.same.leader; follower = c.start.ensures.same.follower } }
