use Rattle.std.proofs.Common.{arith, refl, sym}
use Rattle.std.proofs.Math.Seq.{length-take-le}
use Rattle.std.proofs.lemmas.Result.{err_from_is_err_and}
use Rattle.effbd.specs.Answers.{number}
use Rattle.agreement.specs.ByteLaws.{bytes-are}
use Rattle.ends.proofs.LaidNets.{found-net}
use Rattle.play.proofs.Starts.{unplayed, file-refused}
use Rattle.play.specs.Played.{playable}
use Rattle.play.proofs.play.Goals as goal

pub returns-in_err-size : goal.returns-in_err-size
returns-in_err-size c = let a = c.args in let r = c.in_err-size.field-0.0 in
    let told = unplayed (playable a.file.now a.leader.now a.follower.now) (number r.reason) r.value
    (file-refused a.file.now (number r.reason) r.value c.in_err-size.ensures.result_value a.leader.now a.follower.now)
    a.file.now a.station a.calls.now a.leader.now a.follower.now a.leader.now refl in
    let p = err_from_is_err_and c.from_residual.result c.from_residual.ensures.1 in
    record { answer_value = rw (p.1, p.2) told.0; played_as = rw p.1 told.1 }

pub slice_bounds-area-end : goal.slice_bounds-area-end
slice_bounds-area-end c = (found-net c.args.file.now _ c.lay_net.new.area c.in_ok-size.size c.in_ok-size.ensures.result_value c.in_ok-size.ensures.net_laid_as).0

pub slice_bounds-line-end : goal.slice_bounds-line-end
slice_bounds-line-end c = sym (length-take-le c.in_ok-size.size c.lay_net.new.area
    (found-net c.args.file.now _ c.lay_net.new.area c.in_ok-size.size c.in_ok-size.ensures.result_value c.in_ok-size.ensures.net_laid_as).0)

pub play_net-requires-clause-net_of : goal.play_net-requires-clause-net_of
play_net-requires-clause-net_of c = (found-net c.args.file.now _ c.lay_net.new.area c.in_ok-size.size c.in_ok-size.ensures.result_value c.in_ok-size.ensures.net_laid_as).1

pub play_net-requires-clause-bytes : goal.play_net-requires-clause-bytes
play_net-requires-clause-bytes c = bytes-are c.args.file.now (λ i. omega (arith, c.type_inv.file i))
