use Rattle.std.proofs.Common.{arith, sym}
use Rattle.std.proofs.Math.Seq.{length-take-le}
use Rattle.std.proofs.lemmas.Result.{err_from_is_err_and}
use Rattle.effbd.specs.Answers.{number}
use Rattle.ends.proofs.Readied.{no-ends, both-ready}
use Rattle.ends.proofs.LaidNets.{found-net}
use Rattle.ends.proofs.ready_in.Goals as goal

pub returns-in_err-size : goal.returns-in_err-size
returns-in_err-size c = let a = c.args in let e = c.in_err-size.field-0.0 in
    let told = no-ends a.file.now a.net.now a.leader.now a.follower.now c.translate_into.new.area (number e.reason) e.value c.in_err-size.ensures.result_value c.in_err-size.ensures.net_laid_as in
    let p = err_from_is_err_and c.from_residual.result c.from_residual.ensures.1 in
    record { answer_value = rw (p.1, p.2) told.0; ready_as = rw p.1 told.1 }

pub slice_bounds-fresh_ends-end : goal.slice_bounds-fresh_ends-end
slice_bounds-fresh_ends-end c =
    (found-net c.args.file.now c.args.net.now c.translate_into.new.area c.in_ok-size.size c.in_ok-size.ensures.result_value c.in_ok-size.ensures.net_laid_as).0

pub slice_bounds-fresh_ends-end-2 : goal.slice_bounds-fresh_ends-end-2
slice_bounds-fresh_ends-end-2 c = sym (length-take-le c.in_ok-size.size c.translate_into.new.area
    (found-net c.args.file.now c.args.net.now c.translate_into.new.area c.in_ok-size.size c.in_ok-size.ensures.result_value c.in_ok-size.ensures.net_laid_as).0)

pub fresh_ends-states-requires : goal.fresh_ends-states-requires
fresh_ends-states-requires c = record {
  net_of = (found-net c.args.file.now c.args.net.now c.translate_into.new.area c.in_ok-size.size c.in_ok-size.ensures.result_value c.in_ok-size.ensures.net_laid_as).1;
  leader_room_in_bounds = omega (arith, c.requires.leader_room_in_bounds);
  follower_room_in_bounds = omega (arith, c.requires.follower_room_in_bounds);
}

pub returns : goal.returns
returns c = let a = c.args in let s = c.fresh_ends-states in
    let told = both-ready a.file.now a.net.now a.leader.now a.follower.now c.translate_into.new.area
    s.new.leader s.new.follower c.in_ok-size.size s.result.leader s.result.follower
    c.in_ok-size.ensures.result_value c.in_ok-size.ensures.net_laid_as s.ensures in record { answer_value = told.0; ready_as = told.1 }
