use Rattle.std.specs.Prelude.{ℕ, ◌+◌, ◌-◌, ◌≡◌, length}
use Rattle.std.proofs.Common.{arith, refl, sym, ◌∙◌, rules}
use Rattle.effbd.specs.Answers.{said}
use Rattle.calls.specs.LiveEnds.{live}
use Rattle.calls.proofs.Turns.{found, ended, turned-next, all_made}
use Rattle.calls.proofs.Lists.{made_all}
use Rattle.calls.proofs.make_calls.Goals as goal

pub returns-in_default : goal.returns-in_default
returns-in_default c = let a = c.args in let g = a.line.now in let l = c.loop-made in record {
  called = ended g.file.now g.net.now g.station (live a.ends.now) a.calls.now (length a.calls.now - l._made) l.at (live l.ends) l.calls l.invariant.made (sym c.in_default.is ∙ c.call_length.ensures);
  same = record { leader = l.invariant.leader; follower = l.invariant.follower };
}

pub overflow_add-at : goal.overflow_add-at
overflow_add-at c = let l = c.loop-made in
    let f = found l.calls l.at c.in-Some.size l.invariant.made.within (sym c.in-Some.is ∙ c.call_length.ensures) in omega (arith, f.fits, l.invariant.long)

pub slice_bounds-make_call-end : goal.slice_bounds-make_call-end
slice_bounds-make_call-end c = let l = c.loop-made in
    let f = found l.calls l.at c.in-Some.size l.invariant.made.within (sym c.in-Some.is ∙ c.call_length.ensures) in omega (arith, f.fits, l.invariant.long)

pub loop-made-preserved : goal.loop-made-preserved
loop-made-preserved c = let a = c.args in let g = a.line.now in let l = c.loop-made in
    let n = c.in-Some.size in
    let f = found l.calls l.at n l.invariant.made.within (sym c.in-Some.is ∙ c.call_length.ensures) in
    let made = c.make_call in record {
      made = turned-next g.file.now g.net.now g.station (live a.ends.now) a.calls.now (length a.calls.now - l._made) l.at n (l.at + n - l.at) (length a.calls.now - (l._made + 1)) (live l.ends) l.calls
          made.new.ends.leader.now made.new.ends.follower.now made.new.call (said made.result) made.new.ends.counts.sent made.new.ends.counts.taken
          l.invariant.made (omega arith) f (omega arith) made.ensures.called made.auto.call (omega arith);
      long = search rules;
      leader = made.ensures.same.leader ∙ l.invariant.leader;
      follower = made.ensures.same.follower ∙ l.invariant.follower;
    }

pub returns : goal.returns
returns c = let a = c.args in let g = a.line.now in let l = c.loop-made in record {
  called = all_made g.file.now g.net.now g.station (live a.ends.now) a.calls.now (live l.ends) l.calls
      (made_all g.file.now g.net.now g.station (live a.ends.now) a.calls.now (length a.calls.now - l._made) l.at (live l.ends) l.calls l.invariant.made (omega arith));
  same = record { leader = l.invariant.leader; follower = l.invariant.follower };
}
