use Rattle.std.proofs.Common.{refl, sym, ap, ◌∙◌, arith}
use Rattle.effbd.specs.Answers.{fault}
use Rattle.ranges.specs.Reasons.{some-fault}
use Rattle.net_file.proofs.Places.{first-place, place-offset, place-faulty, place-off, one_more, places-done, lend-on}
use Rattle.net_file.proofs.read_places.Goals as goal

pub loop-place-init : goal.loop-place-init
loop-place-init c = let a = c.args in first-place a.count a.total a.transitions a.behind.now c.requires

pub unwrap-requires : goal.unwrap-requires
unwrap-requires c = some-fault c.place_fault.result (λ z. place-faulty 0 c.loop-place.rest.now c.in_default.ensures.length refl (sym c.place_fault.ensures ∙ z))

pub overflow_cast-size : goal.overflow_cast-size
overflow_cast-size c = let a = c.args in let n = place-offset a.count a.total a.transitions a.behind.now c.requires.places c.loop-place.place c.loop-place.rest.now c.loop-place.invariant in omega arith

pub returns-in_default : goal.returns-in_default
returns-in_default c = let l = c.loop-place in let a = c.args in
    place-off a.count a.total a.transitions a.behind.now c.requires.places l.place l.rest.now l.invariant 0 c.loop-place-test.true c.in_default.ensures.length
    _ refl (sym (ap fault c.unwrap.ensures) ∙ c.place_fault.ensures)

pub loop-place-preserved : goal.loop-place-preserved
loop-place-preserved c = let l = c.loop-place in let a = c.args in
    one_more a.count a.total a.transitions a.behind.now c.requires.places l.place l.rest.now l.invariant c.in-Some.size c.loop-place-test.true c.in-Some.ensures.length
    c.tail-rest.result.now c.in-Some.ensures.some c.tail-rest.ensures

pub read_transitions-requires : goal.read_transitions-requires
read_transitions-requires c = let l = c.loop-place in let a = c.args in
    lend-on a.count a.total a.transitions a.behind.now c.requires.places l.place l.rest.now l.invariant c.requires

pub returns : goal.returns
returns c = let l = c.loop-place in let a = c.args in
    places-done a.count a.total a.transitions a.behind.now c.requires.places l.place l.rest.now l.invariant c.loop-place-test.false _ c.read_transitions.ensures
