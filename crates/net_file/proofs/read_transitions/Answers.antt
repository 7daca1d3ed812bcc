use Rattle.std.proofs.Common.{refl, sym, ap, ◌∙◌}
use Rattle.effbd.specs.Answers.{fault}
use Rattle.ranges.specs.Reasons.{some-fault}
use Rattle.net_file.proofs.Standing.{first-due, go_on, shrinks, stop, done}
use Rattle.net_file.proofs.Turns.{right-arc, right-transition, none_right}
use Rattle.net_file.proofs.read_transitions.Goals as goal

pub loop-rest-init : goal.loop-rest-init
loop-rest-init c = let a = c.args in first-due a.count a.total a.transitions a.behind.now c.start-due.result c.requires c.start-due.ensures

pub behind_arc-due-requires : goal.behind_arc-due-requires
behind_arc-due-requires c = let l = c.loop-rest in let s = c.in-Some in (right-arc c.args.count l.due l.rest.now l.invariant.near.least s.size s.ensures.length s.ensures.some).whole

pub loop-rest-smaller-in-Some : goal.loop-rest-smaller-in-Some
loop-rest-smaller-in-Some c = let l = c.loop-rest in let a = c.args in let s = c.in-Some in
    shrinks a.count a.total a.transitions a.behind.now c.requires.places l.due l.rest.now l.invariant s.size _ c.tail-rest.result.now
    (right-arc a.count l.due l.rest.now l.invariant.near.least s.size s.ensures.length s.ensures.some) c.tail-rest.ensures

pub loop-rest-preserved-in-Some : goal.loop-rest-preserved-in-Some
loop-rest-preserved-in-Some c = let l = c.loop-rest in let a = c.args in let s = c.in-Some in
    rw c.behind_arc-due.ensures (go_on a.count a.total a.transitions a.behind.now c.requires.places l.due l.rest.now l.invariant s.size _ c.tail-rest.result.now
    (right-arc a.count l.due l.rest.now l.invariant.near.least s.size s.ensures.length s.ensures.some) c.tail-rest.ensures (sym c.ended.ensures ∙ c.loop-rest-test.true))

pub unwrap-requires : goal.unwrap-requires
unwrap-requires c = let l = c.loop-rest in
    some-fault c.fault_in.result (λ z. none_right c.args.count l.due l.rest.now l.invariant.near.least 0 0 c.in_default.ensures.length c.in_default-transition_size.ensures.length refl refl (sym c.fault_in.ensures ∙ z))

pub returns-in_default-transition_size : goal.returns-in_default-transition_size
returns-in_default-transition_size c = let l = c.loop-rest in let a = c.args in
    stop a.count a.total a.transitions a.behind.now c.requires.places l.due l.rest.now l.invariant _
    (sym c.ended.ensures ∙ c.loop-rest-test.true)
    (none_right a.count l.due l.rest.now l.invariant.near.least 0 0 c.in_default.ensures.length c.in_default-transition_size.ensures.length refl refl)
    (sym (ap fault c.unwrap.ensures) ∙ c.fault_in.ensures)

pub behind_transition-due-requires : goal.behind_transition-due-requires
behind_transition-due-requires c = let l = c.loop-rest in let s = c.in-Some-transition_size in (right-transition c.args.count l.due l.rest.now l.invariant.near.least s.size s.ensures.length s.ensures.some).whole

pub loop-rest-smaller : goal.loop-rest-smaller
loop-rest-smaller c = let l = c.loop-rest in let a = c.args in let s = c.in-Some-transition_size in
    shrinks a.count a.total a.transitions a.behind.now c.requires.places l.due l.rest.now l.invariant s.size _ c.tail-rest-in_default.result.now
    (right-transition a.count l.due l.rest.now l.invariant.near.least s.size s.ensures.length s.ensures.some) c.tail-rest-in_default.ensures

pub loop-rest-preserved : goal.loop-rest-preserved
loop-rest-preserved c = let l = c.loop-rest in let a = c.args in let s = c.in-Some-transition_size in
    rw c.behind_transition-due.ensures (go_on a.count a.total a.transitions a.behind.now c.requires.places l.due l.rest.now l.invariant s.size _ c.tail-rest-in_default.result.now
    (right-transition a.count l.due l.rest.now l.invariant.near.least s.size s.ensures.length s.ensures.some) c.tail-rest-in_default.ensures (sym c.ended.ensures ∙ c.loop-rest-test.true))

pub returns : goal.returns
returns c = let l = c.loop-rest in let a = c.args in
    done a.count a.total a.transitions a.behind.now c.requires.places l.due l.rest.now l.invariant (sym c.ended.ensures ∙ c.loop-rest-test.false)
