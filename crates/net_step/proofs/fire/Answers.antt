use Rattle.net_step.specs.Stepping.{fired_words, clocks_by, kept_clock}
use Rattle.net_file.specs.Contents.{transition_in, transitions_in}
use Rattle.net_walk.specs.Walked.{applied}
use Rattle.net_step.proofs.Cases.{fire-late, fire-on, mid-is, sums-of, fire-done, turned-away, moved_to}
use Rattle.effbd.specs.Nets.{give_arc}
use Rattle.effbd.specs.Answers.{accepted, refused, number}
use Rattle.std.proofs.Common.{◌≡◌, ◌-◌, ◌∙◌, ◌++◌, length, drop}
use Rattle.std.proofs.lemmas.Result.{err_from_is_err_and}
use Rattle.net_step.proofs.fire.Goals as goal

pub returns-then-clock-earliest : goal.returns-then-clock-earliest
unfolding transition_in
returns-then-clock-earliest c = let a = c.args in
    let e : fired_words (transitions_in a.net.now.count a.net.now.transitions.now) a.j (transition_in a.part.now) a.marks.now (drop (length a.marks.now) a.state.now) ≡ refused 24 (c.word-earliest.result - c.get-clock.result) =
    fire-late (transitions_in a.net.now.count a.net.now.transitions.now) a.j (transition_in a.part.now) a.marks.now a.state.now (length a.marks.now) c.get-clock.result c.word-earliest.result c.get-clock.ensures c.word-earliest.ensures c.if-clock-earliest.true in
    turned-away a.state.now _ _ e

pub returns-in_err-sums_fit : goal.returns-in_err-sums_fit
unfolding transition_in
returns-in_err-sums_fit c = let a = c.args in
    let mid = c.apply-2.new.marks in
    let arcs = c.tail-arcs.result.now in
    let r = c.in_err-sums_fit.field-0.0 in
    let e : fired_words (transitions_in a.net.now.count a.net.now.transitions.now) a.j (transition_in a.part.now) a.marks.now (drop (length a.marks.now) a.state.now) ≡ refused (number r.reason) r.value =
    fire-on (transitions_in a.net.now.count a.net.now.transitions.now) a.j (transition_in a.part.now) a.marks.now a.state.now (length a.marks.now) c.get-clock.result c.word-earliest.result c.get-clock.ensures c.word-earliest.ensures c.if-clock-earliest.false
    mid (refused (number r.reason) r.value) (mid-is a.part.now arcs a.marks.now mid c.tail-arcs.ensures c.apply.new.marks c.apply.ensures c.apply-2.ensures)
    (sums-of a.part.now arcs a.marks.now mid c.tail-arcs.ensures (refused (number r.reason) r.value) c.in_err-sums_fit.ensures) in
    let p = err_from_is_err_and c.from_residual.result c.from_residual.ensures.1 in rw (p.1, p.2) (turned-away a.state.now r _ e)

pub returns : goal.returns
unfolding transition_in
returns c = let a = c.args in
    let mid = c.apply-2.new.marks in
    let arcs = c.tail-arcs.result.now in
    let t = transition_in a.part.now in
    let ts = transitions_in a.net.now.count a.net.now.transitions.now in
    let p = length a.marks.now in
    let e : fired_words ts a.j t a.marks.now (drop p a.state.now) ≡ accepted (applied give_arc t.arcs mid ++ clocks_by (kept_clock a.j mid) 0 ts (drop p a.state.now)) =
    fire-on ts a.j t a.marks.now a.state.now p c.get-clock.result c.word-earliest.result c.get-clock.ensures c.word-earliest.ensures c.if-clock-earliest.false
    mid (accepted c.in_ok-sums_fit.field-0) (mid-is a.part.now arcs a.marks.now mid c.tail-arcs.ensures c.apply.new.marks c.apply.ensures c.apply-2.ensures)
    (sums-of a.part.now arcs a.marks.now mid c.tail-arcs.ensures (accepted c.in_ok-sums_fit.field-0) c.in_ok-sums_fit.ensures) in
    moved_to a.state.now _ _ _ e (fire-done a.part.now arcs a.marks.now mid c.tail-arcs.ensures ts a.j p a.state.now c.finish.new.state (c.apply-2.auto.marks ∙ c.apply.auto.marks) c.finish.ensures)
