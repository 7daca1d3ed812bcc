use Rattle.std.proofs.Common.{refl, sym, ap, ◌∙◌}
use Rattle.effbd.specs.Answers.{fault}
use Rattle.ranges.specs.Reasons.{some-fault, number-some}
use Rattle.net_file.proofs.Places.{right-head, wrong-head}
use Rattle.net_file.proofs.Headed.{head-off, head-lent, head_done}
use Rattle.net_file.proofs.read.Goals as goal

pub unwrap-requires : goal.unwrap-requires
unwrap-requires c = some-fault c.head_fault.result (λ z. wrong-head c.args.net.now c.in_default.ensures.length (sym c.head_fault.ensures ∙ z))

pub returns-in_default : goal.returns-in_default
returns-in_default c = head-off c.args.net.now _ (sym (ap fault c.unwrap.ensures) ∙ c.head_fault.ensures) (number-some c.unwrap.result)

pub read_places-requires : goal.read_places-requires
read_places-requires c = let h = right-head c.in-Some.size c.args.net.now c.in-Some.ensures.length c.in-Some.ensures.some in
    head-lent c.args.net.now 0 h.0 refl c.word-places.result c.word-transitions.result c.in-Some.size c.tail-rest.result.now
    c.word-places.ensures c.word-transitions.ensures h.1 c.tail-rest.ensures

pub returns : goal.returns
returns c = let h = right-head c.in-Some.size c.args.net.now c.in-Some.ensures.length c.in-Some.ensures.some in
    head_done c.args.net.now 0 h.0 refl c.word-places.result c.word-transitions.result c.in-Some.size c.tail-rest.result.now
    c.word-places.ensures c.word-transitions.ensures h.1 c.tail-rest.ensures _ c.read_places.ensures
