use Rattle.net_file.proofs.Turns.{ten, transition-there}
use Rattle.std.proofs.Common.{arith}
use Rattle.net_file.proofs.transition_size.Goals as goal

pub size_by-requires : goal.size_by-requires
size_by-requires c = rw c.if-kind-ne-TRANSITION.false (omega (arith, ten))

pub field-requires : goal.field-requires
field-requires c = let t = transition-there c.word-kind.result c.in_ok-size.size c.args.rest.now c.if-kind-ne-TRANSITION.false c.in_ok-size.ensures.length c.in_ok-size.ensures.some in omega arith

pub field-requires-2 : goal.field-requires-2
field-requires-2 c = let t = transition-there c.word-kind.result c.in_ok-size.size c.args.rest.now c.if-kind-ne-TRANSITION.false c.in_ok-size.ensures.length c.in_ok-size.ensures.some in omega arith

pub field-requires-3 : goal.field-requires-3
field-requires-3 c = let t = transition-there c.word-kind.result c.in_ok-size.size c.args.rest.now c.if-kind-ne-TRANSITION.false c.in_ok-size.ensures.length c.in_ok-size.ensures.some in omega arith
