use Rattle.std.proofs.Common.{arith}
use Rattle.net_file.proofs.Places.{head-there}
use Rattle.net_file.proofs.head_size.Goals as goal

pub field-requires : goal.field-requires
field-requires c = let t = head-there c.word-kind.result c.in_ok-size.size c.args.net.now c.if-kind-ne-NET_HEAD.false c.in_ok-size.ensures.length c.in_ok-size.ensures.some in omega arith

pub field-requires-2 : goal.field-requires-2
field-requires-2 c = let t = head-there c.word-kind.result c.in_ok-size.size c.args.net.now c.if-kind-ne-NET_HEAD.false c.in_ok-size.ensures.length c.in_ok-size.ensures.some in omega arith
