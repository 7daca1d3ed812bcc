use Rattle.net_file.proofs.Turns.{arc-long, arc-there}
use Rattle.std.proofs.Common.{sym, ◌∙◌, arith}
use Rattle.net_file.proofs.arc_size.Goals as goal

pub size_by-requires : goal.size_by-requires
size_by-requires c = let e = arc-long c.args.due.kind c.word-kind.result c.args.rest.now c.requires (sym c.arc_next.ensures ∙ c.if-not-arc_next.false) c.word-kind.ensures in omega arith

pub field-requires : goal.field-requires
field-requires c = let t = arc-there c.args.due.kind c.word-kind.result c.in_ok-size.size c.args.rest.now c.requires (sym c.arc_next.ensures ∙ c.if-not-arc_next.false) c.word-kind.ensures c.in_ok-size.ensures.length c.in_ok-size.ensures.some in omega arith

pub field-requires-2 : goal.field-requires-2
field-requires-2 c = let t = arc-there c.args.due.kind c.word-kind.result c.in_ok-size.size c.args.rest.now c.requires (sym c.arc_next.ensures ∙ c.if-not-arc_next.false) c.word-kind.ensures c.in_ok-size.ensures.length c.in_ok-size.ensures.some in omega arith
