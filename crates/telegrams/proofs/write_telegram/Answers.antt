use Rattle.effbd.specs.BusEnds.{telegram}
use Rattle.telegrams.proofs.Written.{no_room, telegram-size, stored_is}
use Rattle.telegrams.proofs.write_telegram.Goals as goal

pub returns-then-area : goal.returns-then-area
returns-then-area c = no_room 14 (telegram c.args.number c.args.station c.args.code c.args.argument) c.args.area.now (telegram-size c.args.number c.args.station c.args.code c.args.argument) c.if-area.true

pub returns : goal.returns
returns c = stored_is c.args.area.now c.args.number c.args.station c.args.code c.args.argument c.if-area.false c.put_word.ensures c.put_word-2.ensures c.put_long.ensures c.put_word-3.ensures c.put_word-4.ensures c.put_word-5.ensures
